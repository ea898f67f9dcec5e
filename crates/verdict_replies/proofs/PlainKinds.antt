-- The kinds whose instances are matrices.
use Rattle.row_model.specs.declared.kind.Kind.{Kind}
use Rattle.row_model.specs.declared.kind.Kind.TheVariants.{Matrix, Rows, Table, Circular, Convex, Doubly, Proper, Robinson, Clones}
use Rattle.instance_model.specs.Instance.{IsPlainKind}

-- what holds of each of them
pub plain_cases : (P : Kind → Type 0) → P Matrix → P Rows → P Table → P Clones → (kind : Kind) → IsPlainKind kind → P kind
plain_cases P matrix rows table clones Matrix h = matrix
plain_cases P matrix rows table clones Rows h = rows
plain_cases P matrix rows table clones Table h = table
plain_cases P matrix rows table clones Clones h = clones
plain_cases P matrix rows table clones Circular h = absurd h
plain_cases P matrix rows table clones Convex h = absurd h
plain_cases P matrix rows table clones Doubly h = absurd h
plain_cases P matrix rows table clones Proper h = absurd h
plain_cases P matrix rows table clones Robinson h = absurd h
