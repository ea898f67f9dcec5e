-- The first reason for which two pairs are joined.
use Rattle.std.specs.Prelude.{ℕ, ◌<◌, List}
use Rattle.row_model.specs.declared.graph.Pair.{Pair}
use Rattle.row_model.specs.declared.graph.Why.{Why}
use Rattle.row_model.specs.declared.graph.Why.TheVariants.{Flip, Row}
use Rattle.row_model.specs.Graph.{JoinedBy}

-- the first of two reasons comes before the second: reasons are flip, row 1, row 2 and so on
abbrev pub ComesBefore : Why → Why → Type 0
ComesBefore first Flip = ⊥
ComesBefore Flip (Row k) = Unit {0}
ComesBefore (Row i) (Row k) = i < k

-- the pairs are joined for this reason, and for none that comes before it
pub record IsFirstReason (c : ℕ) (rows : List (List ℕ)) (v w : Pair) (why : Why) : Type 0 where
  pub joined : JoinedBy c rows v w why
  pub first : (other : Why) → ComesBefore other why → JoinedBy c rows v w other → ⊥
