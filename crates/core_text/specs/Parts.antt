-- The parts of a core.
use Rattle.std.specs.Prelude.{ℕ, List}
use Rattle.row_model.specs.declared.graph.Line.{Line}

-- rows, an order for each, and the lines of a cycle
pub record CoreParts : Type 0 where
  pub rows : List ℕ
  pub orders : List (List ℕ)
  pub lines : List Line
