-- What a closed walk of odd length contains.
use Rattle.std.specs.Prelude.{ℕ, List, All, Contains}
use Rattle.row_model.specs.declared.graph.Line.{Line}
use Rattle.row_model.specs.Cycles.{IsOddWalk, IsOddCycle}

-- some lines of the walk are an odd cycle
pub record HasOddCycle (c : ℕ) (rows : List (List ℕ)) (walk : List Line) : Type 0 where
  pub lines : List Line
  pub cycle : IsOddCycle c rows lines
  pub among : All (Contains walk) lines

-- a closed walk of odd length contains an odd cycle
abbrev pub OddCycleLaw : Type 0
OddCycleLaw = (c : ℕ) (rows : List (List ℕ)) (walk : List Line) → IsOddWalk c rows walk → HasOddCycle c rows walk
