-- How long an odd cycle is.
use Rattle.std.specs.Prelude.{ℕ, ◌-◌, ◌*◌, ◌≤◌, List, length}
use Rattle.row_model.specs.declared.graph.Line.{Line}
use Rattle.row_model.specs.Cycles.{IsOddCycle, IsOddWalk}
use Rattle.odd_cycle.specs.Short.{IsFolded, IsShort}

-- a cycle has no more lines than there are ordered pairs of distinct columns
abbrev pub CycleLengthLaw : Type 0
CycleLengthLaw = (c : ℕ) (rows : List (List ℕ)) (lines : List Line) → IsOddCycle c rows lines → length lines ≤ c * (c - 1)

-- a folded closed walk of odd length is an odd cycle, and a short one
abbrev pub ShortCycleLaw : Type 0
ShortCycleLaw = (c : ℕ) (rows : List (List ℕ)) (lines : List Line) → IsOddWalk c rows lines → IsFolded lines → IsOddCycle c rows lines × IsShort c lines
