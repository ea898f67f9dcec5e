-- Closed walks of the incompatibility graph, written as lists of lines.
use Rattle.std.specs.Prelude.{◌≡◌, ◌≢◌, ℕ, ◌%◌, ◌≤◌, List, [], ◌∷◌, length, AllPairs}
use Rattle.row_model.specs.declared.graph.Pair.{Pair}
use Rattle.row_model.specs.declared.graph.Line.{Line}
use Rattle.row_model.specs.Graph.{JoinedBy}

-- the pair of a line
abbrev pub pair_of : Line → Pair
pair_of line = line.pair

-- the pair of the first line, or another pair where there is no line
abbrev pub first_pair : List Line → Pair → Pair
first_pair [] other = other
first_pair (line ∷ lines) other = line.pair

-- the reason of each line joins its pair to the pair of the next line, and that of the last line to the end
abbrev pub LeadTo : ℕ → List (List ℕ) → List Line → Pair → Type 0
LeadTo c rows [] end = Unit {0}
LeadTo c rows (line ∷ lines) end = JoinedBy c rows line.pair (first_pair lines end) line.why × LeadTo c rows lines end

-- the reason of each line joins its pair to the pair of the next line, and that of the last line to the pair of the first
abbrev pub IsClosedWalk : ℕ → List (List ℕ) → List Line → Type 0
IsClosedWalk c rows [] = Unit {0}
IsClosedWalk c rows (line ∷ lines) = LeadTo c rows (line ∷ lines) line.pair

-- the number is odd
abbrev pub IsOdd : ℕ → Type 0
IsOdd n = n % 2 ≡ 1

-- an odd number of lines, three or more, with no pair twice
pub record IsSimpleOdd (lines : List Line) : Type 0 where
  pub odd : IsOdd (length lines)
  pub long : 3 ≤ length lines
  pub distinct : AllPairs (λ earlier later. earlier.pair ≢ later.pair) lines

-- a closed walk of odd length
pub record IsOddWalk (c : ℕ) (rows : List (List ℕ)) (lines : List Line) : Type 0 where
  pub closed : IsClosedWalk c rows lines
  pub odd : IsOdd (length lines)

-- an odd cycle: a closed walk with an odd number of lines, three or more, and no pair twice
pub record IsOddCycle (c : ℕ) (rows : List (List ℕ)) (lines : List Line) : Type 0 where
  pub closed : IsClosedWalk c rows lines
  pub simple : IsSimpleOdd lines
