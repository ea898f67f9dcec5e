-- How few flips and lines an odd cycle needs.
use Rattle.std.specs.Prelude.{◌≡◌, ◌≢◌, ◌⊎◌, ℕ, ◌+◌, ◌-◌, ◌*◌, ◌≤◌, nat_lt, if◌then◌else◌, Bool, true, false, List, [], ◌∷◌, ◌++◌, length, AllPairs, Contains}
use Rattle.row_model.specs.declared.graph.Pair.{Pair}
use Rattle.row_model.specs.declared.graph.Line.{Line}
use Rattle.row_model.specs.declared.graph.Why.{Why}
use Rattle.row_model.specs.declared.graph.Why.TheVariants.{Flip, Row}
use Rattle.row_model.specs.Graph.{turned}

-- 1 for a flip, and 0 for a row
abbrev pub flip_of : Why → ℕ
flip_of Flip = 1
flip_of (Row k) = 0

-- the number of lines that are flips
abbrev pub flips : List Line → ℕ
flips [] = 0
flips (line ∷ lines) = flip_of line.why + flips lines

-- at most one line is a flip, and there are at most c(c - 1)/2 + 1 lines
pub record IsShort (c : ℕ) (lines : List Line) : Type 0 where
  pub one_flip : flips lines ≤ 1
  pub half : 2 * length lines ≤ c * (c - 1) + 2

-- the pair, or the pair turned
abbrev pub turned_if : Bool → Pair → Pair
turned_if true v = turned v
turned_if false v = v

-- 1 where it is so
abbrev pub one_if : Bool → ℕ
one_if true = 1
one_if false = 0

-- the pair with its lesser column first
abbrev pub lesser_first : Pair → Pair
lesser_first v = if nat_lt v.b v.a then turned v else v

-- the columns of a line, the lesser one first
abbrev pub columns_of : Line → Pair
columns_of line = lesser_first line.pair

-- no line is a flip, and no two lines have the same two columns
pub record IsStraight (lines : List Line) : Type 0 where
  pub no_flip : flips lines ≡ 0
  pub apart : AllPairs (λ earlier later. columns_of earlier ≢ columns_of later) lines

-- such lines, or such lines with a flip behind them
abbrev pub IsFolded : List Line → Type 0
IsFolded lines = IsStraight lines ⊎ ((path : List Line) × (last : Line) × IsStraight path × (last.why ≡ Flip) × (lines ≡ path ++ last ∷ []))

-- the line is a flip, or has the reason of a line of the walk
abbrev pub IsNamedBy : List Line → Line → Type 0
IsNamedBy walk line = (line.why ≡ Flip) ⊎ ((other : Line) × Contains walk other × (other.why ≡ line.why))
