-- The steps by which a closed walk is folded.
use Rattle.std.specs.Prelude.{◌≡◌, ◌⊎◌, ℕ, ◌+◌, Bool, true, false, not, List, [], ◌∷◌, length, slice_get, Some}
use Rattle.row_model.specs.declared.graph.Pair.{Pair}
use Rattle.row_model.specs.declared.graph.Line.{Line}
use Rattle.row_model.specs.declared.graph.Why.TheVariants.{Flip}
use Rattle.odd_cycle.specs.Numbers.{Numbering, number_of}
use Rattle.odd_cycle.specs.Short.{turned_if, lesser_first, columns_of}

-- one is true and the other is not
abbrev pub differ : Bool → Bool → Bool
differ true other = not other
differ false other = other

-- the line that closes a path which leads to v: a flip where v is the path's first pair turned, and else none
abbrev pub closing : Bool → Pair → List Line
closing true v = record { pair = v; why = Flip } ∷ []
closing false v = []

-- the place is that of the line with the columns of v, or the length of the path where it has none
abbrev pub IsPlaceOf : Numbering → List Line → Pair → ℕ → Type 0
IsPlaceOf numbers path v place = (number_of numbers (lesser_first v) ≡ place + 1) ⊎ ((number_of numbers (lesser_first v) ≡ 0) × (place ≡ length path))

-- whether the line at this place has v turned; at no other place than those of lines it is false
pub record TellsTurned (path : List Line) (place : ℕ) (v : Pair) (back : Bool) : Type 0 where
  pub there : (line : Line) → slice_get path place ≡ Some line → columns_of line ≡ lesser_first v → line.pair ≡ turned_if back v
  pub past : place ≡ length path → back ≡ false
