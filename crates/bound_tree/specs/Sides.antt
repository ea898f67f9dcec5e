-- An order seen from one of its sides, and the positions that a gap passes.
use Rattle.std.specs.Prelude.{◌⊎◌, ℕ, ◌+◌, ◌-◌, ◌<◌, ◌≤◌, List, length, slice_index}
use Rattle.open_gaps.specs.Gaps.{IsOpen}
use Rattle.bound_tree.specs.declared.side.Side.{Side}
use Rattle.bound_tree.specs.declared.side.Side.TheVariants.{Left, Right}
use Rattle.bound_tree.specs.declared.stretch.Stretch.{Stretch}
use Rattle.bound_tree.specs.Stretches.{stretch}

-- the gap behind position q is open for the column at position p, where positions count from this side
abbrev pub IsOpenFrom : Side → List (List ℕ) → List ℕ → ℕ → ℕ → Type 0
IsOpenFrom Left rows o q p = IsOpen rows o q p
IsOpenFrom Right rows o q p = IsOpen rows o (length o - 2 - q) (length o - 1 - p)

-- the gap before the position `at` passes p, farther before it: there is a gap before p, and it is open for the column at - 1
pub record IsPassed (side : Side) (rows : List (List ℕ)) (o : List ℕ) (at p : ℕ) : Type 0 where
  pub some : 1 ≤ p
  pub apart : p + 1 < at
  pub opens : IsOpenFrom side rows o (p - 1) (at - 1)

-- the gap of the stretch is open for the column at each position before the stretch, or passes the position
abbrev pub IsFreeFrom : Side → List (List ℕ) → List ℕ → Stretch → Type 0
IsFreeFrom side rows o s = (p : ℕ) → p < s.from → IsOpenFrom side rows o (s.at - 1) p ⊎ IsPassed side rows o s.at p

-- a stretch among n positions as it is seen from the other side
abbrev pub turned_stretch : ℕ → Stretch → Stretch
turned_stretch n s = stretch (n - s.at) (n - s.to) (n - s.from)

-- the table has for each position but the first one before it
abbrev pub GoesDown : List ℕ → Type 0
GoesDown before = (i : ℕ) → 1 ≤ i → i < length before → slice_index before i < i

-- between each position and the one that the table has for it stand only such positions
abbrev pub SkipsOnly : (ℕ → Type 0) → List ℕ → Type 0
SkipsOnly P before = (i p : ℕ) → i < length before → slice_index before i < p → p < i → P p
