-- Runs of positions that no gap between two places divides.
use Rattle.std.specs.Prelude.{◌≡◌, ◌⊎◌, ℕ, ◌+◌, ◌<◌, ◌≤◌, List, length, slice_index, All, Contains}
use Rattle.row_model.specs.declared.lists.Place.{Place}
use Rattle.row_model.specs.declared.lists.Place.TheVariants.{Nowhere, At}
use Rattle.row_model.specs.declared.lists.Span.{Span}
use Rattle.clone_map.specs.Contigs.{Cover}

-- a place within positions 1 to end
abbrev pub IsWithinPositions : ℕ → Place → Type 0
IsWithinPositions end Nowhere = Unit {0}
IsWithinPositions end (At first last) = (1 ≤ first) × (first ≤ last) × (last ≤ end)

-- for each position, from 1, the greatest last position of the places that begin there, or 0 where none does
pub record AreReaches (count : ℕ) (places : List Place) (reaches : List ℕ) : Type 0 where
  pub size : length reaches ≡ count
  pub greatest : (i last : ℕ) → Contains places (At (i + 1) last) → last ≤ slice_index reaches i
  pub taken : (i : ℕ) → (slice_index reaches i ≡ 0) ⊎ Contains places (At (i + 1) (slice_index reaches i))

-- some place covers the gap after the position
pub record IsCovered (places : List Place) (gap : ℕ) : Type 0 where
  pub first : ℕ
  pub last : ℕ
  pub among : Contains places (At first last)
  pub before : first ≤ gap
  pub after : gap < last

-- each gap within the span is covered, and the gap after it is not
pub record IsRun (places : List Place) (span : Span) : Type 0 where
  pub within : (gap : ℕ) → span.first ≤ gap → gap < span.last → IsCovered places gap
  pub ends : IsCovered places span.last → ⊥

-- the runs of the positions from 1 on, from left to right
pub record AreRuns (count : ℕ) (places : List Place) (spans : List Span) : Type 0 where
  pub cover : Cover 0 count spans
  pub runs : All (IsRun places) spans
