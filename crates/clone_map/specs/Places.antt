-- Where the clones stand in an order of the probes: a clone is a row, a probe is a column. Positions count from 1.
use Rattle.std.specs.Prelude.{◌≡◌, ℕ, ◌-◌, ◌≤◌, List, [], length, slice_index, IsTrue}
use Rattle.std.specs.List.{AllZip}
use Rattle.column_order.specs.Orders.{has}
use Rattle.row_model.specs.declared.lists.Place.{Place}
use Rattle.row_model.specs.declared.lists.Place.TheVariants.{Nowhere, At}

-- the probe at a position
abbrev pub probe_at : List ℕ → ℕ → ℕ
probe_at o i = slice_index o (i - 1)

-- at the position stands a probe of the clone
pub record StandsAt (o clone : List ℕ) (i : ℕ) : Type 0 where
  pub from : 1 ≤ i
  pub to : i ≤ length o
  pub holds : IsTrue (has clone (probe_at o i))

-- the first and the last position of the clone's probes: one of them stands at each, none before the first and none after the last
pub record StandsFrom (o clone : List ℕ) (first last : ℕ) : Type 0 where
  pub at_first : StandsAt o clone first
  pub at_last : StandsAt o clone last
  pub none_before : (i : ℕ) → StandsAt o clone i → first ≤ i
  pub none_after : (i : ℕ) → StandsAt o clone i → i ≤ last

-- the place of a clone: none for an empty clone, and else the first and the last position of its probes
abbrev pub IsPlaceOf : List ℕ → List ℕ → Place → Type 0
IsPlaceOf o clone Nowhere = clone ≡ []
IsPlaceOf o clone (At first last) = StandsFrom o clone first last

-- one place for each clone, in the order of the clones
abbrev pub ArePlaces : List ℕ → List (List ℕ) → List Place → Type 0
ArePlaces o clones places = AllZip (IsPlaceOf o) clones places
