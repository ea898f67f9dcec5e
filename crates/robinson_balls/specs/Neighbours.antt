-- The items in rising order of their distances from a centre.
use Rattle.std.specs.Prelude.{ℕ, ◌+◌, ◌<◌, ◌≤◌, ◌==◌, nat_lt, if◌then◌else◌, List, [], ◌∷◌, length, map, slice_index_or}
use Rattle.std.specs.List.{range_with_len}
use Rattle.std.specs.List.Sorted.{IsPermutation, IsNonDecreasingBy}
use Rattle.graph_model.specs.Distances.{DistancesValue}
use Rattle.robinson_balls.specs.declared.neighbours.Neighbour.{Neighbour}
use Rattle.robinson_balls.specs.Balls.{between}

-- an item with its distance from x
abbrev pub neighbour : DistancesValue → ℕ → ℕ → Neighbour
neighbour d x y = record { item = y; distance = between d x y }

-- each item once with its distance from x, and the distances do not fall along the list
pub record AreNeighbours (d : DistancesValue) (x : ℕ) (neighbours : List Neighbour) : Type 0 where
  pub every : IsPermutation (map (neighbour d x) (range_with_len 1 d.items)) neighbours
  pub rising : IsNonDecreasingBy (λ (near : Neighbour). near.distance) neighbours

-- a rising list of items with one item more, where the list lacks it
abbrev pub with_item : ℕ → List ℕ → List ℕ
with_item item [] = item ∷ []
with_item item (first ∷ rest) =
    if nat_lt first item then first ∷ with_item item rest else if first == item then first ∷ rest else item ∷ first ∷ rest

-- a rising list of items with those of some neighbours, where the list lacks them
abbrev pub with_items : List Neighbour → List ℕ → List ℕ
with_items [] items = items
with_items (first ∷ rest) items = with_items rest (with_item first.item items)

-- the neighbour in place k, from 0, is nearer than the next, where there is one
abbrev pub EndsBall : List Neighbour → ℕ → Type 0
EndsBall neighbours k = (other : Neighbour) → k + 1 < length neighbours → (slice_index_or neighbours k other).distance < (slice_index_or neighbours (k + 1) other).distance

-- there is a next neighbour, which is no farther than that in place k
abbrev pub GoesOn : List Neighbour → ℕ → Type 0
GoesOn neighbours k = (k + 1 < length neighbours) × ((other : Neighbour) → (slice_index_or neighbours (k + 1) other).distance ≤ (slice_index_or neighbours k other).distance)
