-- Sets of places: each place has a parent in its set, and the root of a set is its own parent.
use Rattle.std.specs.Prelude.{◌≡◌, ℕ, ◌<◌, ◌≤◌, List, length, slice_index}
use Rattle.row_model.specs.declared.graph.Pair.{Pair}
use Rattle.row_model.specs.Graph.{Evenly}

-- no place has a parent that comes after it
abbrev pub AreParents : List ℕ → Type 0
AreParents parents = (i : ℕ) → i < length parents → slice_index parents i ≤ i

-- each place is its own parent
abbrev pub AreAlone : List ℕ → Type 0
AreAlone parents = (i : ℕ) → i < length parents → slice_index parents i ≡ i

-- the parent of each place is its own parent
abbrev pub AreFlat : List ℕ → Type 0
AreFlat parents = (i : ℕ) → i < length parents → slice_index parents (slice_index parents i) ≡ slice_index parents i

-- each place has the label of its parent, so that all places of a set have one label
abbrev pub AgreesInSets : (ℕ → ℕ) → List ℕ → Type 0
AgreesInSets label parents = (i : ℕ) → i < length parents → label (slice_index parents i) ≡ label i

-- a walk of even length leads from the pair of each place to the pair of its parent, in the graph of these rows
abbrev pub AreEvenSets : ℕ → List (List ℕ) → (ℕ → Pair) → List ℕ → Type 0
AreEvenSets c rows pair_of parents = (i : ℕ) → i < length parents → Evenly c rows (pair_of i) (pair_of (slice_index parents i))

-- the sets and their roots are as before, and the parents lead from the one place up to the other
pub record Climbs (old new : List ℕ) (place to : ℕ) : Type 0 where
  pub parents : AreParents new
  pub within : to < length new
  pub roots : (i : ℕ) → slice_index old i ≡ i → slice_index new i ≡ i
  pub labels : (label : ℕ → ℕ) → AgreesInSets label new → AgreesInSets label old × (label place ≡ label to)
  pub even : (c : ℕ) (rows : List (List ℕ)) (pair_of : ℕ → Pair) → AreEvenSets c rows pair_of old →
      AreEvenSets c rows pair_of new × Evenly c rows (pair_of place) (pair_of to)

-- the sets are as before, but for the sets of two places, which are one
pub record Unites (old new : List ℕ) (x y : ℕ) : Type 0 where
  pub parents : AreParents new
  pub labels : (label : ℕ → ℕ) → AgreesInSets label new → AgreesInSets label old × (label x ≡ label y)
  pub even : (c : ℕ) (rows : List (List ℕ)) (pair_of : ℕ → Pair) → AreEvenSets c rows pair_of old → Evenly c rows (pair_of x) (pair_of y) →
      AreEvenSets c rows pair_of new

-- the sets are as before, and the parent of each place is the root of its set
pub record Flattens (old new : List ℕ) : Type 0 where
  pub parents : AreParents new
  pub flat : AreFlat new
  pub labels : (label : ℕ → ℕ) → AgreesInSets label new → AgreesInSets label old
  pub even : (c : ℕ) (rows : List (List ℕ)) (pair_of : ℕ → Pair) → AreEvenSets c rows pair_of old → AreEvenSets c rows pair_of new
