-- What is kept of the order while the left ends are found.
use Rattle.std.specs.Prelude.{◌≡◌, ℕ, suc, ◌+◌, ◌≤◌, ◌<◌, List, [], ◌∷◌, length, IsTrue}
use Rattle.column_order.specs.Orders.{has, occurs, place, IsWithin}
use Rattle.graph_model.specs.Graphs.{GraphValue, has_edge}
use Rattle.proper_interval.specs.Models.{IsVertex}
use Rattle.unit_model.specs.Models.{at_vertex}

-- the two vertices are adjacent
abbrev pub IsNeighbour : GraphValue → ℕ → ℕ → Type 0
IsNeighbour g u v = IsTrue (has_edge g.neighbours u v)

-- a vertex has no neighbour before a place of the order
abbrev pub HasNoneBefore : GraphValue → List ℕ → ℕ → ℕ → Type 0
HasNoneBefore g o i v = (w : ℕ) → IsVertex g w → IsNeighbour g w v → i ≤ place o w

-- u is the first neighbour of v in the order, and it stands before a place
pub record IsFirstBefore (g : GraphValue) (o : List ℕ) (i u v : ℕ) : Type 0 where
  pub vertex : IsVertex g u
  pub joined : IsNeighbour g u v
  pub before : place o u < i
  pub first : (w : ℕ) → IsVertex g w → IsNeighbour g w v → place o u ≤ place o w

-- each number of the list has the one before it in the list
abbrev pub IsLinked : List ℕ → ℕ → List ℕ → Type 0
IsLinked before prev [] = Unit {0}
IsLinked before prev (x ∷ xs) = (at_vertex before x ≡ prev) × IsLinked before x xs

-- a list of some of the numbers 1 to n, with so many, of which the last is given; each has the one before it
pub record IsLinkedList (before : List ℕ) (n last count : ℕ) (list : List ℕ) : Type 0 where
  pub prev : ℕ
  pub linked : IsLinked before prev list
  pub many : length list ≡ count
  pub has_last : IsTrue (has list last)
  pub at_last : suc (place list last) ≡ count
  pub within : IsWithin n list
  pub once : (a : ℕ) → occurs list a ≤ 1

-- the new numbers of those in the list are their levels and their places in it; the others are as before
pub record IsNumbered (levels old new list : List ℕ) : Type 0 where
  pub count : length new ≡ length old
  pub numbered : (v : ℕ) → IsTrue (has list v) → at_vertex new v ≡ at_vertex levels v + place list v
  pub kept : (v : ℕ) → 1 ≤ v → (IsTrue (has list v) → ⊥) → at_vertex new v ≡ at_vertex old v
