-- The left ends that an umbrella order gives (Roberts, 1969). The layer of a vertex is its distance from the first vertex
-- of its component.
use Rattle.std.specs.Prelude.{◌≡◌, ◌⊎◌, ℕ, ◌+◌, ◌-◌, ◌*◌, ◌≤◌, ◌<◌, ◌==◌, false, if◌then◌else◌, List, [], ◌∷◌, length, IsTrue}
use Rattle.column_order.specs.Orders.{has, place}
use Rattle.graph_model.specs.Graphs.{GraphValue, has_edge}
use Rattle.proper_interval.specs.Models.{IsVertex}
use Rattle.unit_model.specs.Models.{at_vertex}
use Rattle.unit_model.specs.Walks.{IsDistance, IsFirstOf}

-- a list with v put directly before u
abbrev pub put_before : ℕ → ℕ → List ℕ → List ℕ
put_before v u [] = []
put_before v u (x ∷ xs) = if x == u then v ∷ x ∷ xs else x ∷ put_before v u xs

-- v is the next vertex of the component of f that its list takes: the layers are taken one after another, and the vertices
-- of a layer in their order
pub record IsNext (g : GraphValue) (o : List ℕ) (f : ℕ) (list : List ℕ) (v : ℕ) : Type 0 where
  pub inside : IsFirstOf g o f v
  pub fresh : has list v ≡ false
  pub others : (w s t : ℕ) → IsVertex g w → IsFirstOf g o f w → IsDistance g f w s → IsDistance g f v t →
      (s < t) ⊎ ((s ≡ t) × (place o w < place o v)) → IsTrue (has list w)

-- u is the first neighbour of v in the layer before that of v
pub record IsFirstNeighbour (g : GraphValue) (o : List ℕ) (f u v : ℕ) : Type 0 where
  pub layer : ℕ
  pub above : IsDistance g f v (layer + 1)
  pub below : IsDistance g f u layer
  pub adjacent : IsTrue (has_edge g.neighbours u v)
  pub first : (w : ℕ) → IsVertex g w → IsDistance g f w layer → IsTrue (has_edge g.neighbours w v) → place o u ≤ place o w

-- the list of the component of f as it grows: it begins with f, and each next vertex is put directly before its first
-- neighbour of the layer before; those already put there for the same neighbour stay before it
pub data IsGrown (g : GraphValue) (o : List ℕ) (f : ℕ) : List ℕ → Type 0 where
  begun : IsGrown g o f (f ∷ [])
  put : (list : List ℕ) (u v : ℕ) → IsGrown g o f list → IsNext g o f list v → IsFirstNeighbour g o f u v → IsGrown g o f (put_before v u list)

-- the list of the component of f, with all its vertices
pub record IsListOf (g : GraphValue) (o : List ℕ) (f : ℕ) (list : List ℕ) : Type 0 where
  pub grown : IsGrown g o f list
  pub whole : (v : ℕ) → IsVertex g v → IsFirstOf g o f v → IsTrue (has list v)

-- the component of f has so many layers
pub record HasLayers (g : GraphValue) (o : List ℕ) (f layers : ℕ) : Type 0 where
  pub last : ℕ
  pub inside : IsFirstOf g o f last
  pub deepest : IsDistance g f last (layers - 1)
  pub some : 1 ≤ layers
  pub whole : (v k : ℕ) → IsVertex g v → IsFirstOf g o f v → IsDistance g f v k → k < layers

-- e and f are the first vertices of two components, and no component has its first vertex between them
pub record AreNextFirst (g : GraphValue) (o : List ℕ) (e f : ℕ) : Type 0 where
  pub first : IsFirstOf g o e e
  pub second : IsFirstOf g o f f
  pub after : place o e < place o f
  pub next : (h : ℕ) → IsVertex g h → IsFirstOf g o h h → place o e < place o h → place o f ≤ place o h

-- the base of the component of f: that of the first component is 0, and after a component with L layers it rises by
-- L + 1 times the number of vertices of the graph
pub data IsBase (g : GraphValue) (o : List ℕ) : ℕ → ℕ → Type 0 where
  base_first : (f : ℕ) → IsFirstOf g o f f → place o f ≡ 0 → IsBase g o f 0
  base_next : (e f base layers next : ℕ) → IsBase g o e base → AreNextFirst g o e f → HasLayers g o e layers → next ≡ base + (layers + 1) * g.vertices →
      IsBase g o f next

-- the left end of v: with n vertices, layer t, and place p in the list of its component, from 0, it is the base and tn + p
pub record IsLeftEnd (g : GraphValue) (o : List ℕ) (v left : ℕ) : Type 0 where
  pub f : ℕ
  pub layer : ℕ
  pub base : ℕ
  pub list : List ℕ
  pub first : IsFirstOf g o f v
  pub distance : IsDistance g f v layer
  pub base_of : IsBase g o f base
  pub list_of : IsListOf g o f list
  pub is : left ≡ base + layer * g.vertices + place list v

-- the left ends of all vertices, vertex by vertex
pub record AreLeftEnds (g : GraphValue) (o : List ℕ) (lefts : List ℕ) : Type 0 where
  pub count : length lefts ≡ g.vertices
  pub each : (v : ℕ) → IsVertex g v → IsLeftEnd g o v (at_vertex lefts v)
