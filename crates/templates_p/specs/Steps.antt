-- The steps of which the templates are made: single nodes move, and what else is known then.
use Rattle.std.specs.Prelude.{◌≡◌, ◌≢◌, ℕ, ◌+◌, ◌*◌, ◌≤◌, ◌<◌, List, [], ◌∷◌, map, length, Option, Some, None}
use Rattle.column_order.specs.Orders.{occurs}
use Rattle.pq_tree.specs.Proper.{forest}
use Rattle.pq_tree.specs.Equivalent.{AreEquivalent}
use Rattle.arena_model.specs.declared.Shape.TheVariants.{P}
use Rattle.arena_model.specs.ChildLists.{without}
use Rattle.arena_model.specs.Layout.{Layout, slot, shape_at, children_at, times_child, with_children, IsAtOrAbove, StandsAlone}
use Rattle.arena_model.specs.NamedTree.{outline_below}
use Rattle.pq_arena.specs.declared.node.NodeId.{NodeId}
use Rattle.bubble_pass.specs.declared.labels.Label.{Label as Mark}
use Rattle.bubble_pass.specs.declared.labels.Label.TheVariants.{Empty, Full}
use Rattle.pq_arena.specs.RowNodes.{indices}
use Rattle.bubble_pass.specs.Marks.{Marks, label_at, fulls_at, partials_at, IsFollowed}
use Rattle.tree_theory.specs.Templates.{Partial, star}
use Rattle.template_model.specs.Standing.{IsShapeAt, IsReady}
use Rattle.templates_p.specs.Sorts.{full_nodes, empty_nodes, partial_nodes}

-- the node k has the label, the tree and the Q-shape that it had
pub record IsSameAt (f : Layout) (v : Marks) (g : Layout) (w : Marks) (k : ℕ) : Type 0 where
  pub label : label_at w k ≡ label_at v k
  pub tree : outline_below g k ≡ outline_below f k
  pub shape : (h : Partial) → IsShapeAt f v k h → IsShapeAt g w k h

-- some child of n other than skip has this label
pub record HasChildWith (f : Layout) (w : Marks) (n : ℕ) (label : Mark) (skip : ℕ) : Type 0 where
  pub ready : IsReady f w n
  pub k : ℕ
  pub child : 1 ≤ occurs (children_at f n) k
  pub labelled : label_at w k ≡ label
  pub other : k ≢ skip
  pub marked : label ≢ Empty

-- while a child with this label is looked for: `left` labelled children come yet, the first of them is next
pub record Searching (f : Layout) (w : Marks) (n : ℕ) (label : Mark) (skip left : ℕ) (next : Option NodeId) : Type 0 where
  pub rest : List NodeId
  pub followed : IsFollowed w next rest
  pub count : left ≡ length rest
  pub child : (k : ℕ) → 1 ≤ occurs (indices rest) k → 1 ≤ occurs (children_at f n) k
  pub k : ℕ
  pub ahead : 1 ≤ occurs (indices rest) k
  pub labelled : label_at w k ≡ label
  pub other : k ≢ skip

-- the child c of p is the first child of q
abbrev pub moved_under : Layout → ℕ → ℕ → ℕ → Layout
moved_under f p q c =
    let g : Layout = with_children f p (without (children_at f p) c) in
    with_children g q (c ∷ children_at g q)

-- c may move from p to q
pub record CanMove (f : Layout) (p q c : ℕ) : Type 0 where
  pub apart : p ≢ q
  pub from : shape_at f p ≡ Some P
  pub to : shape_at f q ≡ Some P
  pub alone : times_child f.slots q ≡ 0
  pub child : 1 ≤ occurs (children_at f p) c

-- the list without all of these
abbrev pub without_all : List ℕ → List ℕ → List ℕ
without_all ks [] = ks
without_all ks (n ∷ ns) = without_all (without ks n) ns

-- the second list with each of the first put in front
abbrev pub onto : List ℕ → List ℕ → List ℕ
onto [] ys = ys
onto (n ∷ ns) ys = onto ns (n ∷ ys)

-- the children `done` of the P-node n have moved to x, a new P-node that stands alone
pub record Moved (f g : Layout) (n x : ℕ) (done : List ℕ) : Type 0 where
  pub fresh : shape_at f x ≡ None
  pub node_shape : shape_at g n ≡ Some P
  pub group_shape : shape_at g x ≡ Some P
  pub node_children : children_at g n ≡ without_all (children_at f n) done
  pub group_children : children_at g x ≡ onto done []
  pub others : (m : ℕ) → m ≢ n → m ≢ x → slot g.slots m ≡ slot f.slots m
  pub alone : StandsAlone g x
  pub root : g.root ≡ f.root
  pub columns : g.columns ≡ f.columns
  pub below : IsAtOrAbove g.slots g.root n

-- while the full children of n move to x: `passed` was walked over, and `rest` comes yet
pub record Gathering (f g : Layout) (w : Marks) (n x left : ℕ) (next : Option NodeId) (start now : ℕ) : Type 0 where
  pub passed : List NodeId
  pub rest : List NodeId
  pub followed : IsFollowed w next rest
  pub count : left ≡ length rest
  pub all : (k : ℕ) → occurs (indices passed) k + occurs (indices rest) k ≡ occurs (full_nodes w (children_at f n)) k + occurs (partial_nodes w (children_at f n)) k
  pub moved : Moved f g n x (full_nodes w (indices passed))
  pub ticks : now ≤ start + 2 * length passed + 1
  pub length : length passed + length rest ≡ fulls_at w n + partials_at w n

-- The full children of n have become y: it is a child of n, full, and stands for all of them, and each other child is
-- as it was.
pub record HasGroup (f : Layout) (v : Marks) (g : Layout) (w : Marks) (n y : ℕ) : Type 0 where
  pub shape : shape_at g n ≡ Some P
  pub children : (k : ℕ) → occurs (children_at g n) k ≡ occurs (y ∷ []) k + occurs (empty_nodes v (children_at f n)) k + occurs (partial_nodes v (children_at f n)) k
  pub label : label_at w y ≡ Full
  pub tree : AreEquivalent (star (forest (map (outline_below f) (full_nodes v (children_at f n))))) (outline_below g y ∷ [])
  pub others : (k : ℕ) → 1 ≤ occurs (empty_nodes v (children_at f n)) k + occurs (partial_nodes v (children_at f n)) k → IsSameAt f v g w k

-- what became of the full children of n: nothing where there is none
abbrev pub IsGathered : Layout → Marks → Layout → Marks → ℕ → Option NodeId → Type 0
IsGathered f v g w n None = (full_nodes v (children_at f n) ≡ []) × (g ≡ f) × (w ≡ v)
IsGathered f v g w n (Some y) = HasGroup f v g w n y.index

-- some child of the P-node n is not full
pub record CanGather (f : Layout) (w : Marks) (n : ℕ) : Type 0 where
  pub ready : IsReady f w n
  pub is_p : shape_at f n ≡ Some P
  pub more : fulls_at w n < length (children_at f n)
