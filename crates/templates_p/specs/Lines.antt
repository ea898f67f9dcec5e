-- The steps at the Q-node that a partial child is.
use Rattle.std.specs.Prelude.{◌≡◌, ◌≢◌, ◌⊎◌, ℕ, ◌+◌, ◌≤◌, if◌then◌else◌, ◌==◌, List, [], ◌∷◌, ◌++◌, map, reverse, length, All, Some, None}
use Rattle.column_order.specs.Orders.{occurs}
use Rattle.pq_tree.specs.Proper.{forest}
use Rattle.arena_model.specs.declared.Shape.TheVariants.{P, Q}
use Rattle.arena_model.specs.ChildLists.{without, with_replaced, put_on}
use Rattle.arena_model.specs.Layout.{Layout, shape_at, children_at, with_children, IsAtOrAbove, StandsAlone}
use Rattle.arena_model.specs.NamedTree.{outline_below, IsOneTree, HasTwoEach}
use Rattle.pq_arena.specs.declared.node.NodeId.{NodeId}
use Rattle.bubble_pass.specs.declared.labels.Label.TheVariants.{Empty, Partial as Partly, Full}
use Rattle.bubble_pass.specs.Marks.{Marks, label_at, size_of, IsPut}
use Rattle.tree_theory.specs.Templates.{Partial}
use Rattle.templates_p.specs.Steps.{IsSameAt}

-- The Q-node k stands for the partial h, and its full children are at this end: 0 the first, 1 the last.
pub record IsShapeTo (f : Layout) (w : Marks) (k : ℕ) (h : Partial) (end : ℕ) : Type 0 where
  pub es : List ℕ
  pub fs : List ℕ
  pub is_q : shape_at f k ≡ Some Q
  pub children : ((end ≡ 1) × (children_at f k ≡ es ++ fs)) ⊎ ((end ≡ 0) × (children_at f k ≡ reverse (es ++ fs)))
  pub some_empty : 1 ≤ length es
  pub some_full : 1 ≤ length fs
  pub empty : All (λ x. label_at w x ≡ Empty) es
  pub full : All (λ x. label_at w x ≡ Full) fs
  pub empty_trees : h.e ≡ forest (map (outline_below f) es)
  pub full_trees : h.f ≡ forest (map (outline_below f) fs)

-- the child h of the P-node n may stand in its place
pub record CanHandOver (f : Layout) (n h : ℕ) : Type 0 where
  pub is_p : shape_at f n ≡ Some P
  pub child : 1 ≤ occurs (children_at f n) h
  pub above : IsAtOrAbove f.slots f.root n

-- the child h of n stands in the place of n, and n stands alone
pub record IsHandedOver (f g : Layout) (n h : ℕ) : Type 0 where
  pub columns : g.columns ≡ f.columns
  pub root : g.root ≡ (if f.root == n then h else f.root)
  pub shapes : (m : ℕ) → shape_at g m ≡ shape_at f m
  pub node_children : children_at g n ≡ without (children_at f n) h
  pub children : (m : ℕ) → m ≢ n → children_at g m ≡ with_replaced (children_at f m) n h
  pub alone : StandsAlone g n
  pub above : IsAtOrAbove g.slots g.root h

-- n is gone, and its only child h stands in its place
pub record IsHandedOn (f g : Layout) (v w : Marks) (n h : ℕ) : Type 0 where
  pub only : children_at f n ≡ h ∷ []
  pub columns : g.columns ≡ f.columns
  pub root : g.root ≡ (if f.root == n then h else f.root)
  pub gone : shape_at g n ≡ None
  pub shapes : (m : ℕ) → m ≢ n → shape_at g m ≡ shape_at f m
  pub children : (m : ℕ) → m ≢ n → children_at g m ≡ with_replaced (children_at f m) n h
  pub old : NodeId
  pub new : NodeId
  pub old_is : old.index ≡ n
  pub new_is : new.index ≡ h
  pub put : IsPut v w old new (label_at v n)

-- a node with one child left has given its place to that child h; another node is as it was
abbrev pub IsSettled : Layout → Layout → Marks → Marks → ℕ → ℕ → ℕ → Type 0
IsSettled f g v w n h a =
    ((a ≡ n) × (g ≡ f) × (w ≡ v) × (2 ≤ length (children_at f n))) ⊎ ((a ≡ h) × IsHandedOn f g v w n h)

-- the child c of the P-node n is put at an end of its child h, a Q-node
abbrev pub put_in : Layout → ℕ → ℕ → ℕ → ℕ → Layout
put_in f n h end c =
    let g : Layout = with_children f n (without (children_at f n) c) in
    with_children g h (put_on end c (children_at g h))

-- c may be put at an end of h
pub record CanPutIn (f : Layout) (n h c : ℕ) : Type 0 where
  pub is_p : shape_at f n ≡ Some P
  pub is_q : shape_at f h ≡ Some Q
  pub line : 1 ≤ occurs (children_at f n) h
  pub child : 1 ≤ occurs (children_at f n) c
  pub apart : h ≢ c
  pub above : IsAtOrAbove f.slots f.root n

-- the full child c may be put at an end of the partial child h of n
pub record CanAbsorb (f : Layout) (w : Marks) (n h c : ℕ) : Type 0 where
  pub one : IsOneTree f
  pub two : HasTwoEach f
  pub room : size_of w ≡ length f.slots
  pub put : CanPutIn f n h c
  pub partial : label_at w h ≡ Partly

-- where the node stands that had the line h and the child c: at n, with its other children, or it is h where there
-- were none
abbrev pub IsLeftWith : Layout → Marks → Layout → Marks → ℕ → ℕ → ℕ → ℕ → Type 0
IsLeftWith f v g w n h c a =
    ((a ≡ n) × (shape_at g n ≡ Some P) × (2 ≤ length (children_at g n)) × ((k : ℕ) → occurs (children_at g n) k + occurs (c ∷ []) k ≡ occurs (children_at f n) k) ×
    ((k : ℕ) → 1 ≤ occurs (children_at f n) k → k ≢ h → k ≢ c → IsSameAt f v g w k))
    ⊎ ((a ≡ h) × ((k : ℕ) → occurs (children_at f n) k ≡ occurs (h ∷ c ∷ []) k))

-- the child c was put at an end of the child h
pub record IsAbsorbed (f : Layout) (v : Marks) (g : Layout) (w : Marks) (n h c end a : ℕ) : Type 0 where
  pub shape : shape_at g h ≡ Some Q
  pub children : children_at g h ≡ put_on end c (children_at f h)
  pub added : IsSameAt f v g w c
  pub inner : (k : ℕ) → 1 ≤ occurs (children_at f h) k → IsSameAt f v g w k
  pub place : IsLeftWith f v g w n h c a
