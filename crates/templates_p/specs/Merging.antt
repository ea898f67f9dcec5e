-- The steps by which two partial children become one Q-node.
use Rattle.std.specs.Prelude.{◌≡◌, ℕ, ◌+◌, ◌≤◌, if◌then◌else◌, ◌==◌, List, ◌++◌, reverse, Option, Some, None}
use Rattle.column_order.specs.Orders.{occurs}
use Rattle.arena_model.specs.declared.Shape.TheVariants.{Q}
use Rattle.arena_model.specs.Layout.{Layout, shape_at, children_at}
use Rattle.pq_arena.specs.declared.node.NodeId.{NodeId}
use Rattle.bubble_pass.specs.Marks.{Marks}
use Rattle.templates_p.specs.Steps.{IsSameAt}
use Rattle.templates_p.specs.Lines.{put_in, CanPutIn, CanAbsorb, IsLeftWith}

-- the child c of the P-node n, where there is one, is put at an end of its child h, a Q-node
abbrev pub put_in_if : Layout → ℕ → ℕ → ℕ → Option NodeId → Layout
put_in_if f n h end None = f
put_in_if f n h end (Some c) = put_in f n h end c.index

-- c, where there is one, may be put at an end of h
abbrev pub CanPutInIf : Layout → ℕ → ℕ → Option NodeId → Type 0
CanPutInIf f n h None = Unit {0}
CanPutInIf f n h (Some c) = CanPutIn f n h c.index

-- the list ks with ms put on at its end 0 or its end 1, the first of ms outermost
abbrev pub laid_on : ℕ → List ℕ → List ℕ → List ℕ
laid_on end ms ks = if end == 0 then ms ++ ks else ks ++ reverse ms

-- the children of the child c of the P-node n may be put at an end of its partial child h
pub record CanMerge (f : Layout) (w : Marks) (n h c : ℕ) : Type 0 where
  pub absorb : CanAbsorb f w n h c
  pub is_q : shape_at f c ≡ Some Q

-- The child c of n was given back, and its children stand among the children js of the child h.
pub record IsMerged (f : Layout) (v : Marks) (g : Layout) (w : Marks) (n h c a : ℕ) (js : List ℕ) : Type 0 where
  pub shape : shape_at g h ≡ Some Q
  pub children : children_at g h ≡ js
  pub inner : (k : ℕ) → 1 ≤ occurs (children_at f h) k + occurs (children_at f c) k → IsSameAt f v g w k
  pub place : IsLeftWith f v g w n h c a
