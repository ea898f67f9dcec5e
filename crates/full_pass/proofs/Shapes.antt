-- Nodes with children, and how many nodes there are.
use Rattle.std.proofs.Common.{◌≡◌, ◌≢◌, ◌⊎◌, inl, inr, ℕ, ◌≤◌, List, [], length, Option, Some, None, refl, sym, subst, ◌∙◌, arith}
use Rattle.column_order.specs.Orders.{occurs}
use Rattle.arena_model.specs.declared.Shape.{Shape}
use Rattle.arena_model.specs.declared.Shape.TheVariants.{Leaf, P, Q}
use Rattle.arena_model.specs.Layout.{Layout, shape_at, children_at, times_child, MayHaveChildren, IsLayout}
use Rattle.arena_model.proofs.Lists.{few_once}
use Rattle.arena_model.proofs.Slots.{children_times, in_range}

-- a node with a child is a P-node or a Q-node
pub has_children : (s : Option Shape) (ks : List ℕ) (k : ℕ) → MayHaveChildren s ks → 1 ≤ occurs ks k → (s ≡ Some P) ⊎ (s ≡ Some Q)
has_children None ks k m o = absurd (let i : 1 ≤ occurs [] k = subst (λ z. 1 ≤ occurs z k) m o in omega arith)
has_children (Some (Leaf a)) ks k m o = absurd (let i : 1 ≤ occurs [] k = subst (λ z. 1 ≤ occurs z k) m o in omega arith)
has_children (Some P) ks k m o = inl refl
has_children (Some Q) ks k m o = inr refl

-- a node has no more children than there are nodes
pub children_within : (f : Layout) (p : ℕ) → IsLayout f → length (children_at f p) ≤ length f.slots
children_within f p h =
    few_once (children_at f p) (length f.slots)
    (λ x. let k : occurs (children_at f p) x ≤ times_child f.slots x = children_times f p x in let o : times_child f.slots x ≤ 1 = h.once x in omega arith)
    (λ x o. in_range f x (h.used x (let k : occurs (children_at f p) x ≤ times_child f.slots x = children_times f p x in omega arith)))

-- a leaf has no child
pub leaf_children : (s : Option Shape) (ks : List ℕ) (a k : ℕ) → s ≡ Some (Leaf a) → MayHaveChildren s ks → 1 ≤ occurs ks k → ⊥
leaf_children s ks a k e may o =
    let n : ks ≡ [] = subst (λ z. MayHaveChildren z ks) e may in
    let i : 1 ≤ occurs [] k = subst (λ z. 1 ≤ occurs z k) n o in omega arith

-- a P-node is no Q-node
pub shapes_apart : (f : Layout) (p q : ℕ) → shape_at f p ≡ Some P → shape_at f q ≡ Some Q → p ≢ q
shapes_apart f p q sp sq e = let z : Some P ≡ Some Q = sym sp ∙ subst (λ y. shape_at f y ≡ Some Q) (sym e) sq in cc
