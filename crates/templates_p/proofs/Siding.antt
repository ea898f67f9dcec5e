-- Which end of a Q-shape is full.
use Rattle.std.proofs.Common.{◌≡◌, ◌≢◌, ◌⊎◌, inl, inr, ℕ, ◌+◌, ◌*◌, ◌≤◌, ◌<◌, cond, List, [], ◌∷◌, ◌++◌, length, reverse, Some, None, refl, sym, ap, subst, ◌∙◌, arith, slice_index_or}
use Rattle.std.proofs.lemmas.Bool.{cases_eq, ne_eqb}
use Rattle.std.proofs.lemmas.List.{reverse-append}
use Rattle.std.proofs.lemmas.List.Elements.{All-head, All-tail}
use Rattle.std.specs.Prelude.{All}
use Rattle.column_order.specs.Orders.{occurs}
use Rattle.arena_model.specs.declared.Shape.TheVariants.{Q}
use Rattle.arena_model.specs.ChildLists.{head_or, none}
use Rattle.arena_model.specs.Layout.{Layout, shape_at, children_at, IsLayout}
use Rattle.arena_model.proofs.Lists.{occurs_here, occurs_other}
use Rattle.arena_model.proofs.Slots.{some_inj, in_range, child_used}
use Rattle.pq_arena.specs.declared.node.NodeId.{NodeId}
use Rattle.pq_arena.specs.declared.node.NodeView.{NodeView}
use Rattle.pq_arena.specs.Looks.{ShowsNode, shown_ends, node_named}
use Rattle.bubble_pass.specs.declared.labels.Label.TheVariants.{Empty, Full}
use Rattle.bubble_pass.specs.Marks.{Marks, label_at}
use Rattle.tree_theory.specs.Templates.{Partial}
use Rattle.template_model.specs.Standing.{IsShapeAt}
use Rattle.templates_p.specs.Lines.{IsShapeTo}
use Rattle.templates_p.proofs.Framing.{reverse_occurs, shape_member}

pub all_at : (H : ℕ → Type 0) (xs : List ℕ) (k : ℕ) → All H xs → 1 ≤ occurs xs k → H k
all_at H [] k a o = absurd (omega arith)
all_at H (x ∷ xs) k a o = elim (cases_eq k x) [
  | inl e ↦ subst H (sym e) (All-head H x xs a)
  | inr ne ↦ all_at H xs k (All-tail H x xs a) (subst (λ z. 1 ≤ z) (occurs_other x k xs ne) o)
]

pub head_in : (xs : List ℕ) (d : ℕ) → 1 ≤ length xs → 1 ≤ occurs xs (head_or xs d)
head_in [] d l = absurd (omega arith)
head_in (x ∷ xs) d l = occurs_here x xs

head_front : (xs ys : List ℕ) (d : ℕ) → 1 ≤ length xs → head_or (xs ++ ys) d ≡ head_or xs d
head_front [] ys d l = absurd (omega arith)
head_front (x ∷ xs) ys d l = refl

pub named_is : (x : ℕ) (n : NodeId) → node_named x ≡ Some n → n.index ≡ x
named_is x n e = elim (cases_eq x none) [
  | inl q ↦ absurd (let z : node_named none ≡ Some n = subst (λ y. node_named y ≡ Some n) q e in cc)
  | inr ne ↦ let z : Some (let m : NodeId = record { index = x } in m) ≡ Some n = sym (ap (λ b. cond b None (Some (let m : NodeId = record { index = x } in m))) (ne_eqb x none ne)) ∙ e in
      ap (λ m. m.index) (sym (some_inj (let m : NodeId = record { index = x } in m) n z))
]

pub named_some : (x : ℕ) → x ≢ none → node_named x ≡ None → ⊥
named_some x ne e =
    let z : Some (let m : NodeId = record { index = x } in m) ≡ None = sym (ap (λ b. cond b None (Some (let m : NodeId = record { index = x } in m))) (ne_eqb x none ne)) ∙ e in cc

-- the first end that is shown
shown_first : (f : Layout) (k : ℕ) (view : NodeView) → ShowsNode f k view → shape_at f k ≡ Some Q → slice_index_or view.ends 0 None ≡ node_named (head_or (children_at f k) none)
shown_first f k view s q =
    let e : view.shape ≡ Q = some_inj view.shape Q (sym s.shape_is ∙ q) in
    ap (λ xs. slice_index_or xs 0 None) (s.ends ∙ ap (λ t. shown_ends t (children_at f k)) e)

pub first_is : (f : Layout) (k : ℕ) (view : NodeView) (first : NodeId) → ShowsNode f k view → shape_at f k ≡ Some Q → slice_index_or view.ends 0 None ≡ Some first →
    first.index ≡ head_or (children_at f k) none
first_is f k view first s q e = named_is (head_or (children_at f k) none) first (sym (shown_first f k view s q) ∙ e)

long_shape : (ks es fs : List ℕ) → (ks ≡ es ++ fs) ⊎ (ks ≡ reverse (es ++ fs)) → 1 ≤ length es → (k : ℕ) × (1 ≤ occurs ks k)
long_shape ks es fs e l = let o : 1 ≤ occurs es (head_or es none) = head_in es none l in (head_or es none, omega (arith, shape_member ks es fs (head_or es none) e))

some_children : (ks : List ℕ) (k : ℕ) → 1 ≤ occurs ks k → 1 ≤ length ks
some_children [] k o = absurd (omega arith)
some_children (x ∷ ks) k o = omega arith

pub first_child : (f : Layout) (w : Marks) (k : ℕ) (h : Partial) → IsShapeAt f w k h → 1 ≤ occurs (children_at f k) (head_or (children_at f k) none)
first_child f w k h x = let m = long_shape (children_at f k) x.es x.fs x.children x.some_empty in head_in (children_at f k) none (some_children (children_at f k) m.0 m.1)

pub first_shown : (f : Layout) (w : Marks) (k : ℕ) (h : Partial) (view : NodeView) → IsLayout f → ShowsNode f k view → IsShapeAt f w k h → slice_index_or view.ends 0 None ≡ None → ⊥
first_shown f w k h view lay s x e =
    let y : ℕ = head_or (children_at f k) none in
    let l : y < length f.slots = in_range f y (child_used f k y lay (first_child f w k h x)) in
    named_some y (λ q. let a : length f.slots ≡ 2 * f.columns + 4 = lay.size in let b : f.columns ≤ 32768 = lay.few in let c : y ≡ 4294967295 = q in omega arith) (sym (shown_first f k view s x.is_q) ∙ e)

-- the first child is full where the full end comes first
pub first_full : (f : Layout) (w : Marks) (k : ℕ) (h : Partial) (y : ℕ) → y ≡ head_or (children_at f k) none → label_at w y ≡ Full → IsShapeAt f w k h → IsShapeTo f w k h 0
first_full f w k h y e l x = elim x.children [
  | inl q ↦ absurd (
      let z : y ≡ head_or x.es none = e ∙ ap (λ ks. head_or ks none) q ∙ head_front x.es x.fs none x.some_empty in
      let o : 1 ≤ occurs x.es y = subst (λ j. 1 ≤ occurs x.es j) (sym z) (head_in x.es none x.some_empty) in
      let m : label_at w y ≡ Empty = all_at (λ j. label_at w j ≡ Empty) x.es y x.empty o in
      let d : Full ≡ Empty = sym l ∙ m in cc)
  | inr q ↦ record { es = x.es; fs = x.fs; is_q = x.is_q; children = inr (refl, q); some_empty = x.some_empty; some_full = x.some_full; empty = x.empty; full = x.full; empty_trees = x.empty_trees; full_trees = x.full_trees }
]

reverse_long : (xs : List ℕ) (k : ℕ) → 1 ≤ occurs xs k → 1 ≤ length (reverse xs)
reverse_long xs k o = some_children (reverse xs) k (subst (λ z. 1 ≤ z) (sym (reverse_occurs xs k)) o)

pub first_empty : (f : Layout) (w : Marks) (k : ℕ) (h : Partial) (y : ℕ) → y ≡ head_or (children_at f k) none → (label_at w y ≡ Full → ⊥) → IsShapeAt f w k h → IsShapeTo f w k h 1
first_empty f w k h y e l x = elim x.children [
  | inl q ↦ record { es = x.es; fs = x.fs; is_q = x.is_q; children = inl (refl, q); some_empty = x.some_empty; some_full = x.some_full; empty = x.empty; full = x.full; empty_trees = x.empty_trees; full_trees = x.full_trees }
  | inr q ↦ absurd (
      let long : 1 ≤ length (reverse x.fs) = reverse_long x.fs (head_or x.fs none) (head_in x.fs none x.some_full) in
      let z : y ≡ head_or (reverse x.fs) none = e ∙ ap (λ ks. head_or ks none) (q ∙ reverse-append x.es x.fs) ∙ head_front (reverse x.fs) (reverse x.es) none long in
      let o : 1 ≤ occurs (reverse x.fs) y = subst (λ j. 1 ≤ occurs (reverse x.fs) j) (sym z) (head_in (reverse x.fs) none long) in
      l (all_at (λ j. label_at w j ≡ Full) x.fs y x.full (subst (λ j. 1 ≤ j) (reverse_occurs x.fs y) o)))
]
