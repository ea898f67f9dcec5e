-- Nodes that were not written are as they were; and what a node stands for, by its children.
use Rattle.std.proofs.Common.{◌≡◌, ◌⊎◌, inl, inr, ℕ, ◌+◌, ◌≤◌, List, [], ◌∷◌, ◌++◌, map, reverse, length, Some, refl, sym, ap, subst, ◌∙◌, arith}
use Rattle.std.proofs.lemmas.List.Elements.{All-nil, All-cons, All-head, All-tail}
use Rattle.std.proofs.lemmas.List.Sorted.{IsPermutation-map, length_permutation}
use Rattle.std.specs.Prelude.{All}
use Rattle.column_order.specs.Orders.{occurs}
use Rattle.column_order.proofs.Lists.{occurs-append}
use Rattle.pq_tree.specs.Outline.{Outline, Forest, p_node, q_node}
use Rattle.pq_tree.specs.Proper.{forest}
use Rattle.pq_tree.specs.Equivalent.{IsEquivalent, AreEquivalent}
use Rattle.pq_tree.proofs.AllOrders.{permutation_from_occurs}
use Rattle.pq_tree.proofs.Forests.{map-reverse, trees-forest}
use Rattle.pq_tree.proofs.Turnings.{are_equivalent_refl}
use Rattle.arena_model.specs.declared.Shape.TheVariants.{P, Q}
use Rattle.arena_model.specs.Layout.{Layout, shape_at, children_at, IsAtOrAbove, IsInUse, IsLayout}
use Rattle.arena_model.specs.NamedTree.{outline_below}
use Rattle.arena_model.proofs.Lists.{occurs_here, reverse_cons}
use Rattle.arena_model.proofs.Outlines.{below_children}
use Rattle.arena_model.proofs.Paths.{above_step}
use Rattle.bubble_pass.specs.declared.labels.Label.{Label as Mark}
use Rattle.bubble_pass.specs.declared.labels.Label.TheVariants.{Empty, Full}
use Rattle.bubble_pass.specs.Marks.{Marks, label_at}
use Rattle.tree_theory.specs.Templates.{Partial}
use Rattle.template_model.specs.Standing.{IsShapeAt}
use Rattle.arena_model.proofs.Slots.{child_used}
use Rattle.templates_p.specs.Steps.{IsSameAt}
use Rattle.templates_p.proofs.Rebuilt.{IsRebuilt, same_children, deep_child, tree_kept}
use Rattle.templates_p.proofs.Remarked.{AreRemarked}

pub reverse_occurs : (xs : List ℕ) (k : ℕ) → occurs (reverse xs) k ≡ occurs xs k
reverse_occurs [] k = refl
reverse_occurs (x ∷ xs) k = ap (λ ys. occurs ys k) (reverse_cons x xs) ∙ (omega (arith, occurs-append (reverse xs) (x ∷ []) k, reverse_occurs xs k))

pub map_same : {A : Type 0} (o o' : ℕ → A) (xs : List ℕ) → ((k : ℕ) → 1 ≤ occurs xs k → o' k ≡ o k) → map o' xs ≡ map o xs
map_same o o' [] h = refl
map_same o o' (x ∷ xs) h = ap (λ y. y ∷ map o' xs) (h x (occurs_here x xs)) ∙ ap (λ ys. o x ∷ ys) (map_same o o' xs (λ k q. h k (omega arith)))

pub all_labels : (v w : Marks) (l : Mark) (xs : List ℕ) → ((k : ℕ) → 1 ≤ occurs xs k → label_at w k ≡ label_at v k) →
    All (λ x. label_at v x ≡ l) xs → All (λ x. label_at w x ≡ l) xs
all_labels v w l [] h a = All-nil (λ x. label_at w x ≡ l)
all_labels v w l (x ∷ xs) h a = All-cons (λ x. label_at w x ≡ l) x xs
    (h x (occurs_here x xs) ∙ All-head (λ x. label_at v x ≡ l) x xs a)
    (all_labels v w l xs (λ k q. h k (omega arith)) (All-tail (λ x. label_at v x ≡ l) x xs a))

pub all_from : (H : ℕ → Type 0) (xs : List ℕ) → ((k : ℕ) → 1 ≤ occurs xs k → H k) → All H xs
all_from H [] h = All-nil H
all_from H (x ∷ xs) h = All-cons H x xs (h x (occurs_here x xs)) (all_from H xs (λ k q. h k (omega arith)))

-- equal trees
pub are_same : (o o' : ℕ → Outline) (xs : List ℕ) → ((k : ℕ) → 1 ≤ occurs xs k → o' k ≡ o k) → AreEquivalent (forest (map o xs)) (map o' xs)
are_same o o' xs h = subst (λ us. AreEquivalent (forest (map o xs)) us) (sym (map_same o o' xs h))
    (subst (λ us. AreEquivalent (forest (map o xs)) us) (trees-forest (map o xs)) (are_equivalent_refl (forest (map o xs))))

-- a P-node over these trees in any order
pub p_stands : (g : Layout) (m : ℕ) (xs : List ℕ) (ts : Forest) → IsLayout g → shape_at g m ≡ Some P →
    ((k : ℕ) → occurs xs k ≡ occurs (children_at g m) k) → AreEquivalent ts (map (outline_below g) xs) → IsEquivalent (p_node ts) (outline_below g m)
p_stands g m xs ts h e same eq = (
  map (outline_below g) xs,
  map (outline_below g) (children_at g m),
  eq,
  IsPermutation-map (outline_below g) xs (children_at g m) (permutation_from_occurs xs (children_at g m) same),
  below_children g m P h e,
)

-- a Q-node over these trees in this order or turned
pub q_stands : (g : Layout) (m : ℕ) (xs : List ℕ) (ts : Forest) → IsLayout g → shape_at g m ≡ Some Q →
    (children_at g m ≡ xs) ⊎ (children_at g m ≡ reverse xs) → AreEquivalent ts (map (outline_below g) xs) → IsEquivalent (q_node ts) (outline_below g m)
q_stands g m xs ts h e (inl c) eq = (
  map (outline_below g) xs,
  eq,
  inl (below_children g m Q h e ∙ ap (λ ks. q_node (forest (map (outline_below g) ks))) c),
)
q_stands g m xs ts h e (inr c) eq = (
  map (outline_below g) xs,
  eq,
  inr (below_children g m Q h e ∙ ap (λ ks. q_node (forest (map (outline_below g) ks))) c ∙ ap (λ us. q_node (forest us)) (map-reverse (outline_below g) xs)),
)

-- the nodes of a Q-shape are its children
pub shape_member : (ks es fs : List ℕ) (k : ℕ) → (ks ≡ es ++ fs) ⊎ (ks ≡ reverse (es ++ fs)) → occurs ks k ≡ occurs es k + occurs fs k
shape_member ks es fs k (inl e) = ap (λ zs. occurs zs k) e ∙ occurs-append es fs k
shape_member ks es fs k (inr e) = ap (λ zs. occurs zs k) e ∙ reverse_occurs (es ++ fs) k ∙ occurs-append es fs k

pub same_length : (xs ys : List ℕ) → ((k : ℕ) → occurs xs k ≡ occurs ys k) → length ys ≡ length xs
same_length xs ys h = length_permutation xs ys (permutation_from_occurs xs ys h)

same_sides : (ks js es fs : List ℕ) → js ≡ ks → (ks ≡ es ++ fs) ⊎ (ks ≡ reverse (es ++ fs)) → (js ≡ es ++ fs) ⊎ (js ≡ reverse (es ++ fs))
same_sides ks js es fs e (inl q) = inl (e ∙ q)
same_sides ks js es fs e (inr q) = inr (e ∙ q)

-- a Q-shape whose children keep their labels and trees stands
pub shape_kept : (f g : Layout) (v w : Marks) (k : ℕ) (h : Partial) → shape_at g k ≡ shape_at f k → children_at g k ≡ children_at f k →
    ((z : ℕ) → 1 ≤ occurs (children_at f k) z → label_at w z ≡ label_at v z) → ((z : ℕ) → 1 ≤ occurs (children_at f k) z → outline_below g z ≡ outline_below f z) →
    IsShapeAt f v k h → IsShapeAt g w k h
shape_kept f g v w k h es ec lab out x =
    let in_e : (z : ℕ) → 1 ≤ occurs x.es z → 1 ≤ occurs (children_at f k) z = (λ z o. omega (arith, shape_member (children_at f k) x.es x.fs z x.children)) in
    let in_f : (z : ℕ) → 1 ≤ occurs x.fs z → 1 ≤ occurs (children_at f k) z = (λ z o. omega (arith, shape_member (children_at f k) x.es x.fs z x.children)) in
    record {
      es = x.es;
      fs = x.fs;
      is_q = es ∙ x.is_q;
      children = same_sides (children_at f k) (children_at g k) x.es x.fs ec x.children;
      some_empty = x.some_empty;
      some_full = x.some_full;
      empty = all_labels v w Empty x.es (λ z o. lab z (in_e z o)) x.empty;
      full = all_labels v w Full x.fs (λ z o. lab z (in_f z o)) x.full;
      empty_trees = x.empty_trees ∙ ap forest (sym (map_same (outline_below f) (outline_below g) x.es (λ z o. out z (in_e z o))));
      full_trees = x.full_trees ∙ ap forest (sym (map_same (outline_below f) (outline_below g) x.fs (λ z o. out z (in_f z o))));
    }

module _ (f g : Layout) (n a : ℕ) (ts : List ℕ) (r : IsRebuilt f g n a ts) (v w : Marks) (s : AreRemarked f g v w n a ts) where
  pub same_at : (k : ℕ) → IsInUse f k → IsAtOrAbove f.slots n k → occurs ts k ≡ 0 → IsSameAt f v g w k
  same_at k u l z = record {
    label = s.labels k z;
    tree = tree_kept f g n a ts r k u l z;
    shape = λ h x. shape_kept f g v w k h (r.shapes k z) (same_children f g n a ts r k l z)
        (λ y o. s.labels y (deep_child f g n a ts r k y l z o))
        (λ y o. tree_kept f g n a ts r y (child_used f k y r.before o) (above_step f.slots n k y l o) (deep_child f g n a ts r k y l z o)) x;
  }
