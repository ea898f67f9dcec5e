-- What stands where the full children were put at the full end of the partial one.
use Rattle.std.proofs.Common.{◌≡◌, ◌≢◌, ◌⊎◌, inl, inr, ℕ, ◌+◌, ◌≤◌, true, List, [], ◌∷◌, ◌++◌, map, reverse, length, Some, refl, sym, ap, subst, ◌∙◌, arith}
use Rattle.std.proofs.lemmas.List.{reverse-append, map-append}
use Rattle.column_order.specs.Orders.{occurs}
use Rattle.pq_tree.specs.Outline.{Outline, Forest, p_node, q_node, no_tree, tree_and}
use Rattle.pq_tree.specs.Forests.{join}
use Rattle.pq_tree.specs.Proper.{forest}
use Rattle.pq_tree.specs.Equivalent.{IsEquivalent, AreEquivalent}
use Rattle.arena_model.specs.declared.Shape.TheVariants.{P}
use Rattle.arena_model.specs.ChildLists.{put_on}
use Rattle.arena_model.specs.Layout.{Layout, shape_at, children_at, IsLayout}
use Rattle.arena_model.specs.NamedTree.{outline_below, HasTwoEach}
use Rattle.arena_model.proofs.Lists.{occurs_here}
use Rattle.bubble_pass.specs.declared.labels.Label.TheVariants.{Empty, Partial as Partly}
use Rattle.bubble_pass.specs.Marks.{Marks, label_at}
use Rattle.tree_theory.specs.Templates.{Partial, Label, IsSorted, star, line, under, IsP4}
use Rattle.template_model.specs.Standing.{child_trees, AreMarkedAs, AreShapesAt, IsShapeAt}
use Rattle.template_model.specs.Treated.{StandsForTree}
use Rattle.templates_p.specs.Sorts.{full_nodes, empty_nodes, partial_nodes}
use Rattle.templates_p.specs.Steps.{IsSameAt, HasGroup}
use Rattle.templates_p.specs.Lines.{IsShapeTo, IsAbsorbed}
use Rattle.templates_p.proofs.Sorting.{held, sorted_unique, sort, held_length, AreShapes, held_shapes, all_sorted, all_counted, sorted_times, partials, not_full_empty, not_empty_partial, sorted_label, empties}
use Rattle.templates_p.proofs.Framing.{p_stands, q_stands, are_same, shape_member, same_length}
use Rattle.templates_p.proofs.Becoming.{equivalent_join}
use Rattle.templates_p.proofs.Grouping.{only_member}
use Rattle.pq_tree.proofs.Forests.{join_no_tree}

-- the trees of a partial, as they stand below its nodes
line_trees : (o o' : ℕ → Outline) (es fs : List ℕ) (h : Partial) → h.e ≡ forest (map o es) → h.f ≡ forest (map o fs) →
    ((k : ℕ) → 1 ≤ occurs es k → o' k ≡ o k) → ((k : ℕ) → 1 ≤ occurs fs k → o' k ≡ o k) → AreEquivalent (line h) (map o' (es ++ fs))
line_trees o o' es fs h e f a b = subst (λ us. AreEquivalent (join h.e h.f) us) (sym (map-append o' es fs))
    (equivalent_join h.e h.f (map o' es) (map o' fs)
    (subst (λ ts. AreEquivalent ts (map o' es)) (sym e) (are_same o o' es a))
    (subst (λ ts. AreEquivalent ts (map o' fs)) (sym f) (are_same o o' fs b)))

-- a Q-shape stands for its partial
pub shape_stands : (f : Layout) (w : Marks) (k : ℕ) (h : Partial) → IsLayout f → IsShapeAt f w k h → IsEquivalent (q_node (line h)) (outline_below f k)
shape_stands f w k h lay x = q_stands f k (x.es ++ x.fs) (line h) lay x.is_q x.children
    (line_trees (outline_below f) (outline_below f) x.es x.fs h x.empty_trees x.full_trees (λ k o. refl) (λ k o. refl))

end_first : (ks xs : List ℕ) (c end : ℕ) → end ≡ 1 → ks ≡ xs → put_on end c ks ≡ xs ++ c ∷ []
end_first ks xs c end e q = subst (λ z. put_on z c ks ≡ xs ++ c ∷ []) (sym e) (ap (λ ys. ys ++ c ∷ []) q)

end_last : (ks xs : List ℕ) (c end : ℕ) → end ≡ 0 → ks ≡ reverse xs → put_on end c ks ≡ reverse (xs ++ c ∷ [])
end_last ks xs c end e q = subst (λ z. put_on z c ks ≡ reverse (xs ++ c ∷ [])) (sym e) (ap (λ ys. c ∷ ys) q ∙ sym (reverse-append xs (c ∷ [])))

pub put_sides : (ks xs : List ℕ) (c end : ℕ) → ((end ≡ 1) × (ks ≡ xs)) ⊎ ((end ≡ 0) × (ks ≡ reverse xs)) → (put_on end c ks ≡ xs ++ c ∷ []) ⊎ (put_on end c ks ≡ reverse (xs ++ c ∷ []))
put_sides ks xs c end (inl p) = inl (end_first ks xs c end p.0 p.1)
put_sides ks xs c end (inr p) = inr (end_last ks xs c end p.0 p.1)

pub sides : (g : Layout) (w : Marks) (h : ℕ) (x : Partial) (end : ℕ) → (s : IsShapeTo g w h x end) → (children_at g h ≡ s.es ++ s.fs) ⊎ (children_at g h ≡ reverse (s.es ++ s.fs))
sides g w h x end s = elim s.children [ inl p ↦ inl p.1 | inr p ↦ inr p.1 ]

same_place : (js ks ys : List ℕ) → js ≡ ks → (ks ≡ ys) ⊎ (ks ≡ reverse ys) → (js ≡ ys) ⊎ (js ≡ reverse ys)
same_place js ks ys e (inl q) = inl (e ∙ q)
same_place js ks ys e (inr q) = inr (e ∙ q)

-- with the child c at its full end, the line stands for the partial's trees and then the trees that c stands for
pub absorbed_stands : (f g : Layout) (v w : Marks) (n h c end a : ℕ) (x : Partial) (ts : Forest) → IsLayout g → IsShapeTo f v h x end → IsAbsorbed f v g w n h c end a →
    AreEquivalent ts (outline_below f c ∷ []) → IsEquivalent (q_node (join (line x) ts)) (outline_below g h)
absorbed_stands f g v w n h c end a x ts lay s b eq =
    let in_e : (k : ℕ) → 1 ≤ occurs s.es k → 1 ≤ occurs (children_at f h) k = (λ k o. omega (arith, shape_member (children_at f h) s.es s.fs k (sides f v h x end s))) in
    let in_f : (k : ℕ) → 1 ≤ occurs s.fs k → 1 ≤ occurs (children_at f h) k = (λ k o. omega (arith, shape_member (children_at f h) s.es s.fs k (sides f v h x end s))) in
    let trees : AreEquivalent (join (line x) ts) (map (outline_below g) ((s.es ++ s.fs) ++ c ∷ [])) =
    subst (λ us. AreEquivalent (join (line x) ts) us) (sym (map-append (outline_below g) (s.es ++ s.fs) (c ∷ [])))
    (equivalent_join (line x) ts (map (outline_below g) (s.es ++ s.fs)) (outline_below g c ∷ [])
    (line_trees (outline_below f) (outline_below g) s.es s.fs x s.empty_trees s.full_trees (λ k o. (b.inner k (in_e k o)).tree) (λ k o. (b.inner k (in_f k o)).tree))
    (subst (λ t. AreEquivalent ts (t ∷ [])) (sym b.added.tree) eq)) in
    q_stands g h ((s.es ++ s.fs) ++ c ∷ []) (join (line x) ts) lay b.shape
    (same_place (children_at g h) (put_on end c (children_at f h)) ((s.es ++ s.fs) ++ c ∷ []) b.children (put_sides (children_at f h) (s.es ++ s.fs) c end s.children)) trees

-- what is known of the children where one is partial
pub record OnePartial (f : Layout) (v : Marks) (n h : ℕ) (es : Forest) (x : Partial) (fs : Forest) : Type 0 where
  pub only : partial_nodes v (children_at f n) ≡ h ∷ []
  pub shape : IsShapeAt f v h x
  pub empty : forest (map (outline_below f) (empty_nodes v (children_at f n))) ≡ es
  pub full : forest (map (outline_below f) (full_nodes v (children_at f n))) ≡ fs

the_shape : (f : Layout) (v : Marks) (h : ℕ) (x : Partial) (ks : List ℕ) (hs : List Partial) → ks ≡ h ∷ [] → hs ≡ x ∷ [] → AreShapes f v ks hs → IsShapeAt f v h x
the_shape f v h x ks hs e q s =
    let t : AreShapes f v (h ∷ []) (x ∷ []) = subst (λ ys. AreShapes f v (h ∷ []) ys) q (subst (λ zs. AreShapes f v zs hs) e s) in t.0

pub one_partial : (f : Layout) (v : Marks) (n h : ℕ) (ps : List Label) (es : Forest) (x : Partial) (fs : Forest) → AreMarkedAs f v n ps → AreShapesAt f v (children_at f n) ps →
    IsSorted (child_trees f n) ps es fs (x ∷ []) → 1 ≤ occurs (children_at f n) h → label_at v h ≡ Partly → OnePartial f v n h es x fs
one_partial f v n h ps es x fs m s p o l =
    let ks : List ℕ = children_at f n in
    let u = sorted_unique (sort (outline_below f) v ks ps m) p in
    let one : length (partial_nodes v ks) ≡ 1 = sym (held_length v ks ps m) ∙ ap (λ hs. length hs) u.2 in
    let only : partial_nodes v ks ≡ h ∷ [] = only_member (partial_nodes v ks) h one (subst (λ z. 1 ≤ z) (sym (sorted_times partials v ks h l)) o) in
    record {
      only = only;
      shape = the_shape f v h x (partial_nodes v ks) (held ps) only u.2 (held_shapes f v ks ps m s);
      empty = u.0;
      full = u.1;
    }

pub under_some : (es : Forest) (t : Outline) (o : ℕ → Outline) (xs : List ℕ) → forest (map o xs) ≡ es → 1 ≤ length xs → under es t ≡ p_node (tree_and t es)
under_some es t o [] e l = absurd (omega arith)
under_some es t o (x ∷ xs) e l = subst (λ z. under z t ≡ p_node (tree_and t z)) e refl

pub under_none : (es : Forest) (t : Outline) (o : ℕ → Outline) (xs : List ℕ) → forest (map o xs) ≡ es → ((k : ℕ) → occurs xs k ≡ 0) → under es t ≡ t
under_none es t o [] e l = subst (λ z. under z t ≡ t) e refl
under_none es t o (x ∷ xs) e l = absurd (let z : occurs (x ∷ xs) x ≡ 0 = l x in omega (arith, occurs_here x xs))

-- P4 where no child is full
pub p4_plain : (f : Layout) (v : Marks) (n h : ℕ) (ps : List Label) (u : Outline) → IsLayout f → HasTwoEach f → shape_at f n ≡ Some P → AreMarkedAs f v n ps → AreShapesAt f v (children_at f n) ps →
    1 ≤ occurs (children_at f n) h → label_at v h ≡ Partly → full_nodes v (children_at f n) ≡ [] → IsP4 true (child_trees f n) ps u → StandsForTree f n u
p4_plain f v n h ps u lay two is_p m s o l none p =
    let ks : List ℕ = children_at f n in
    let k : OnePartial f v n h p.es p.h p.fs = one_partial f v n h ps p.es p.h p.fs m s p.pattern o l in
    let no_fs : p.fs ≡ no_tree = sym k.full ∙ ap (λ xs. forest (map (outline_below f) xs)) none in
    let many : 1 ≤ length (empty_nodes v ks) = (let t : 2 ≤ length ks = two n (inl is_p) in let a : length (full_nodes v ks) ≡ 0 = ap (λ xs. length xs) none in let b : length (partial_nodes v ks) ≡ 1 = ap (λ xs. length xs) k.only in
    omega (arith, all_counted v ks)) in
    let q : IsEquivalent (q_node (join (line p.h) (star p.fs))) (outline_below f h) =
    subst (λ ts. IsEquivalent (q_node (join (line p.h) (star ts))) (outline_below f h)) (sym no_fs)
    (subst (λ ts. IsEquivalent (q_node ts) (outline_below f h)) (sym (join_no_tree (line p.h))) (shape_stands f v h p.h lay k.shape)) in
    subst (λ t. IsEquivalent t (outline_below f n)) (sym (p.becomes ∙ under_some p.es (q_node (join (line p.h) (star p.fs))) (outline_below f) (empty_nodes v ks) k.empty many))
    (p_stands f n (h ∷ empty_nodes v ks) (tree_and (q_node (join (line p.h) (star p.fs))) p.es) lay is_p
    (λ j. let a : occurs (full_nodes v ks) j ≡ 0 = ap (λ xs. occurs xs j) none in let b : occurs (partial_nodes v ks) j ≡ occurs (h ∷ []) j = ap (λ xs. occurs xs j) k.only in omega (arith, all_sorted v ks j))
    (q, subst (λ ts. AreEquivalent ts (map (outline_below f) (empty_nodes v ks))) k.empty (are_same (outline_below f) (outline_below f) (empty_nodes v ks) (λ j i. refl))))

-- P4 where some are
pub p4_becomes : (f g i : Layout) (v w x : Marks) (n h y end a : ℕ) (ps : List Label) (u : Outline) → IsLayout i → AreMarkedAs f v n ps → AreShapesAt f v (children_at f n) ps →
    1 ≤ occurs (children_at f n) h → label_at v h ≡ Partly → HasGroup f v g w n y → ((z : Partial) → IsShapeAt g w h z → IsShapeTo g w h z end) → IsAbsorbed g w i x n h y end a →
    IsP4 true (child_trees f n) ps u → StandsForTree i a u
p4_becomes f g i v w x n h y end a ps u lay m s o l grp to b p =
    let ks : List ℕ = children_at f n in
    let k : OnePartial f v n h p.es p.h p.fs = one_partial f v n h ps p.es p.h p.fs m s p.pattern o l in
    let t : Outline = q_node (join (line p.h) (star p.fs)) in
    let in_h : 1 ≤ occurs (partial_nodes v ks) h = subst (λ xs. 1 ≤ occurs xs h) (sym k.only) (occurs_here h []) in
    let q : IsEquivalent t (outline_below i h) = absorbed_stands g i w x n h y end a p.h (star p.fs) lay (to p.h ((grp.others h (omega arith)).shape p.h k.shape)) b
    (subst (λ ts. AreEquivalent (star ts) (outline_below g y ∷ [])) k.full grp.tree) in
    elim b.place [
      | inl c ↦
          let bag : (j : ℕ) → occurs (h ∷ empty_nodes v ks) j ≡ occurs (children_at i n) j = (λ j. let d : occurs (children_at i n) j + occurs (y ∷ []) j ≡ occurs (children_at g n) j = c.3 j in
          let e : occurs (partial_nodes v ks) j ≡ occurs (h ∷ []) j = ap (λ xs. occurs xs j) k.only in omega (arith, grp.children j)) in
          let many : 1 ≤ length (empty_nodes v ks) = (let d : 2 ≤ length (children_at i n) = c.2 in let e : length (children_at i n) ≡ length (h ∷ empty_nodes v ks) = same_length (h ∷ empty_nodes v ks) (children_at i n) bag in omega arith) in
          let kept : (j : ℕ) → 1 ≤ occurs (empty_nodes v ks) j → outline_below i j ≡ outline_below f j = (λ j o'.
          let is : label_at v j ≡ Empty = sorted_label empties v ks j o' in
          let e : IsSameAt f v g w j = grp.others j (omega arith) in
          let nh : j ≢ h = (λ z. not_empty_partial (label_at v j) is (ap (label_at v) z ∙ l)) in
          let ny : j ≢ y = (λ z. not_full_empty (label_at w j) (ap (label_at w) z ∙ grp.label) (e.label ∙ is)) in
          (c.4 j (omega (arith, grp.children j)) nh ny).tree ∙ e.tree) in
          subst (λ z. StandsForTree i z u) (sym c.0) (subst (λ z. IsEquivalent z (outline_below i n)) (sym (p.becomes ∙ under_some p.es t (outline_below f) (empty_nodes v ks) k.empty many))
          (p_stands i n (h ∷ empty_nodes v ks) (tree_and t p.es) lay c.1 bag
          (q, subst (λ ts. AreEquivalent ts (map (outline_below i) (empty_nodes v ks))) k.empty (are_same (outline_below f) (outline_below i) (empty_nodes v ks) kept))))
      | inr c ↦
          let none : (j : ℕ) → occurs (empty_nodes v ks) j ≡ 0 = (λ j. let e : occurs (partial_nodes v ks) j ≡ occurs (h ∷ []) j = ap (λ xs. occurs xs j) k.only in
          let d : occurs (children_at g n) j ≡ occurs (h ∷ y ∷ []) j = c.1 j in omega (arith, grp.children j)) in
          subst (λ z. StandsForTree i z u) (sym c.0) (subst (λ z. IsEquivalent z (outline_below i h)) (sym (p.becomes ∙ under_none p.es t (outline_below f) (empty_nodes v ks) k.empty none)) q)
    ]
