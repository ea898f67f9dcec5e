-- A line of empty and of full nodes, and the partial for which it stands.
use Rattle.std.proofs.Common.{◌≡◌, ◌⊎◌, inl, inr, ℕ, ◌≤◌, List, [], ◌∷◌, ◌++◌, map, reverse, length, Some, refl, sym, ap, subst, ◌∙◌, arith, append_assoc, length-append}
use Rattle.std.proofs.lemmas.Bool.{cases_eq}
use Rattle.std.proofs.lemmas.List.{reverse-append, map-append}
use Rattle.std.proofs.lemmas.List.Elements.{All-cons}
use Rattle.std.specs.Prelude.{All}
use Rattle.column_order.specs.Orders.{occurs}
use Rattle.column_order.proofs.Lists.{occurs-append}
use Rattle.pq_tree.specs.Outline.{Outline, Forest}
use Rattle.pq_tree.specs.Forests.{join}
use Rattle.pq_tree.specs.Proper.{forest}
use Rattle.pq_tree.specs.Equivalent.{AreEquivalent}
use Rattle.pq_tree.proofs.Forests.{trees-forest}
use Rattle.arena_model.specs.declared.Shape.TheVariants.{Q}
use Rattle.arena_model.specs.ChildLists.{without, put_on}
use Rattle.arena_model.specs.Layout.{Layout, shape_at, children_at, IsLayout}
use Rattle.arena_model.specs.NamedTree.{outline_below}
use Rattle.arena_model.proofs.Lists.{occurs_same, occurs_other, reverse_cons}
use Rattle.bubble_pass.specs.declared.labels.Label.TheVariants.{Empty, Full}
use Rattle.bubble_pass.specs.Marks.{Marks, label_at}
use Rattle.tree_theory.specs.Templates.{Partial, star}
use Rattle.template_model.specs.Treated.{StandsForPartial}
use Rattle.templates_p.specs.Steps.{IsSameAt}
use Rattle.templates_p.specs.Lines.{IsShapeTo, IsAbsorbed}
use Rattle.templates_p.specs.Parts.{IsParted, IsLineFor}
use Rattle.templates_p.proofs.Framing.{map_same, all_labels, all_from, are_same, shape_member}
use Rattle.templates_p.proofs.Becoming.{equivalent_join}
use Rattle.templates_p.proofs.Moving.{without_gone, without_kept}
use Rattle.templates_p.proofs.Siding.{all_at}
use Rattle.templates_p.proofs.Ending.{sides}
use Rattle.templates_p.proofs.Parting.{IsLineOf, line_same, part_label, part_stands}

-- a partial Q-node over empty and full nodes
pub line_stands : (g : Layout) (w : Marks) (h : ℕ) (es fs : List ℕ) (E F : Forest) → shape_at g h ≡ Some Q →
    (children_at g h ≡ es ++ fs) ⊎ (children_at g h ≡ reverse (es ++ fs)) → 1 ≤ length es → 1 ≤ length fs →
    All (λ x. label_at w x ≡ Empty) es → All (λ x. label_at w x ≡ Full) fs →
    AreEquivalent E (map (outline_below g) es) → AreEquivalent F (map (outline_below g) fs) →
    StandsForPartial g w h (record { e = E; f = F })
line_stands g w h es fs E F q c le lf ae af te tf =
    let s : Partial = record { e = forest (map (outline_below g) es); f = forest (map (outline_below g) fs) } in
    record {
      shape = s;
      turned = (
        s,
        subst (λ us. AreEquivalent E us) (sym (trees-forest (map (outline_below g) es))) te,
        subst (λ us. AreEquivalent F us) (sym (trees-forest (map (outline_below g) fs))) tf,
        refl,
      );
      is = record { es = es; fs = fs; is_q = q; children = c; some_empty = le; some_full = lf; empty = ae; full = af; empty_trees = refl; full_trees = refl };
    }

put_front : (js line xs : List ℕ) (end e : ℕ) → js ≡ put_on end e line → end ≡ 0 → line ≡ xs → js ≡ e ∷ xs
put_front js line xs end e c z q = c ∙ ap (λ k. put_on k e line) z ∙ ap (λ ys. e ∷ ys) q

put_back : (js line xs : List ℕ) (end e : ℕ) → js ≡ put_on end e line → end ≡ 1 → line ≡ reverse xs → js ≡ reverse (e ∷ xs)
put_back js line xs end e c z q = c ∙ ap (λ k. put_on k e line) z ∙ ap (λ ys. ys ++ e ∷ []) q ∙ sym (reverse_cons e xs)

-- the one end and the other
abbrev pub AreEnds : ℕ → ℕ → Type 0
AreEnds full empty = ((full ≡ 1) × (empty ≡ 0)) ⊎ ((full ≡ 0) × (empty ≡ 1))

-- a node put at the empty end stands before the others
put_empty : (js line xs : List ℕ) (full empty e : ℕ) → AreEnds full empty → ((full ≡ 1) × (line ≡ xs)) ⊎ ((full ≡ 0) × (line ≡ reverse xs)) →
    js ≡ put_on empty e line → (js ≡ e ∷ xs) ⊎ (js ≡ reverse (e ∷ xs))
put_empty js line xs full empty e (inl a) (inl q) c = inl (put_front js line xs empty e c a.1 q.1)
put_empty js line xs full empty e (inl a) (inr q) c = absurd (let z : full ≡ 1 = a.0 in let y : full ≡ 0 = q.0 in omega arith)
put_empty js line xs full empty e (inr a) (inl q) c = absurd (let z : full ≡ 0 = a.0 in let y : full ≡ 1 = q.0 in omega arith)
put_empty js line xs full empty e (inr a) (inr q) c = inr (put_back js line xs empty e c a.1 q.1)

line_sides : (line xs : List ℕ) (end : ℕ) → ((end ≡ 1) × (line ≡ xs)) ⊎ ((end ≡ 0) × (line ≡ reverse xs)) → (line ≡ xs) ⊎ (line ≡ reverse xs)
line_sides line xs end (inl q) = inl q.1
line_sides line xs end (inr q) = inr q.1

-- with what is left of n at its empty end
pub parted_line : (f g : Layout) (v w : Marks) (n h end full : ℕ) (rest line : List ℕ) → IsLayout f → IsLayout g → IsLineOf f n h rest line →
    IsParted f g v w n h end rest line → ((k : ℕ) → 1 ≤ occurs rest k → label_at v k ≡ Empty) →
    (o : ℕ → Outline) (xs : List ℕ) → ((k : ℕ) → occurs xs k ≡ occurs rest k) → ((k : ℕ) → 1 ≤ occurs rest k → outline_below f k ≡ o k) →
    (E F : Forest) → IsLineFor f v line full E F → AreEnds full end →
    StandsForPartial g w h (record { e = join (star (forest (map o xs))) E; f = F })
parted_line f g v w n h end full rest line lf lg l p empty o xs bag tree E F s ends =
    let c : (line ≡ s.es ++ s.fs) ⊎ (line ≡ reverse (s.es ++ s.fs)) = line_sides line (s.es ++ s.fs) full s.sides in
    let in_e : (k : ℕ) → 1 ≤ occurs s.es k → 1 ≤ occurs line k = (λ k i. omega (arith, shape_member line s.es s.fs k c)) in
    let in_f : (k : ℕ) → 1 ≤ occurs s.fs k → 1 ≤ occurs line k = (λ k i. omega (arith, shape_member line s.es s.fs k c)) in
    let same : (k : ℕ) → 1 ≤ occurs line k → IsSameAt f v g w k = line_same f g v w n h end rest line lf lg l p empty in
    line_stands g w h (p.e ∷ s.es) s.fs (join (star (forest (map o xs))) E) F p.is_q
    (put_empty (children_at g h) line (s.es ++ s.fs) full end p.e ends s.sides p.over)
    (omega arith) s.some
    (All-cons (λ x. label_at w x ≡ Empty) p.e s.es (part_label f g v w n h end rest line lf lg l p empty) (all_labels v w Empty s.es (λ k i. (same k (in_e k i)).label) s.empty))
    (all_labels v w Full s.fs (λ k i. (same k (in_f k i)).label) s.full)
    (equivalent_join (star (forest (map o xs))) E (outline_below g p.e ∷ []) (map (outline_below g) s.es)
    (part_stands f g v w n h end rest line lf lg l p empty o xs bag tree)
    (subst (λ us. AreEquivalent E us) (sym (map_same (outline_below f) (outline_below g) s.es (λ k i. (same k (in_e k i)).tree))) s.empty_trees))
    (subst (λ us. AreEquivalent F us) (sym (map_same (outline_below f) (outline_below g) s.fs (λ k i. (same k (in_f k i)).tree))) s.full_trees)

-- all but one of a bag
pub rest_bag : (ks es : List ℕ) (y : ℕ) → ((k : ℕ) → occurs ks k ≡ occurs (y ∷ es) k) → occurs ks y ≤ 1 → (k : ℕ) → occurs es k ≡ occurs (without ks y) k
rest_bag ks es y bag once k = elim (cases_eq k y) [
  | inl e ↦ subst (λ z. occurs es z ≡ occurs (without ks y) z) (sym e) (let a : occurs ks y ≡ occurs (y ∷ es) y = bag y in omega (arith, occurs_same y es, without_gone ks y))
  | inr ne ↦ let a : occurs ks k ≡ occurs (y ∷ es) k = bag k in omega (arith, occurs_other y k es ne, without_kept ks y k ne)
]

-- a Q-shape is such a line
pub shape_line : (f : Layout) (v : Marks) (h : ℕ) (p : Partial) (end : ℕ) → IsShapeTo f v h p end → IsLineFor f v (children_at f h) end p.e p.f
shape_line f v h p end s = record {
  es = s.es;
  fs = s.fs;
  sides = s.children;
  some = s.some_full;
  empty = s.empty;
  full = s.full;
  empty_trees = subst (λ ts. AreEquivalent ts (map (outline_below f) s.es)) (sym s.empty_trees) (are_same (outline_below f) (outline_below f) s.es (λ k i. refl));
  full_trees = subst (λ ts. AreEquivalent ts (map (outline_below f) s.fs)) (sym s.full_trees) (are_same (outline_below f) (outline_below f) s.fs (λ k i. refl));
}

-- a node put at the full end stands behind the others
put_full : (js ks es fs : List ℕ) (end c : ℕ) → js ≡ put_on end c ks → ((end ≡ 1) × (ks ≡ es ++ fs)) ⊎ ((end ≡ 0) × (ks ≡ reverse (es ++ fs))) →
    ((end ≡ 1) × (js ≡ es ++ (fs ++ c ∷ []))) ⊎ ((end ≡ 0) × (js ≡ reverse (es ++ (fs ++ c ∷ []))))
put_full js ks es fs end c e (inl q) = inl (q.0, e ∙ ap (λ k. put_on k c ks) q.0 ∙ ap (λ ys. ys ++ c ∷ []) q.1 ∙ append_assoc es fs (c ∷ []))
put_full js ks es fs end c e (inr q) = inr (q.0, e ∙ ap (λ k. put_on k c ks) q.0 ∙ ap (λ ys. c ∷ ys) q.1 ∙ sym (reverse-append (es ++ fs) (c ∷ [])) ∙ ap reverse (append_assoc es fs (c ∷ [])))

-- so is one with a full node put at its full end
pub absorbed_line : (f g : Layout) (v w : Marks) (n h c end a : ℕ) (x : Partial) (ts : Forest) → IsShapeTo f v h x end → IsAbsorbed f v g w n h c end a → label_at v c ≡ Full →
    AreEquivalent ts (outline_below f c ∷ []) → IsLineFor g w (children_at g h) end x.e (join x.f ts)
absorbed_line f g v w n h c end a x ts s b full eq =
    let in_e : (k : ℕ) → 1 ≤ occurs s.es k → 1 ≤ occurs (children_at f h) k = (λ k o. omega (arith, shape_member (children_at f h) s.es s.fs k (sides f v h x end s))) in
    let in_f : (k : ℕ) → 1 ≤ occurs s.fs k → 1 ≤ occurs (children_at f h) k = (λ k o. omega (arith, shape_member (children_at f h) s.es s.fs k (sides f v h x end s))) in
    let same : (k : ℕ) → 1 ≤ occurs (s.fs ++ c ∷ []) k → (label_at w k ≡ Full) × (outline_below g k ≡ outline_below f k) = (λ k o. elim (cases_eq k c) [
      | inl e ↦ (ap (label_at w) e ∙ b.added.label ∙ full, ap (outline_below g) e ∙ b.added.tree ∙ ap (outline_below f) (sym e))
      | inr ne ↦ let i : 1 ≤ occurs (children_at f h) k = in_f k (omega (arith, occurs-append s.fs (c ∷ []) k, occurs_other c k [] ne)) in
          ((b.inner k i).label ∙ full_one k (omega (arith, occurs-append s.fs (c ∷ []) k, occurs_other c k [] ne)), (b.inner k i).tree)
    ]) in
    record {
      es = s.es;
      fs = s.fs ++ c ∷ [];
      sides = put_full (children_at g h) (children_at f h) s.es s.fs end c b.children s.children;
      some = omega (arith, length-append s.fs (c ∷ []));
      empty = all_labels v w Empty s.es (λ k i. (b.inner k (in_e k i)).label) s.empty;
      full = all_from (λ k. label_at w k ≡ Full) (s.fs ++ c ∷ []) (λ k i. (same k i).0);
      empty_trees = subst (λ ts. AreEquivalent ts (map (outline_below g) s.es)) (sym s.empty_trees) (are_same (outline_below f) (outline_below g) s.es (λ k i. (b.inner k (in_e k i)).tree));
      full_trees = subst (λ us. AreEquivalent (join x.f ts) us) (sym (map_same (outline_below f) (outline_below g) (s.fs ++ c ∷ []) (λ k i. (same k i).1) ∙ map-append (outline_below f) s.fs (c ∷ [])))
          (equivalent_join x.f ts (map (outline_below f) s.fs) (outline_below f c ∷ [])
          (subst (λ us. AreEquivalent us (map (outline_below f) s.fs)) (sym s.full_trees) (are_same (outline_below f) (outline_below f) s.fs (λ k i. refl))) eq);
    }
  where
    full_one : (k : ℕ) → 1 ≤ occurs s.fs k → label_at v k ≡ Full
    full_one k o = all_at (λ j. label_at v j ≡ Full) s.fs k s.full o
