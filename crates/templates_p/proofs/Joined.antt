-- What stands where two partial children have become one Q-node.
use Rattle.std.proofs.Common.{◌≡◌, ◌≢◌, ◌⊎◌, inl, inr, ℕ, ◌+◌, ◌-◌, ◌≤◌, true, false, cond, eqb, List, [], ◌∷◌, ◌++◌, map, reverse, length, Option, Some, None, refl, sym, ap, subst, ◌∙◌, arith, append_assoc}
use Rattle.std.proofs.lemmas.List.{reverse-append, reverse-reverse, map-append}
use Rattle.column_order.specs.Orders.{occurs}
use Rattle.column_order.proofs.Lists.{occurs-append}
use Rattle.pq_tree.specs.Outline.{Outline, Forest, q_node, tree_and}
use Rattle.pq_tree.specs.Forests.{join, back}
use Rattle.pq_tree.specs.Proper.{forest}
use Rattle.pq_tree.specs.Equivalent.{IsEquivalent, AreEquivalent}
use Rattle.pq_tree.proofs.Forests.{map-reverse, forest_append, forest_reverse, join_assoc}
use Rattle.arena_model.specs.declared.Shape.TheVariants.{Q}
use Rattle.arena_model.specs.ChildLists.{oriented}
use Rattle.arena_model.specs.Layout.{Layout, shape_at, children_at, IsLayout}
use Rattle.arena_model.specs.NamedTree.{outline_below}
use Rattle.pq_arena.specs.declared.node.NodeId.{NodeId}
use Rattle.bubble_pass.specs.declared.labels.Label.TheVariants.{Empty}
use Rattle.bubble_pass.specs.Marks.{Marks, label_at}
use Rattle.tree_theory.specs.Templates.{Partial, Label, star, line, IsP6}
use Rattle.template_model.specs.Standing.{child_trees, AreMarkedAs, AreShapesAt, IsShapeAt}
use Rattle.template_model.specs.Treated.{StandsForTree}
use Rattle.templates_p.specs.Sorts.{empty_nodes, partial_nodes}
use Rattle.templates_p.specs.Steps.{IsSameAt}
use Rattle.templates_p.specs.Lines.{IsShapeTo}
use Rattle.templates_p.specs.Merging.{laid_on, IsMerged}
use Rattle.templates_p.proofs.Sorting.{not_full_partial, not_empty_partial, sorted_label, empties}
use Rattle.templates_p.proofs.Framing.{p_stands, q_stands, are_same, map_same, reverse_occurs, same_length}
use Rattle.templates_p.proofs.Becoming.{equivalent_join}
use Rattle.templates_p.proofs.Lengthening.{listed, AreGathered, put_on_all, IsLengthened, CanLengthen}
use Rattle.templates_p.proofs.TwoPartials.{ArePartials, are_partials, AreFound, AreReady}
use Rattle.templates_p.proofs.Ending.{under_some, under_none}

-- the trees of a partial as a list
line_is : (o : ℕ → Outline) (es fs : List ℕ) (x : Partial) → x.e ≡ forest (map o es) → x.f ≡ forest (map o fs) → line x ≡ forest (map o (es ++ fs))
line_is o es fs x e f = ap (λ z. join z x.f) e ∙ ap (λ z. join (forest (map o es)) z) f ∙ sym (forest_append (map o es) (map o fs)) ∙ ap forest (sym (map-append o es fs))

back_is : (o : ℕ → Outline) (xs : List ℕ) → back (forest (map o xs)) ≡ forest (map o (reverse xs))
back_is o xs = sym (forest_reverse (map o xs)) ∙ ap forest (sym (map-reverse o xs))

-- a Q-node over the trees of as, then those of gs, then those of bs turned
pub joined_stands : (j : Layout) (p : ℕ) (oa ob og : ℕ → Outline) (as' bs gs : List ℕ) (xs ys fs : Forest) → IsLayout j → shape_at j p ≡ Some Q →
    (children_at j p ≡ (as' ++ gs) ++ reverse bs) ⊎ (children_at j p ≡ reverse ((as' ++ gs) ++ reverse bs)) → xs ≡ forest (map oa as') → ys ≡ forest (map ob bs) → AreEquivalent fs (map og gs) →
    ((k : ℕ) → 1 ≤ occurs as' k → outline_below j k ≡ oa k) → ((k : ℕ) → 1 ≤ occurs bs k → outline_below j k ≡ ob k) → ((k : ℕ) → 1 ≤ occurs gs k → outline_below j k ≡ og k) →
    IsEquivalent (q_node (join xs (join fs (back ys)))) (outline_below j p)
joined_stands j p oa ob og as' bs gs xs ys fs lay is sides ex ey ef sa sb sg =
    let o : ℕ → Outline = outline_below j in
    let a : AreEquivalent xs (map o as') = subst (λ ts. AreEquivalent ts (map o as')) (sym ex) (are_same oa o as' sa) in
    let g : AreEquivalent fs (map o gs) = subst (λ us. AreEquivalent fs us) (sym (map_same og o gs sg)) ef in
    let b : AreEquivalent (back ys) (map o (reverse bs)) = subst (λ ts. AreEquivalent ts (map o (reverse bs))) (sym (ap back ey ∙ back_is ob bs))
    (are_same ob o (reverse bs) (λ k q. sb k (subst (λ z. 1 ≤ z) (reverse_occurs bs k) q))) in
    let front : AreEquivalent (join xs fs) (map o (as' ++ gs)) = subst (λ us. AreEquivalent (join xs fs) us) (sym (map-append o as' gs)) (equivalent_join xs fs (map o as') (map o gs) a g) in
    let all : AreEquivalent (join (join xs fs) (back ys)) (map o ((as' ++ gs) ++ reverse bs)) =
    subst (λ us. AreEquivalent (join (join xs fs) (back ys)) us) (sym (map-append o (as' ++ gs) (reverse bs)))
    (equivalent_join (join xs fs) (back ys) (map o (as' ++ gs)) (map o (reverse bs)) front b) in
    q_stands j p ((as' ++ gs) ++ reverse bs) (join xs (join fs (back ys))) lay is sides
    (subst (λ ts. AreEquivalent ts (map o ((as' ++ gs) ++ reverse bs))) (join_assoc xs fs (back ys)) all)

few_reverse : (gs : List ℕ) → length gs ≤ 1 → reverse gs ≡ gs
few_reverse [] l = refl
few_reverse (g ∷ []) l = refl
few_reverse (g ∷ h ∷ gs) l = absurd (omega arith)

-- turned, the two outer lists change places
turned : (as' gs bs : List ℕ) → length gs ≤ 1 → reverse ((as' ++ gs) ++ reverse bs) ≡ (bs ++ gs) ++ reverse as'
turned as' gs bs l = reverse-append (as' ++ gs) (reverse bs) ∙ ap (λ z. z ++ reverse (as' ++ gs)) (reverse-reverse bs) ∙ ap (λ z. bs ++ z) (reverse-append as' gs)
    ∙ ap (λ z. bs ++ (z ++ reverse as')) (few_reverse gs l) ∙ sym (append_assoc bs gs (reverse as'))

turn_sides : (ks as' gs bs : List ℕ) → length gs ≤ 1 → (ks ≡ (as' ++ gs) ++ reverse bs) ⊎ (ks ≡ reverse ((as' ++ gs) ++ reverse bs)) →
    (ks ≡ (bs ++ gs) ++ reverse as') ⊎ (ks ≡ reverse ((bs ++ gs) ++ reverse as'))
turn_sides ks as' gs bs l (inl e) = inr (e ∙ sym (turned bs gs as' l))
turn_sides ks as' gs bs l (inr e) = inl (e ∙ turned as' gs bs l)

-- read from its empty end
outer_first : (end : ℕ) (ks bs : List ℕ) → ((end ≡ 1) × (ks ≡ bs)) ⊎ ((end ≡ 0) × (ks ≡ reverse bs)) → oriented (1 - end) ks ≡ bs
outer_first end ks bs (inl s) = ap (λ z. oriented (1 - z) ks) s.0 ∙ s.1
outer_first end ks bs (inr s) = ap (λ z. oriented (1 - z) ks) s.0 ∙ ap reverse s.1 ∙ reverse-reverse bs

laid_sides : (end : ℕ) (as' gs bs ks : List ℕ) → length gs ≤ 1 → ((end ≡ 1) × (ks ≡ as')) ⊎ ((end ≡ 0) × (ks ≡ reverse as')) →
    (laid_on end bs (put_on_all end gs ks) ≡ (as' ++ gs) ++ reverse bs) ⊎ (laid_on end bs (put_on_all end gs ks) ≡ reverse ((as' ++ gs) ++ reverse bs))
laid_sides end as' gs bs ks l (inl s) = inl (ap (λ z. laid_on z bs (put_on_all z gs ks)) s.0 ∙ ap (λ z. (z ++ gs) ++ reverse bs) s.1)
laid_sides end as' gs bs ks l (inr s) = inr (ap (λ z. laid_on z bs (put_on_all z gs ks)) s.0 ∙ ap (λ z. bs ++ (gs ++ z)) s.1 ∙ sym (append_assoc bs gs (reverse as')) ∙ sym (turned as' gs bs l))

put_all_occurs : (end : ℕ) (cs ks : List ℕ) (k : ℕ) → occurs (put_on_all end cs ks) k ≡ occurs ks k + occurs cs k
put_all_occurs end cs ks k = elim (eqb end 0) as (λ b. occurs (cond b (cs ++ ks) (ks ++ cs)) k ≡ occurs ks k + occurs cs k) [
  | true ↦ omega (arith, occurs-append cs ks k)
  | false ↦ omega (arith, occurs-append ks cs k)
]

listed_few : (y : Option NodeId) → length (listed y) ≤ 1
listed_few None = omega arith
listed_few (Some c) = omega arith

-- the members of a Q-shape
side_member : (end : ℕ) (ks bs : List ℕ) (k : ℕ) → ((end ≡ 1) × (ks ≡ bs)) ⊎ ((end ≡ 0) × (ks ≡ reverse bs)) → occurs ks k ≡ occurs bs k
side_member end ks bs k (inl s) = ap (λ z. occurs z k) s.1
side_member end ks bs k (inr s) = ap (λ z. occurs z k) s.1 ∙ reverse_occurs bs k

-- the line once it was lengthened and the other was merged into it
pub record IsMergedLine (g i j : Layout) (w x : Marks) (n p q end other a : ℕ) (y : Option NodeId) (s t : Partial) : Type 0 where
  pub layout : IsLayout j
  pub first : IsShapeTo g w p s end
  pub second : IsShapeTo i w q t other
  pub can : CanLengthen g w n p q y
  pub long : IsLengthened g i w n p end y
  pub merged : IsMerged i w j x n p q a (laid_on end (oriented (1 - other) (children_at i q)) (children_at i p))

module _ (g i j : Layout) (w x : Marks) (n p q end other a : ℕ) (y : Option NodeId) (s t : Partial) (m : IsMergedLine g i j w x n p q end other a y s t) where
  front : List ℕ
  front = m.first.es ++ m.first.fs

  behind : List ℕ
  behind = m.second.es ++ m.second.fs

  line_sides : (children_at j p ≡ (front ++ listed y) ++ reverse behind) ⊎ (children_at j p ≡ reverse ((front ++ listed y) ++ reverse behind))
  unfolding front behind
  line_sides =
      let e : children_at j p ≡ laid_on end (m.second.es ++ m.second.fs) (put_on_all end (listed y) (children_at g p)) =
      m.merged.children ∙ ap (λ z. laid_on end z (children_at i p)) (outer_first other (children_at i q) (m.second.es ++ m.second.fs) m.second.children)
      ∙ ap (laid_on end (m.second.es ++ m.second.fs)) m.long.line in
      elim (laid_sides end (m.first.es ++ m.first.fs) (listed y) (m.second.es ++ m.second.fs) (children_at g p) (listed_few y) m.first.children) [
        | inl r ↦ inl (e ∙ r)
        | inr r ↦ inr (e ∙ r)
      ]

  in_line : (k : ℕ) → occurs (children_at i p) k ≡ occurs (children_at g p) k + occurs (listed y) k
  in_line k = ap (λ z. occurs z k) m.long.line ∙ put_all_occurs end (listed y) (children_at g p) k

  front_tree : (k : ℕ) → 1 ≤ occurs front k → outline_below j k ≡ outline_below g k
  unfolding front
  front_tree k o =
      let c : occurs (children_at g p) k ≡ occurs (m.first.es ++ m.first.fs) k = side_member end (children_at g p) (m.first.es ++ m.first.fs) k m.first.children in
      (m.merged.inner k (omega (arith, in_line k))).tree ∙ (m.long.inner k (omega arith)).tree

  behind_tree : (k : ℕ) → 1 ≤ occurs behind k → outline_below j k ≡ outline_below i k
  unfolding behind
  behind_tree k o =
      let c : occurs (children_at i q) k ≡ occurs (m.second.es ++ m.second.fs) k = side_member other (children_at i q) (m.second.es ++ m.second.fs) k m.second.children in
      (m.merged.inner k (omega arith)).tree

  listed_tree : (k : ℕ) → 1 ≤ occurs (listed y) k → outline_below j k ≡ outline_below g k
  listed_tree k o =
      let c = m.can.child k o in
      (m.merged.inner k (omega (arith, in_line k))).tree ∙ (m.long.same k c.0 (λ e. not_full_partial (label_at w k) c.1 (ap (label_at w) e ∙ m.can.partial))).tree

  first_is : line s ≡ forest (map (outline_below g) front)
  unfolding front
  first_is = line_is (outline_below g) m.first.es m.first.fs s m.first.empty_trees m.first.full_trees

  second_is : line t ≡ forest (map (outline_below i) behind)
  unfolding behind
  second_is = line_is (outline_below i) m.second.es m.second.fs t m.second.empty_trees m.second.full_trees

  -- read from either end it stands for the trees of both partial_nodes, the full ones inside
  pub line_stands : (fs : Forest) → AreEquivalent fs (map (outline_below g) (listed y)) → IsEquivalent (q_node (join (line s) (join fs (back (line t))))) (outline_below j p)
  line_stands fs e = joined_stands j p (outline_below g) (outline_below i) (outline_below g) front behind (listed y) (line s) (line t) fs m.layout m.merged.shape line_sides first_is second_is e
      front_tree behind_tree listed_tree

  pub back_stands : (fs : Forest) → AreEquivalent fs (map (outline_below g) (listed y)) → IsEquivalent (q_node (join (line t) (join fs (back (line s))))) (outline_below j p)
  back_stands fs e = joined_stands j p (outline_below i) (outline_below g) (outline_below g) behind front (listed y) (line t) (line s) fs m.layout m.merged.shape
      (turn_sides (children_at j p) front (listed y) behind (listed_few y) line_sides) second_is first_is e behind_tree front_tree listed_tree

-- P6 applied
pub p6_becomes : (f g i j : Layout) (v w x : Marks) (n p q end other a : ℕ) (y : Option NodeId) (ps : List Label) (u : Outline) → IsLayout j → AreMarkedAs f v n ps → AreShapesAt f v (children_at f n) ps →
    AreReady f v g w n p q y → ((z : Partial) → IsShapeAt g w p z → IsShapeTo g w p z end) → IsLengthened g i w n p end y → ((z : Partial) → IsShapeAt i w q z → IsShapeTo i w q z other) →
    IsMerged i w j x n p q a (laid_on end (oriented (1 - other) (children_at i q)) (children_at i p)) → IsP6 true (child_trees f n) ps u → StandsForTree j a u
p6_becomes f g i j v w x n p q end other a y ps u lay m s r to l to_other b six =
    let ks : List ℕ = children_at f n in
    let found : AreFound f v n p q = r.found in
    let d : ArePartials f v n p q six.es six.fs six.h six.k = are_partials f v n p q ps six.es six.fs six.h six.k m s six.pattern found.p_child found.q_child found.p_label found.q_label (λ e. found.apart (sym e)) in
    let t : Outline = q_node (join (line six.h) (join (star six.fs) (back (line six.k)))) in
    let gathered : AreGathered f v g w n y = r.gathered in
    let q_in : 1 ≤ occurs (partial_nodes v ks) q = r.q_in in
    let p_in : 1 ≤ occurs (partial_nodes v ks) p = r.p_in in
    let z : IsMergedLine g i j w x n p q end other a y d.x d.y = record {
      layout = lay;
      first = to d.x ((gathered.others p (omega arith)).shape d.x d.first);
      second = to_other d.y ((l.same q r.can.other found.apart).shape d.y ((gathered.others q (omega arith)).shape d.y d.second));
      can = r.can;
      long = l;
      merged = b;
    } in
    let full : AreEquivalent (star six.fs) (map (outline_below g) (listed y)) = subst (λ ts. AreEquivalent (star ts) (map (outline_below g) (listed y))) d.full gathered.trees in
    let stands : IsEquivalent t (outline_below j p) = elim d.order [
      | inl e ↦ subst (λ h. IsEquivalent (q_node (join (line h) (join (star six.fs) (back (line six.k))))) (outline_below j p)) e.0
          (subst (λ k. IsEquivalent (q_node (join (line d.x) (join (star six.fs) (back (line k))))) (outline_below j p)) e.1
          (line_stands g i j w x n p q end other a y d.x d.y z (star six.fs) full))
      | inr e ↦ subst (λ h. IsEquivalent (q_node (join (line h) (join (star six.fs) (back (line six.k))))) (outline_below j p)) e.1
          (subst (λ k. IsEquivalent (q_node (join (line d.y) (join (star six.fs) (back (line k))))) (outline_below j p)) e.0
          (back_stands g i j w x n p q end other a y d.x d.y z (star six.fs) full))
    ] in
    elim b.place [
      | inl c ↦
          let bag : (k : ℕ) → occurs (p ∷ empty_nodes v ks) k ≡ occurs (children_at j n) k = (λ k. let e : occurs (children_at j n) k + occurs (q ∷ []) k ≡ occurs (children_at i n) k = c.3 k in
          omega (arith, gathered.children k, l.bag k, d.only k)) in
          let many : 1 ≤ length (empty_nodes v ks) = (let e : 2 ≤ length (children_at j n) = c.2 in let e' : length (children_at j n) ≡ length (p ∷ empty_nodes v ks) = same_length (p ∷ empty_nodes v ks) (children_at j n) bag in omega arith) in
          let kept : (k : ℕ) → 1 ≤ occurs (empty_nodes v ks) k → outline_below j k ≡ outline_below f k = (λ k o.
          let is : label_at v k ≡ Empty = sorted_label empties v ks k o in
          let e : IsSameAt f v g w k = gathered.others k (omega arith) in
          let np : k ≢ p = (λ i'. not_empty_partial (label_at v k) is (ap (label_at v) i' ∙ found.p_label)) in
          let nq : k ≢ q = (λ i'. not_empty_partial (label_at v k) is (ap (label_at v) i' ∙ found.q_label)) in
          let in_i : 1 ≤ occurs (children_at j n) k = (let b' : occurs (p ∷ empty_nodes v ks) k ≡ occurs (children_at j n) k = bag k in omega arith) in
          let in_c : occurs (children_at j n) k + occurs (q ∷ []) k ≡ occurs (children_at i n) k = c.3 k in
          (c.4 k (omega arith) np nq).tree ∙ (l.same k (omega (arith, l.bag k)) np).tree ∙ e.tree) in
          subst (λ o. StandsForTree j o u) (sym c.0) (subst (λ o. IsEquivalent o (outline_below j n)) (sym (six.becomes ∙ under_some six.es t (outline_below f) (empty_nodes v ks) d.empty many))
          (p_stands j n (p ∷ empty_nodes v ks) (tree_and t six.es) lay c.1 bag
          (stands, subst (λ ts. AreEquivalent ts (map (outline_below j) (empty_nodes v ks))) d.empty (are_same (outline_below f) (outline_below j) (empty_nodes v ks) kept))))
      | inr c ↦
          let none : (k : ℕ) → occurs (empty_nodes v ks) k ≡ 0 = (λ k. let e : occurs (children_at i n) k ≡ occurs (p ∷ q ∷ []) k = c.1 k in omega (arith, gathered.children k, l.bag k, d.only k)) in
          subst (λ o. StandsForTree j o u) (sym c.0) (subst (λ o. IsEquivalent o (outline_below j p)) (sym (six.becomes ∙ under_none six.es t (outline_below f) (empty_nodes v ks) d.empty none)) stands)
    ]
