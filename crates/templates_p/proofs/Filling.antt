-- P5: the partial child with the full children at its full end, and then with what is left of the node at its empty end.
use Rattle.std.proofs.Common.{◌≡◌, ◌≢◌, ◌⊎◌, inl, inr, ℕ, ◌+◌, ◌-◌, ◌≤◌, List, [], ◌∷◌, map, length, Option, Some, None, refl, sym, ap, subst, ◌∙◌, arith}
use Rattle.std.proofs.lemmas.Bool.{cases_eq}
use Rattle.std.proofs.lemmas.List.{length-map}
use Rattle.column_order.specs.Orders.{occurs}
use Rattle.pq_tree.specs.Outline.{Outline, Forest, no_tree, tree_and}
use Rattle.pq_tree.specs.Forests.{join}
use Rattle.pq_tree.specs.Proper.{forest, count}
use Rattle.pq_tree.specs.Equivalent.{AreEquivalent}
use Rattle.arena_model.specs.declared.Shape.TheVariants.{Leaf, P, Q}
use Rattle.arena_model.specs.ChildLists.{without}
use Rattle.arena_model.specs.Layout.{Layout, shape_at, children_at, IsAtOrAbove, here, down, IsLayout}
use Rattle.arena_model.specs.NamedTree.{outline_below, IsOneTree, HasTwoEach}
use Rattle.arena_model.proofs.Lists.{occurs_here}
use Rattle.arena_model.proofs.Paths.{one_parent}
use Rattle.arena_model.proofs.Slots.{used_by}
use Rattle.arena_model.proofs.Trees.{no_circle}
use Rattle.pq_arena.specs.declared.node.NodeId.{NodeId}
use Rattle.bubble_pass.specs.declared.labels.Label.TheVariants.{Empty, Partial as Partly}
use Rattle.bubble_pass.specs.Marks.{Marks, label_at, size_of}
use Rattle.tree_theory.specs.Templates.{Partial, star, p5}
use Rattle.template_model.specs.Standing.{IsShapeAt, IsReady}
use Rattle.template_model.specs.Treated.{IsTreated, StandsForPartial}
use Rattle.templates_p.specs.Fits.{StandsP5}
use Rattle.templates_p.specs.Sorts.{full_nodes, empty_nodes, partial_nodes}
use Rattle.templates_p.specs.Steps.{IsSameAt, IsGathered, HasGroup, CanGather}
use Rattle.templates_p.specs.Lines.{IsShapeTo, IsAbsorbed}
use Rattle.templates_p.specs.Parts.{IsParted, IsLineFor, CanFill, IsFilled, CanLift}
use Rattle.templates_p.proofs.Sorting.{count_map, all_sorted, sorted_label, empties, not_empty_partial, not_full_empty}
use Rattle.templates_p.proofs.Becoming.{can_gather}
use Rattle.templates_p.proofs.Chaining.{child_once}
use Rattle.templates_p.proofs.Grouping.{neither}
use Rattle.templates_p.proofs.Moving.{without_gone, without_kept, without_less}
use Rattle.templates_p.proofs.Ending.{OnePartial, one_partial}
use Rattle.templates_p.proofs.FullEnd.{partial_count, line_shape, can_absorb}
use Rattle.templates_p.proofs.Parting.{IsLineOf, parted_treated}
use Rattle.templates_p.proofs.Lining.{line_stands, AreEnds, parted_line, rest_bag, shape_line, absorbed_line}
use Rattle.pq_tree.proofs.Forests.{join_no_tree}

-- where the node stands then: at n, over h and the empty children, or it is h where there are none
abbrev pub IsLeft : Layout → Marks → Layout → Marks → ℕ → ℕ → ℕ → Type 0
IsLeft f v i x n h a =
    ((a ≡ n) × (shape_at i n ≡ Some P) × ((k : ℕ) → occurs (children_at i n) k ≡ occurs (h ∷ empty_nodes v (children_at f n)) k) ×
    ((k : ℕ) → 1 ≤ occurs (empty_nodes v (children_at f n)) k → IsSameAt f v i x k))
    ⊎ ((a ≡ h) × ((k : ℕ) → occurs (empty_nodes v (children_at f n)) k ≡ 0))

-- the partial child h of n, which stands for p, has the full children at its full end
pub record HasLine (f : Layout) (v : Marks) (i : Layout) (x : Marks) (n h end a : ℕ) (p : Partial) (fs : Forest) : Type 0 where
  pub is_q : shape_at i h ≡ Some Q
  pub line : IsLineFor i x (children_at i h) end p.e (join p.f (star fs))
  pub place : IsLeft f v i x n h a

no_fulls : (f : Layout) (v : Marks) (n : ℕ) (fs : Forest) → forest (map (outline_below f) (full_nodes v (children_at f n))) ≡ fs → full_nodes v (children_at f n) ≡ [] → fs ≡ no_tree
no_fulls f v n fs e q = sym e ∙ ap (λ xs. forest (map (outline_below f) xs)) q

-- where no child is full
plain_line : (f : Layout) (v : Marks) (n h end : ℕ) (es : Forest) (p : Partial) (fs : Forest) → shape_at f n ≡ Some P → OnePartial f v n h es p fs →
    full_nodes v (children_at f n) ≡ [] → IsShapeTo f v h p end → HasLine f v f v n h end n p fs
plain_line f v n h end es p fs is_p k none s =
    let ks : List ℕ = children_at f n in
    record {
      is_q = s.is_q;
      line = subst (λ ts. IsLineFor f v (children_at f h) end p.e (join p.f (star ts))) (sym (no_fulls f v n fs k.full none))
          (subst (λ ts. IsLineFor f v (children_at f h) end p.e ts) (sym (join_no_tree p.f)) (shape_line f v h p end s));
      place = inl (
        refl,
        is_p,
        (λ j. let a : occurs (full_nodes v ks) j ≡ 0 = ap (λ xs. occurs xs j) none in
            let b : occurs (partial_nodes v ks) j ≡ occurs (h ∷ []) j = ap (λ xs. occurs xs j) k.only in omega (arith, all_sorted v ks j)),
        (λ j o. record { label = refl; tree = refl; shape = λ h x. x }),
      );
    }

-- where some are
group_line : (f g i : Layout) (v w x : Marks) (n h y end a : ℕ) (es : Forest) (p : Partial) (fs : Forest) → OnePartial f v n h es p fs → label_at v h ≡ Partly →
    HasGroup f v g w n y → IsShapeTo g w h p end → IsAbsorbed g w i x n h y end a → HasLine f v i x n h end a p fs
group_line f g i v w x n h y end a es p fs k l grp s b =
    let ks : List ℕ = children_at f n in
    let one : (j : ℕ) → occurs (partial_nodes v ks) j ≡ occurs (h ∷ []) j = (λ j. ap (λ xs. occurs xs j) k.only) in
    record {
      is_q = b.shape;
      line = absorbed_line g i w x n h y end a p (star fs) s b grp.label (subst (λ ts. AreEquivalent (star ts) (outline_below g y ∷ [])) k.full grp.tree);
      place = elim b.place [
        | inl c ↦ inl (
          c.0,
          c.1,
          (λ j. let d : occurs (children_at i n) j + occurs (y ∷ []) j ≡ occurs (children_at g n) j = c.3 j in omega (arith, grp.children j, one j)),
          (λ j o. both j o (c.4 j)),
        )
        | inr c ↦ inr (c.0, λ j. let d : occurs (children_at g n) j ≡ occurs (h ∷ y ∷ []) j = c.1 j in omega (arith, grp.children j, one j))
      ];
    }
  where
    both : (j : ℕ) → 1 ≤ occurs (empty_nodes v (children_at f n)) j → (1 ≤ occurs (children_at g n) j → j ≢ h → j ≢ y → IsSameAt g w i x j) → IsSameAt f v i x j
    both j o c =
        let is : label_at v j ≡ Empty = sorted_label empties v (children_at f n) j o in
        let e : IsSameAt f v g w j = grp.others j (omega arith) in
        let nh : j ≢ h = (λ z. not_empty_partial (label_at v j) is (ap (label_at v) z ∙ l)) in
        let ny : j ≢ y = (λ z. not_full_empty (label_at w j) (ap (label_at w) z ∙ grp.label) (e.label ∙ is)) in
        let d : IsSameAt g w i x j = c (omega (arith, grp.children j)) nh ny in
        record { label = d.label ∙ e.label; tree = d.tree ∙ e.tree; shape = λ z q. d.shape z (e.shape z q) }

pub filled_line : (f g i : Layout) (v w x : Marks) (n h end a : ℕ) (group : Option NodeId) (es : Forest) (p : Partial) (fs : Forest) → shape_at f n ≡ Some P →
    OnePartial f v n h es p fs → label_at v h ≡ Partly → IsGathered f v g w n group → ((z : Partial) → IsShapeAt g w h z → IsShapeTo g w h z end) →
    IsFilled g w i x n h end a group → HasLine f v i x n h end a p fs
filled_line f g i v w x n h end a None es p fs is_p k l q to b =
    let s : IsShapeAt g w h p = subst (λ z. IsShapeAt z w h p) (sym q.1) (subst (λ z. IsShapeAt f z h p) (sym q.2) k.shape) in
    let t : IsShapeTo f v h p end = subst (λ z. IsShapeTo f z h p end) q.2 (subst (λ z. IsShapeTo z w h p end) q.1 (to p s)) in
    subst (λ z. HasLine f v i x n h end z p fs) (sym b.0) (subst (λ z. HasLine f v z x n h end n p fs) (sym (b.1 ∙ q.1)) (subst (λ z. HasLine f v f z n h end n p fs) (sym (b.2 ∙ q.2))
    (plain_line f v n h end es p fs is_p k q.0 t)))
filled_line f g i v w x n h end a (Some y) es p fs is_p k l q to b =
    group_line f g i v w x n h y.index end a es p fs k l q (to p (line_shape f g v w n h y.index es p fs k q)) b

pub p5_partial : (f : Layout) (w : Marks) (n h : ℕ) → (s : StandsP5 f w n) → 1 ≤ occurs (children_at f n) h → label_at w h ≡ Partly →
    OnePartial f w n h s.3.1.1.es s.3.1.1.h s.3.1.1.fs
p5_partial f w n h s o l = one_partial f w n h s.0 s.3.1.1.es s.3.1.1.h s.3.1.1.fs s.1 s.2 s.3.1.1.pattern o l

pub p5_one : (f : Layout) (w : Marks) (n : ℕ) → StandsP5 f w n → length (partial_nodes w (children_at f n)) ≡ 1
p5_one f w n s = partial_count f w n s.0 s.3.1.1.es s.3.1.1.fs (s.3.1.1.h ∷ []) s.1 s.3.1.1.pattern

pub p5_can_gather : (f : Layout) (w : Marks) (n : ℕ) → IsReady f w n → StandsP5 f w n → CanGather f w n
p5_can_gather f w n r s = can_gather f w n r s.3.0 (let e : length (partial_nodes w (children_at f n)) ≡ 1 = p5_one f w n s in omega arith)

-- the partial child once the full children were gathered
pub gathered_shape : (f g : Layout) (v w : Marks) (n h : ℕ) (group : Option NodeId) (es : Forest) (p : Partial) (fs : Forest) → OnePartial f v n h es p fs →
    IsGathered f v g w n group → IsShapeAt g w h p
gathered_shape f g v w n h None es p fs k q = subst (λ z. IsShapeAt z w h p) (sym q.1) (subst (λ z. IsShapeAt f z h p) (sym q.2) k.shape)
gathered_shape f g v w n h (Some y) es p fs k q = line_shape f g v w n h y.index es p fs k q

pub can_fill : (f g : Layout) (v w : Marks) (n h : ℕ) (group : Option NodeId) (es : Forest) (p : Partial) (fs : Forest) → IsLayout f → IsLayout g → IsReady f v n →
    IsTreated f g v w n n → OnePartial f v n h es p fs → label_at v h ≡ Partly → IsGathered f v g w n group → CanFill g w n h group
can_fill f g v w n h None es p fs lf lg r t k l q = tt
can_fill f g v w n h (Some y) es p fs lf lg r t k l q = can_absorb f g v w n h y.index es p fs lf lg r t k l q

-- what a child that is a line is to its node
pub child_line : (i : Layout) (n h : ℕ) → IsLayout i → shape_at i n ≡ Some P → shape_at i h ≡ Some Q → 1 ≤ occurs (children_at i n) h → 1 ≤ length (children_at i h) →
    IsLineOf i n h (without (children_at i n) h) (children_at i h)
child_line i n h li is_p is_q c some = record {
  is_p = is_p;
  mine = inl (down n h h c (here h));
  closed = λ j o. inr (subst (λ z. 1 ≤ occurs (n ∷ h ∷ []) z) (one_parent i n j h li c o) (occurs_here n (h ∷ [])));
  no_leaf = λ b e. (let z : Some Q ≡ Some (Leaf b) = sym is_q ∙ e in cc);
  some = some;
  own = λ k o. o;
  below = λ k o. down n h k c (down h k k o (here k));
  inner = λ k o. neither n h k
      (λ e. no_circle i.slots n h (li.grounds n) c (down h k n o (subst (λ z. IsAtOrAbove i.slots k z) e (here k))))
      (λ e. no_circle i.slots h k (li.grounds h) o (subst (λ z. IsAtOrAbove i.slots k z) e (here k)));
  child = λ k o. omega (arith, without_less (children_at i n) h k);
  other = λ k o. neither n h k
      (λ e. no_circle i.slots n k (li.grounds n) (omega (arith, without_less (children_at i n) h k)) (subst (λ z. IsAtOrAbove i.slots k z) e (here k)))
      (λ e. let z : occurs (without (children_at i n) h) k ≡ 0 = subst (λ y. occurs (without (children_at i n) h) y ≡ 0) (sym e) (without_gone (children_at i n) h) in omega arith);
  covers = λ k o. elim (cases_eq k h) [
    | inl e ↦ inl e
    | inr ne ↦ inr (omega (arith, without_kept (children_at i n) h k ne))
  ];
}

equivalent_some : (E : Forest) (us : List Outline) → AreEquivalent E us → 1 ≤ count E → 1 ≤ length us
equivalent_some no_tree us a l = absurd (omega arith)
equivalent_some (tree_and t ts) [] a l = absurd a
equivalent_some (tree_and t ts) (u ∷ us) a l = omega arith

empty_none : (xs : List ℕ) → ((k : ℕ) → occurs xs k ≡ 0) → xs ≡ []
empty_none [] z = refl
empty_none (x ∷ xs) z = absurd (let a : occurs (x ∷ xs) x ≡ 0 = z x in omega (arith, occurs_here x xs))

-- the line is long where it stands for a shape
line_long : (f i : Layout) (v x : Marks) (h end : ℕ) (p : Partial) (F : Forest) → IsShapeAt f v h p → (s : IsLineFor i x (children_at i h) end p.e F) → 1 ≤ length s.es
line_long f i v x h end p F k s =
    let many : 1 ≤ count p.e = subst (λ z. 1 ≤ count z) (sym k.empty_trees) (let a : 1 ≤ length k.es = k.some_empty in omega (arith, count_map (outline_below f) k.es)) in
    omega (arith, equivalent_some p.e (map (outline_below i) s.es) s.empty_trees many, length-map s.es (outline_below i))

-- P5 where no child is empty
pub p5_top : (f i : Layout) (v x : Marks) (n h end a : ℕ) (es : Forest) (p : Partial) (fs : Forest) → OnePartial f v n h es p fs → HasLine f v i x n h end a p fs → a ≡ h → n ≢ h →
    StandsForPartial i x a (p5 es p fs)
p5_top f i v x n h end a es p fs k b is apart = elim b.place [
  | inl q ↦ absurd (apart (sym q.0 ∙ is))
  | inr q ↦
      let none : es ≡ no_tree = sym k.empty ∙ ap (λ xs. forest (map (outline_below f) xs)) (empty_none (empty_nodes v (children_at f n)) q.1) in
      subst (λ z. StandsForPartial i x z (p5 es p fs)) (sym is) (subst (λ ts. StandsForPartial i x h (p5 ts p fs)) (sym none)
      (line_stands i x h b.line.es b.line.fs p.e (join p.f (star fs)) b.is_q (elim b.line.sides [ inl c ↦ inl c.1 | inr c ↦ inr c.1 ])
      (line_long f i v x h end p (join p.f (star fs)) k.shape b.line) b.line.some b.line.empty b.line.full b.line.empty_trees b.line.full_trees))
]

-- what holds where some are
pub record StaysAt (f : Layout) (v : Marks) (i : Layout) (x : Marks) (n h a : ℕ) : Type 0 where
  pub node : a ≡ n
  pub is_p : shape_at i n ≡ Some P
  pub is_q : shape_at i h ≡ Some Q
  pub bag : (k : ℕ) → occurs (children_at i n) k ≡ occurs (h ∷ empty_nodes v (children_at f n)) k
  pub same : (k : ℕ) → 1 ≤ occurs (empty_nodes v (children_at f n)) k → IsSameAt f v i x k

stays_at : (f i : Layout) (v x : Marks) (n h end a : ℕ) (p : Partial) (fs : Forest) → HasLine f v i x n h end a p fs → a ≢ h → StaysAt f v i x n h a
stays_at f i v x n h end a p fs b ne = elim b.place [
  | inl q ↦ record { node = q.0; is_p = q.1; is_q = b.is_q; bag = q.2; same = q.3 }
  | inr q ↦ absurd (ne q.0)
]

pub p5_stays : (f g i : Layout) (v w x : Marks) (n h end a : ℕ) (group : Option NodeId) → StandsP5 f v n → 1 ≤ occurs (children_at f n) h → label_at v h ≡ Partly →
    IsGathered f v g w n group → ((z : Partial) → IsShapeAt g w h z → IsShapeTo g w h z end) → IsFilled g w i x n h end a group → a ≢ h → StaysAt f v i x n h a
p5_stays f g i v w x n h end a group s o l q to b ne = stays_at f i v x n h end a s.3.1.1.h s.3.1.1.fs
    (filled_line f g i v w x n h end a group s.3.1.1.es s.3.1.1.h s.3.1.1.fs s.3.0 (p5_partial f v n h s o l) l q to b) ne

other_end : (end : ℕ) → end ≤ 1 → AreEnds end (1 - end)
other_end end l = elim (cases_eq end 1) [
  | inl e ↦ inl (e, omega arith)
  | inr ne ↦ inr (omega arith, omega arith)
]

module _ (f i : Layout) (v x : Marks) (n h a : ℕ) (li : IsLayout i) (one : IsOneTree i) (two : HasTwoEach i) (s : StaysAt f v i x n h a) where
  line_in : 1 ≤ occurs (children_at i n) h
  line_in = omega (arith, s.bag h, occurs_here h (empty_nodes v (children_at f n)))

  rest_is : (k : ℕ) → occurs (empty_nodes v (children_at f n)) k ≡ occurs (without (children_at i n) h) k
  rest_is = rest_bag (children_at i n) (empty_nodes v (children_at f n)) h s.bag (child_once i n h li)

  rest_empty : (k : ℕ) → 1 ≤ occurs (without (children_at i n) h) k → label_at x k ≡ Empty
  rest_empty k o = let o' : 1 ≤ occurs (empty_nodes v (children_at f n)) k = omega (arith, rest_is k) in (s.same k o').label ∙ sorted_label empties v (children_at f n) k o'

  pub can_lift : size_of x ≡ length i.slots → CanLift i x n h
  can_lift room = record {
    hand = record { is_p = s.is_p; child = line_in; above = one n (used_by i n P s.is_p) };
    is_q = s.is_q;
    more = two n (inl s.is_p);
    room = room;
  }

  line_of : IsLineOf i n h (without (children_at i n) h) (children_at i h)
  line_of = child_line i n h li s.is_p s.is_q line_in (let l : 2 ≤ length (children_at i h) = two h (inr s.is_q) in omega arith)

  pub lift_treated : (j : Layout) (y : Marks) (end : ℕ) → IsLayout j → IsParted i j x y n h end (without (children_at i n) h) (children_at i h) → IsTreated i j x y n h
  lift_treated j y end lj p =
      parted_treated i j x y n h end (without (children_at i n) h) (children_at i h) li lj line_of p rest_empty one two

  -- P5 where some child is empty
  pub p5_lifted : (j : Layout) (y : Marks) (full : ℕ) (es : Forest) (p : Partial) (fs : Forest) → full ≤ 1 → IsLayout j → OnePartial f v n h es p fs → HasLine f v i x n h full a p fs →
      IsParted i j x y n h (1 - full) (without (children_at i n) h) (children_at i h) → StandsForPartial j y h (p5 es p fs)
  p5_lifted j y full es p fs small lj k b parted =
      subst (λ ts. StandsForPartial j y h (p5 ts p fs)) k.empty
      (parted_line i j x y n h (1 - full) full (without (children_at i n) h) (children_at i h) li lj line_of parted rest_empty
      (outline_below f) (empty_nodes v (children_at f n)) rest_is
      (λ c o. (s.same c (let o' : 1 ≤ occurs (empty_nodes v (children_at f n)) c = omega (arith, rest_is c) in o')).tree)
      p.e (join p.f (star fs)) b.line (other_end full small))
