-- P6: what is known of the children where two are partial, and what its steps ask for, from one to the next.
use Rattle.std.proofs.Common.{◌≡◌, ◌≢◌, ◌⊎◌, inl, inr, ℕ, ◌+◌, ◌≤◌, List, [], ◌∷◌, map, length, Option, refl, sym, ap, subst, ◌∙◌, arith}
use Rattle.std.proofs.lemmas.Bool.{cases_eq, cases_lt}
use Rattle.column_order.specs.Orders.{occurs}
use Rattle.pq_tree.specs.Outline.{Forest}
use Rattle.pq_tree.specs.Proper.{forest}
use Rattle.arena_model.specs.declared.Shape.TheVariants.{P}
use Rattle.arena_model.specs.Layout.{Layout, children_at, IsLayout}
use Rattle.arena_model.specs.NamedTree.{outline_below}
use Rattle.arena_model.proofs.Lists.{occurs_here, occurs_same, occurs_other, only_one}
use Rattle.arena_model.proofs.Slots.{used_by}
use Rattle.pq_arena.specs.declared.node.NodeId.{NodeId}
use Rattle.bubble_pass.specs.declared.labels.Label.TheVariants.{Partial as Partly}
use Rattle.bubble_pass.specs.Marks.{Marks, label_at}
use Rattle.tree_theory.specs.Templates.{Partial, Label, IsSorted}
use Rattle.template_model.specs.Standing.{child_trees, AreMarkedAs, AreShapesAt, IsShapeAt, IsReady}
use Rattle.template_model.specs.Treated.{IsTreated}
use Rattle.templates_p.specs.Fits.{StandsP6}
use Rattle.templates_p.specs.Sorts.{full_nodes, empty_nodes, partial_nodes}
use Rattle.templates_p.specs.Steps.{HasChildWith, CanGather, IsGathered}
use Rattle.templates_p.specs.Merging.{CanMerge}
use Rattle.templates_p.proofs.Sorting.{held, sorted_unique, sort, held_length, AreShapes, held_shapes, all_sorted, sorted_times, partials, not_full_partial}
use Rattle.templates_p.proofs.Becoming.{can_gather}
use Rattle.templates_p.proofs.Chaining.{child_once}
use Rattle.templates_p.proofs.FullEnd.{partial_count, same_room}
use Rattle.templates_p.proofs.Lengthening.{listed, AreGathered, are_gathered, IsLengthened, CanLengthen}
use Rattle.templates_p.proofs.Grouping.{marked_child}

-- two lists of two with the same members
two_of : (xs : List ℕ) (a b : ℕ) → length xs ≡ 2 → 1 ≤ occurs xs a → 1 ≤ occurs xs b → a ≢ b → (xs ≡ a ∷ b ∷ []) ⊎ (xs ≡ b ∷ a ∷ [])
two_of [] a b l o p ne = absurd (omega arith)
two_of (x ∷ []) a b l o p ne = absurd (omega arith)
two_of (x ∷ y ∷ z ∷ xs) a b l o p ne = absurd (omega arith)
two_of (x ∷ y ∷ []) a b l o p ne = elim (cases_eq a x) [
  | inl e ↦
      let q : b ≡ y = only_one b y (subst (λ t. 1 ≤ t) (occurs_other x b (y ∷ []) (λ i. ne (e ∙ sym i))) p) in
      inl (ap (λ t. t ∷ y ∷ []) (sym e) ∙ ap (λ t. a ∷ t ∷ []) (sym q))
  | inr d ↦
      let q : a ≡ y = only_one a y (subst (λ t. 1 ≤ t) (occurs_other x a (y ∷ []) d) o) in
      elim (cases_eq b x) [
        | inl e ↦ inr (ap (λ t. t ∷ y ∷ []) (sym e) ∙ ap (λ t. b ∷ t ∷ []) (sym q))
        | inr f ↦ absurd (ne (q ∙ sym (only_one b y (subst (λ t. 1 ≤ t) (occurs_other x b (y ∷ []) f) p))))
      ]
]

-- a list of two or more, none twice, has another member than a
other_member : (xs : List ℕ) (a : ℕ) → 2 ≤ length xs → ((k : ℕ) → occurs xs k ≤ 1) → (k : ℕ) × (1 ≤ occurs xs k) × (k ≢ a)
other_member [] a l once = absurd (omega arith)
other_member (x ∷ []) a l once = absurd (omega arith)
other_member (x ∷ y ∷ xs) a l once = elim (cases_eq x a) [
  | inl e ↦ (
    y,
    (let t : 1 ≤ occurs (y ∷ xs) y = occurs_here y xs in omega arith),
    (λ q. let z : occurs (x ∷ y ∷ xs) x ≤ 1 = once x in
        let o : 1 ≤ occurs (y ∷ xs) x = subst (λ t. 1 ≤ occurs (y ∷ xs) t) (q ∙ sym e) (occurs_here y xs) in omega (arith, occurs_same x (y ∷ xs))),
  )
  | inr ne ↦ (x, occurs_here x (y ∷ xs), ne)
]

-- another child is partial
pub other_partial : (f : Layout) (w : Marks) (n a : ℕ) → IsLayout f → IsReady f w n → 2 ≤ length (partial_nodes w (children_at f n)) → HasChildWith f w n Partly a
other_partial f w n a h r l =
    let ks : List ℕ = children_at f n in
    let m = other_member (partial_nodes w ks) a l (λ k. let c : occurs ks k ≤ 1 = child_once f n k h in omega (arith, all_sorted w ks k)) in
    marked_child partials (λ q. cc) f w n a m.0 r m.1 m.2

-- the children p and q of n are its partial ones, and stand for the partial_nodes h and k in one order or the other
pub record ArePartials (f : Layout) (v : Marks) (n p q : ℕ) (es fs : Forest) (h k : Partial) : Type 0 where
  pub x : Partial
  pub y : Partial
  pub order : ((x ≡ h) × (y ≡ k)) ⊎ ((x ≡ k) × (y ≡ h))
  pub first : IsShapeAt f v p x
  pub second : IsShapeAt f v q y
  pub only : (j : ℕ) → occurs (partial_nodes v (children_at f n)) j ≡ occurs (p ∷ q ∷ []) j
  pub empty : forest (map (outline_below f) (empty_nodes v (children_at f n))) ≡ es
  pub full : forest (map (outline_below f) (full_nodes v (children_at f n))) ≡ fs

shapes_of : (f : Layout) (v : Marks) (a b : ℕ) (h k : Partial) (ks : List ℕ) (hs : List Partial) → ks ≡ a ∷ b ∷ [] → hs ≡ h ∷ k ∷ [] → AreShapes f v ks hs → IsShapeAt f v a h × IsShapeAt f v b k
shapes_of f v a b h k ks hs e q s =
    let t : AreShapes f v (a ∷ b ∷ []) (h ∷ k ∷ []) = subst (λ ys. AreShapes f v (a ∷ b ∷ []) ys) q (subst (λ zs. AreShapes f v zs hs) e s) in (t.0, t.1.0)

pub are_partials : (f : Layout) (v : Marks) (n p q : ℕ) (ps : List Label) (es fs : Forest) (h k : Partial) → AreMarkedAs f v n ps → AreShapesAt f v (children_at f n) ps →
    IsSorted (child_trees f n) ps es fs (h ∷ k ∷ []) → 1 ≤ occurs (children_at f n) p → 1 ≤ occurs (children_at f n) q → label_at v p ≡ Partly → label_at v q ≡ Partly → p ≢ q → ArePartials f v n p q es fs h k
are_partials f v n p q ps es fs h k m s pat op oq lp lq ne =
    let ks : List ℕ = children_at f n in
    let u = sorted_unique (sort (outline_below f) v ks ps m) pat in
    let two : length (partial_nodes v ks) ≡ 2 = sym (held_length v ks ps m) ∙ ap (λ hs. length hs) u.2 in
    let all : AreShapes f v (partial_nodes v ks) (held ps) = held_shapes f v ks ps m s in
    elim (two_of (partial_nodes v ks) p q two (subst (λ z. 1 ≤ z) (sym (sorted_times partials v ks p lp)) op) (subst (λ z. 1 ≤ z) (sym (sorted_times partials v ks q lq)) oq) ne) [
      | inl e ↦ let t = shapes_of f v p q h k (partial_nodes v ks) (held ps) e u.2 all in
          record { x = h; y = k; order = inl (refl, refl); first = t.0; second = t.1; only = λ j. ap (λ xs. occurs xs j) e; empty = u.0; full = u.1 }
      | inr e ↦ let t = shapes_of f v q p h k (partial_nodes v ks) (held ps) e u.2 all in
          record { x = k; y = h; order = inr (refl, refl); first = t.1; second = t.0; only = λ j. ap (λ xs. occurs xs j) e ∙ omega arith; empty = u.0; full = u.1 }
    ]

pub p6_two : (f : Layout) (w : Marks) (n : ℕ) → StandsP6 f w n → length (partial_nodes w (children_at f n)) ≡ 2
p6_two f w n s = partial_count f w n s.0 s.3.1.1.es s.3.1.1.fs (s.3.1.1.h ∷ s.3.1.1.k ∷ []) s.1 s.3.1.1.pattern

pub p6_can_gather : (f : Layout) (w : Marks) (n : ℕ) → IsReady f w n → StandsP6 f w n → CanGather f w n
p6_can_gather f w n r s = can_gather f w n r s.3.0 (let e : length (partial_nodes w (children_at f n)) ≡ 2 = p6_two f w n s in omega arith)

-- two children were found that are partial
pub record AreFound (f : Layout) (w : Marks) (n p q : ℕ) : Type 0 where
  pub p_child : 1 ≤ occurs (children_at f n) p
  pub q_child : 1 ≤ occurs (children_at f n) q
  pub p_label : label_at w p ≡ Partly
  pub q_label : label_at w q ≡ Partly
  pub apart : q ≢ p

pub p6_partials : (f : Layout) (w : Marks) (n p q : ℕ) → (s : StandsP6 f w n) → AreFound f w n p q → ArePartials f w n p q s.3.1.1.es s.3.1.1.fs s.3.1.1.h s.3.1.1.k
p6_partials f w n p q s a = are_partials f w n p q s.0 s.3.1.1.es s.3.1.1.fs s.3.1.1.h s.3.1.1.k s.1 s.2 s.3.1.1.pattern a.p_child a.q_child a.p_label a.q_label (λ e. a.apart (sym e))

-- what holds once the full children were gathered
pub record AreReady (f : Layout) (v : Marks) (g : Layout) (w : Marks) (n p q : ℕ) (y : Option NodeId) : Type 0 where
  pub found : AreFound f v n p q
  pub gathered : AreGathered f v g w n y
  pub p_in : 1 ≤ occurs (partial_nodes v (children_at f n)) p
  pub q_in : 1 ≤ occurs (partial_nodes v (children_at f n)) q
  pub shape : (x : Partial) × IsShapeAt g w p x
  pub other_shape : (x : Partial) × IsShapeAt g w q x
  pub can : CanLengthen g w n p q y

pub are_ready : (f g : Layout) (v w : Marks) (n p q : ℕ) (y : Option NodeId) → IsLayout f → IsLayout g → IsReady f v n → StandsP6 f v n →
    1 ≤ occurs (children_at f n) p → label_at v p ≡ Partly → 1 ≤ occurs (children_at f n) q → label_at v q ≡ Partly → q ≢ p → IsTreated f g v w n n → IsGathered f v g w n y →
    AreReady f v g w n p q y
are_ready f g v w n p q y lf lg r s op lp oq lq ne t b =
    let a : AreFound f v n p q = record { p_child = op; q_child = oq; p_label = lp; q_label = lq; apart = ne } in
    let ks : List ℕ = children_at f n in
    let d : ArePartials f v n p q s.3.1.1.es s.3.1.1.fs s.3.1.1.h s.3.1.1.k = p6_partials f v n p q s a in
    let c : AreGathered f v g w n y = are_gathered f g v w n y s.3.0 b in
    let p_in : 1 ≤ occurs (partial_nodes v ks) p = subst (λ z. 1 ≤ z) (sym (sorted_times partials v ks p a.p_label)) a.p_child in
    let q_in : 1 ≤ occurs (partial_nodes v ks) q = subst (λ z. 1 ≤ z) (sym (sorted_times partials v ks q a.q_label)) a.q_child in
    let same_p = c.others p (omega arith) in
    let same_q = c.others q (omega arith) in
    let shape : IsShapeAt g w p d.x = same_p.shape d.x d.first in
    record {
      found = a;
      gathered = c;
      p_in = p_in;
      q_in = q_in;
      shape = (d.x, shape);
      other_shape = (d.y, same_q.shape d.y d.second);
      can = record {
        one = t.arena.one;
        two = t.arena.two;
        room = same_room f g v w n n lf lg r.room t;
        is_p = c.shape;
        is_q = shape.is_q;
        line = omega (arith, c.children p);
        partial = same_p.label ∙ a.p_label;
        other = omega (arith, c.children q);
        other_partial = same_q.label ∙ a.q_label;
        apart = λ e. a.apart (sym e);
        child = λ k o. (omega (arith, c.children k), c.full k o);
      };
    }

-- and once they were put at the full end of the first partial child
pub can_merge : (g i : Layout) (w : Marks) (n p q end : ℕ) (y : Option NodeId) → IsLayout g → IsLayout i → CanLengthen g w n p q y → (x : Partial) → IsShapeAt g w q x → IsLengthened g i w n p end y → CanMerge i w n p q
can_merge g i w n p q end y lg li can x s l =
    let bag_p : occurs (children_at i n) p + occurs (listed y) p ≡ occurs (children_at g n) p = l.bag p in
    let bag_q : occurs (children_at i n) q + occurs (listed y) q ≡ occurs (children_at g n) q = l.bag q in
    record {
      absorb = record {
        one = l.treated.arena.one;
        two = l.treated.arena.two;
        room = same_room g i w w n n lg li can.room l.treated;
        put = record {
          is_p = l.node;
          is_q = l.shape;
          line = (let o : 1 ≤ occurs (children_at g n) p = can.line in let z : occurs (listed y) p ≡ 0 = not_listed p can.partial in omega arith);
          child = (let o : 1 ≤ occurs (children_at g n) q = can.other in let z : occurs (listed y) q ≡ 0 = not_listed q can.other_partial in omega arith);
          apart = can.apart;
          above = l.treated.arena.one n (used_by i n P l.node);
        };
        partial = can.partial;
      };
      is_q = ((l.same q can.other (λ e. can.apart (sym e))).shape x s).is_q;
    }
  where
    not_listed : (k : ℕ) → label_at w k ≡ Partly → occurs (listed y) k ≡ 0
    not_listed k e = elim (cases_lt 0 (occurs (listed y) k)) [
      | inl o ↦ absurd (not_full_partial (label_at w k) (can.child k o).1 e)
      | inr o ↦ omega arith
    ]
