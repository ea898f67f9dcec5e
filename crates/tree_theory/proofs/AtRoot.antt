-- The templates at the pertinent root: the new tree is bound exactly where the old one is and the row is closed.
use Rattle.std.proofs.Common.{◌≡◌, ◌⊎◌, ◌∙◌, ◌+◌, ℕ, false, List, [], ◌++◌, IsTrue, refl, sym, inl, inr, arith}
use Rattle.std.proofs.lemmas.Bool.{both_ways, cases_Bool, false_from_ne_true}
use Rattle.row_model.specs.declared.graph.Pair.{Pair}
use Rattle.column_order.specs.Orders.{has, occurs}
use Rattle.column_order.proofs.Lists.{has_append_cases, has_append_left, has_append_right, occurs-append, occurs_from_has, has_from_occurs, has_same}
use Rattle.pq_tree.specs.Outline.{Outline, Forest, p_node, no_tree, tree_and, leaves, leaves_of}
use Rattle.tree_theory.proofs.Bound.{IsClosed, AreClosed, IsBound, AreBound, IsPairEq, closed_through}
use Rattle.tree_theory.specs.Templates.{star, under}
use Rattle.tree_theory.proofs.Lines.{IsParted, closed_within, parted_closed, closed_left, closed_right, parted_bound, parted_bound_left, parted_bound_right, parted_occurs, has_parted_cases}
use Rattle.tree_theory.proofs.BelowRoot.{AreEmpty, AreFull, closed_alike}

-- A template at the pertinent root may turn t into u: they have the same columns, and for every equivalence R of pairs u is bound
-- exactly where t is and the row is closed in it. So u is tied to one row more than t.
pub record Rooted (row : List ℕ) (t u : Outline) : Type 1 where
  pub same : (a : ℕ) → occurs (leaves u) a ≡ occurs (leaves t) a
  pub up : (R : Pair → Pair → Type 0) → IsPairEq R → IsBound R u → IsBound R t × IsClosed R (leaves t) row
  pub down : (R : Pair → Pair → Type 0) → IsPairEq R → IsBound R t → IsClosed R (leaves t) row → IsBound R u

-- P*(X) as a tree, for the tree t and further trees
abbrev pub gather : Outline → Forest → Outline
gather t no_tree = t
gather t (tree_and u us) = p_node (tree_and t (tree_and u us))

pub star_gather : (t : Outline) (ts : Forest) → star (tree_and t ts) ≡ tree_and (gather t ts) no_tree
star_gather t no_tree = refl
star_gather t (tree_and u us) = refl

pub gather_occurs : (t : Outline) (ts : Forest) (a : ℕ) → occurs (leaves (gather t ts)) a ≡ occurs (leaves_of (tree_and t ts)) a
gather_occurs t no_tree a = omega (arith, occurs-append (leaves t) [] a)
gather_occurs t (tree_and u us) a = refl

pub under_occurs : (es : Forest) (x : Outline) (a : ℕ) → occurs (leaves (under es x)) a ≡ occurs (leaves x) a + occurs (leaves_of es) a
under_occurs no_tree x a = omega arith
under_occurs (tree_and t ts) x a = occurs-append (leaves x) (leaves_of (tree_and t ts)) a

-- a set that is closed in one that is closed
pub set_through : (R : Pair → Pair → Type 0) (l x y : List ℕ) → ((d : ℕ) → IsTrue (has y d) → IsTrue (has x d)) → IsClosed R l x → IsClosed R x y → IsClosed R l y
set_through R l x y sub h k a b d ya yb ld yd =
    elim (cases_Bool (has x d)) [
      | inl t ↦ k a b d ya yb t yd
      | inr f ↦ h a b d (sub a ya) (sub b yb) ld f
    ]

module _ (R : Pair → Pair → Type 0) where
  gather_up : (t : Outline) (ts : Forest) → IsBound R (gather t ts) → AreClosed R (leaves_of (tree_and t ts)) (tree_and t ts) × AreBound R (tree_and t ts)
  gather_up t no_tree b =
      ((λ x y d i j k n. absurd (elim (has_append_cases (leaves t) [] d k) [ inl l ↦ both_ways (has (leaves t) d) n l | inr l ↦ both_ways false refl l ]), tt), (b, tt))
  gather_up t (tree_and u us) b = b

  gather_down : (t : Outline) (ts : Forest) → AreClosed R (leaves_of (tree_and t ts)) (tree_and t ts) → AreBound R (tree_and t ts) → IsBound R (gather t ts)
  gather_down t no_tree c b = b.0
  gather_down t (tree_and u us) c b = (c, b)

  pub under_up : (l : List ℕ) (es : Forest) (x : Outline) → ((d : ℕ) → IsTrue (has l d) → IsTrue (has (leaves x) d) ⊎ IsTrue (has (leaves_of es) d)) →
      IsBound R (under es x) → IsBound R x × AreBound R es × AreClosed R l es × IsClosed R l (leaves x)
  under_up l no_tree x c b =
      (b, tt, tt, λ a e d i j k n. absurd (elim (c d k) [ inl m ↦ both_ways (has (leaves x) d) n m | inr m ↦ both_ways false refl m ]))
  under_up l (tree_and t ts) x c b =
      let s : (d : ℕ) → IsTrue (has l d) → IsTrue (has (leaves x ++ leaves_of (tree_and t ts)) d) =
      λ d k. elim (c d k) [ inl m ↦ has_append_left (leaves x) (leaves_of (tree_and t ts)) d m | inr m ↦ has_append_right (leaves x) (leaves_of (tree_and t ts)) d m ] in
      (b.1.0, b.1.1, closed_within R (leaves x ++ leaves_of (tree_and t ts)) l (tree_and t ts) s b.0.1, λ a e d i j k n. b.0.0 a e d i j (s d k) n)

  pub under_down : (l : List ℕ) (es : Forest) (x : Outline) → ((d : ℕ) → IsTrue (has (leaves x) d) → IsTrue (has l d)) → ((d : ℕ) → IsTrue (has (leaves_of es) d) → IsTrue (has l d)) →
      IsBound R x → AreBound R es → AreClosed R l es → IsClosed R l (leaves x) → IsBound R (under es x)
  under_down l no_tree x sx se bx be ce cx = bx
  under_down l (tree_and t ts) x sx se bx be ce cx =
      let s : (d : ℕ) → IsTrue (has (leaves x ++ leaves_of (tree_and t ts)) d) → IsTrue (has l d) =
      λ d k. elim (has_append_cases (leaves x) (leaves_of (tree_and t ts)) d k) [ inl m ↦ sx d m | inr m ↦ se d m ] in
      ((λ a e d i j k n. cx a e d i j (s d k) n, closed_within R l (leaves x ++ leaves_of (tree_and t ts)) (tree_and t ts) s ce), (bx, be))

-- P with empty and full children at the pertinent root: P over E and P*(F)
module _ (row : List ℕ) (ts es fs : Forest) (f : Outline) (parted : IsParted ts es (tree_and f fs)) (empty : AreEmpty row es) (full : AreFull row (tree_and f fs))
    (within : (a : ℕ) → IsTrue (has row a) → IsTrue (has (leaves_of ts) a)) where
  f_same : (a : ℕ) → has (leaves (gather f fs)) a ≡ has (leaves_of (tree_and f fs)) a
  f_same a = has_same (leaves (gather f fs)) (leaves_of (tree_and f fs)) a (gather_occurs f fs a)

  es_ts : (a : ℕ) → IsTrue (has (leaves_of es) a) → IsTrue (has (leaves_of ts) a)
  es_ts a h = has_from_occurs (leaves_of ts) a (omega (arith, parted_occurs parted a, occurs_from_has (leaves_of es) a h))

  fs_ts : (a : ℕ) → IsTrue (has (leaves_of (tree_and f fs)) a) → IsTrue (has (leaves_of ts) a)
  fs_ts a h = has_from_occurs (leaves_of ts) a (omega (arith, parted_occurs parted a, occurs_from_has (leaves_of (tree_and f fs)) a h))

  row_fs : (a : ℕ) → IsTrue (has row a) → IsTrue (has (leaves_of (tree_and f fs)) a)
  row_fs a h = elim (has_parted_cases parted a (within a h)) [ inl k ↦ absurd (both_ways (has row a) (empty a k) h) | inr k ↦ k ]

  pub p2_parted : Rooted row (p_node ts) (under es (gather f fs))
  p2_parted =
      record {
        same = λ a. omega (arith, under_occurs es (gather f fs) a, gather_occurs f fs a, parted_occurs parted a);
        up = λ R eq b.
            let k : IsBound R (gather f fs) × AreBound R es × AreClosed R (leaves_of ts) es × IsClosed R (leaves_of ts) (leaves (gather f fs)) =
            under_up R (leaves_of ts) es (gather f fs) (λ d h. elim (has_parted_cases parted d h) [ inl m ↦ inr m | inr m ↦ inl (f_same d ∙ m) ]) b in
            let g : AreClosed R (leaves_of (tree_and f fs)) (tree_and f fs) × AreBound R (tree_and f fs) = gather_up R f fs k.0 in
            let c : IsClosed R (leaves_of ts) (leaves_of (tree_and f fs)) = closed_alike R eq (leaves_of ts) (leaves (gather f fs)) (leaves_of (tree_and f fs)) f_same k.3 in (
              (parted_closed R (leaves_of ts) parted k.2 (closed_through R (leaves_of ts) (leaves_of (tree_and f fs)) c (tree_and f fs) (λ d h. h) g.0), parted_bound R parted k.1 g.1),
              λ a e d ra re ld rd. c a e d (row_fs a ra) (row_fs e re) ld (false_from_ne_true (has (leaves_of (tree_and f fs)) d) (λ h. both_ways (has row d) rd (full d h))),
            );
        down = λ R eq b c.
            under_down R (leaves_of ts) es (gather f fs) (λ d h. fs_ts d (sym (f_same d) ∙ h)) es_ts
            (gather_down R f fs (closed_within R (leaves_of ts) (leaves_of (tree_and f fs)) (tree_and f fs) fs_ts (closed_right R (leaves_of ts) parted b.0)) (parted_bound_right R parted b.1))
            (parted_bound_left R parted b.1)
            (closed_left R (leaves_of ts) parted b.0)
            (closed_alike R eq (leaves_of ts) (leaves_of (tree_and f fs)) (leaves (gather f fs)) (λ a. sym (f_same a))
            (λ a e d fa fe ld fd. c a e d (full a fa) (full e fe) ld
            (elim (has_parted_cases parted d ld) [ inl k ↦ empty d k | inr k ↦ absurd (both_ways (has (leaves_of (tree_and f fs)) d) fd k) ])));
      }
