-- Joined lists of trees, and the pairs that go forward in them.
use Rattle.std.proofs.Common.{◌≡◌, ◌⊎◌, ◌+◌, ℕ, false, List, [], ◌++◌, IsTrue, refl, ap, inl, inr, arith, append-nil}
use Rattle.std.proofs.lemmas.Bool.{both_ways}
use Rattle.row_model.specs.declared.graph.Pair.{Pair}
use Rattle.column_order.specs.Orders.{has, occurs}
use Rattle.column_order.proofs.Lists.{has_append_cases, has_append_left, has_append_right, occurs-append, occurs_from_has, has_from_occurs}
use Rattle.pq_tree.specs.Outline.{Outline, Forest, p_node, no_tree, tree_and, leaves, leaves_of}
use Rattle.pq_tree.specs.Proper.{HaveArities}
use Rattle.tree_theory.specs.Tied.{IsForward}
use Rattle.tree_theory.proofs.Bound.{AreClosed, AreBound}
use Rattle.tree_theory.specs.Templates.{star}
use Rattle.pq_tree.specs.Forests.{join}
use Rattle.pq_tree.proofs.Forests.{has_join_cases, has_join_left, has_join_right}

-- the first list is an interleaving of the two others
pub data IsParted : Forest → Forest → Forest → Type 0 where
  none_parted : IsParted no_tree no_tree no_tree
  to_left : {t : Outline} {ts us vs : Forest} → IsParted ts us vs → IsParted (tree_and t ts) (tree_and t us) vs
  to_right : {t : Outline} {ts us vs : Forest} → IsParted ts us vs → IsParted (tree_and t ts) us (tree_and t vs)

pub parted_end : {ts us : Forest} → IsParted ts us no_tree → ts ≡ us
parted_end none_parted = refl
parted_end (to_left {t = t} r) = ap (tree_and t) (parted_end r)

pub leaves_of-star : (xs : Forest) → leaves_of (star xs) ≡ leaves_of xs
leaves_of-star no_tree = refl
leaves_of-star (tree_and t no_tree) = refl
leaves_of-star (tree_and t (tree_and u us)) = append-nil (leaves t ++ (leaves u ++ leaves_of us))

pub to_star : (xs : Forest) (a : ℕ) → IsTrue (has (leaves_of xs) a) → IsTrue (has (leaves_of (star xs)) a)
to_star xs a h = rw leaves_of-star h

pub from_star : (xs : Forest) (a : ℕ) → IsTrue (has (leaves_of (star xs)) a) → IsTrue (has (leaves_of xs) a)
from_star xs a h = rw leaves_of-star at h

-- a pair that goes forward in a join
pub forward_cases : (xs ys : Forest) (v : Pair) → IsForward (join xs ys) v →
    IsForward xs v ⊎ ((IsTrue (has (leaves_of xs) v.a) × IsTrue (has (leaves_of ys) v.b)) ⊎ IsForward ys v)
forward_cases no_tree ys v h = inr (inr h)
forward_cases (tree_and t ts) ys v h =
    elim h [
      | inl k ↦ elim (has_join_cases ts ys v.b k.1) [
        | inl l ↦ inl (inl (k.0, l))
        | inr l ↦ inr (inl (has_append_left (leaves t) (leaves_of ts) v.a k.0, l))
      ]
      | inr k ↦ elim (forward_cases ts ys v k) [
        | inl l ↦ inl (inr l)
        | inr l ↦ elim l [
          | inl m ↦ inr (inl (has_append_right (leaves t) (leaves_of ts) v.a m.0, m.1))
          | inr m ↦ inr (inr m)
        ]
      ]
    ]

pub forward_left : (xs ys : Forest) (v : Pair) → IsForward xs v → IsForward (join xs ys) v
forward_left no_tree ys v h = absurd h
forward_left (tree_and t ts) ys v h =
    elim h [ inl k ↦ inl (k.0, has_join_left ts ys v.b k.1) | inr k ↦ inr (forward_left ts ys v k) ]

pub forward_right : (xs ys : Forest) (v : Pair) → IsForward ys v → IsForward (join xs ys) v
forward_right no_tree ys v h = h
forward_right (tree_and t ts) ys v h = inr (forward_right ts ys v h)

pub forward_across : (xs ys : Forest) (v : Pair) → IsTrue (has (leaves_of xs) v.a) → IsTrue (has (leaves_of ys) v.b) → IsForward (join xs ys) v
forward_across no_tree ys v h k = absurd (both_ways false refl h)
forward_across (tree_and t ts) ys v h k =
    elim (has_append_cases (leaves t) (leaves_of ts) v.a h) [
      | inl l ↦ inl (l, has_join_right ts ys v.b k)
      | inr l ↦ inr (forward_across ts ys v l k)
    ]

forward_one : (t : Outline) (v : Pair) → IsForward (tree_and t no_tree) v → ⊥
forward_one t v h = elim h [ inl k ↦ both_ways false refl k.1 | inr k ↦ k ]

pub star_forward : (xs : Forest) (v : Pair) → IsForward (star xs) v → ⊥
star_forward no_tree v h = h
star_forward (tree_and t no_tree) v h = forward_one t v h
star_forward (tree_and t (tree_and u us)) v h = forward_one (p_node (tree_and t (tree_and u us))) v h

module _ (R : Pair → Pair → Type 0) where
  pub bound_join : (xs ys : Forest) → AreBound R xs → AreBound R ys → AreBound R (join xs ys)
  bound_join no_tree ys h k = k
  bound_join (tree_and t ts) ys h k = (h.0, bound_join ts ys h.1 k)

  pub bound_left : (xs ys : Forest) → AreBound R (join xs ys) → AreBound R xs
  bound_left no_tree ys h = tt
  bound_left (tree_and t ts) ys h = (h.0, bound_left ts ys h.1)

  pub bound_right : (xs ys : Forest) → AreBound R (join xs ys) → AreBound R ys
  bound_right no_tree ys h = h
  bound_right (tree_and t ts) ys h = bound_right ts ys h.1

  pub star_bound : (xs : Forest) → AreClosed R (leaves_of xs) xs → AreBound R xs → AreBound R (star xs)
  star_bound no_tree c b = tt
  star_bound (tree_and t no_tree) c b = b
  star_bound (tree_and t (tree_and u us)) c b = ((c, b), tt)

  pub star_closed : (xs : Forest) → AreBound R (star xs) → AreClosed R (leaves_of xs) xs
  star_closed no_tree b = tt
  star_closed (tree_and t no_tree) b =
      (λ x y d i j k n. absurd (elim (has_append_cases (leaves t) [] d k) [ inl l ↦ both_ways (has (leaves t) d) n l | inr l ↦ both_ways false refl l ]), tt)
  star_closed (tree_and t (tree_and u us)) b = b.0.0

  pub star_each : (xs : Forest) → AreBound R (star xs) → AreBound R xs
  star_each no_tree b = tt
  star_each (tree_and t no_tree) b = b
  star_each (tree_and t (tree_and u us)) b = b.0.1

  pub closed_within : (l m : List ℕ) (xs : Forest) → ((d : ℕ) → IsTrue (has m d) → IsTrue (has l d)) → AreClosed R l xs → AreClosed R m xs
  closed_within l m no_tree s h = tt
  closed_within l m (tree_and t ts) s h = (λ x y d i j k n. h.0 x y d i j (s d k) n, closed_within l m ts s h.1)

  pub parted_closed : (l : List ℕ) {ts us vs : Forest} → IsParted ts us vs → AreClosed R l us → AreClosed R l vs → AreClosed R l ts
  parted_closed l none_parted h k = tt
  parted_closed l (to_left r) h k = (h.0, parted_closed l r h.1 k)
  parted_closed l (to_right r) h k = (k.0, parted_closed l r h k.1)

  pub closed_left : (l : List ℕ) {ts us vs : Forest} → IsParted ts us vs → AreClosed R l ts → AreClosed R l us
  closed_left l none_parted h = tt
  closed_left l (to_left r) h = (h.0, closed_left l r h.1)
  closed_left l (to_right r) h = closed_left l r h.1

  pub closed_right : (l : List ℕ) {ts us vs : Forest} → IsParted ts us vs → AreClosed R l ts → AreClosed R l vs
  closed_right l none_parted h = tt
  closed_right l (to_left r) h = closed_right l r h.1
  closed_right l (to_right r) h = (h.0, closed_right l r h.1)

  pub parted_bound : {ts us vs : Forest} → IsParted ts us vs → AreBound R us → AreBound R vs → AreBound R ts
  parted_bound none_parted h k = tt
  parted_bound (to_left r) h k = (h.0, parted_bound r h.1 k)
  parted_bound (to_right r) h k = (k.0, parted_bound r h k.1)

  pub parted_bound_left : {ts us vs : Forest} → IsParted ts us vs → AreBound R ts → AreBound R us
  parted_bound_left none_parted h = tt
  parted_bound_left (to_left r) h = (h.0, parted_bound_left r h.1)
  parted_bound_left (to_right r) h = parted_bound_left r h.1

  pub parted_bound_right : {ts us vs : Forest} → IsParted ts us vs → AreBound R ts → AreBound R vs
  parted_bound_right none_parted h = tt
  parted_bound_right (to_left r) h = parted_bound_right r h.1
  parted_bound_right (to_right r) h = (h.0, parted_bound_right r h.1)

pub parted_occurs : {ts us vs : Forest} → IsParted ts us vs → (a : ℕ) → occurs (leaves_of ts) a ≡ occurs (leaves_of us) a + occurs (leaves_of vs) a
parted_occurs none_parted a = omega arith
parted_occurs (to_left {t = t} {ts = ts} {us = us} {vs = vs} r) a =
    omega (arith, occurs-append (leaves t) (leaves_of ts) a, occurs-append (leaves t) (leaves_of us) a, parted_occurs r a)
parted_occurs (to_right {t = t} {ts = ts} {us = us} {vs = vs} r) a =
    omega (arith, occurs-append (leaves t) (leaves_of ts) a, occurs-append (leaves t) (leaves_of vs) a, parted_occurs r a)

-- the columns of each part are columns of the whole
pub parted_left : {ts us vs : Forest} → IsParted ts us vs → (a : ℕ) → IsTrue (has (leaves_of us) a) → IsTrue (has (leaves_of ts) a)
parted_left {ts = ts} {us = us} p a h = has_from_occurs (leaves_of ts) a (omega (arith, parted_occurs p a, occurs_from_has (leaves_of us) a h))

pub parted_right : {ts us vs : Forest} → IsParted ts us vs → (a : ℕ) → IsTrue (has (leaves_of vs) a) → IsTrue (has (leaves_of ts) a)
parted_right {ts = ts} {vs = vs} p a h = has_from_occurs (leaves_of ts) a (omega (arith, parted_occurs p a, occurs_from_has (leaves_of vs) a h))

pub has_parted_cases : {ts us vs : Forest} → IsParted ts us vs → (a : ℕ) → IsTrue (has (leaves_of ts) a) → IsTrue (has (leaves_of us) a) ⊎ IsTrue (has (leaves_of vs) a)
has_parted_cases none_parted a h = inl h
has_parted_cases (to_left {t = t} {ts = ts} {us = us} r) a h =
    elim (has_append_cases (leaves t) (leaves_of ts) a h) [
      | inl k ↦ inl (has_append_left (leaves t) (leaves_of us) a k)
      | inr k ↦ elim (has_parted_cases r a k) [ inl l ↦ inl (has_append_right (leaves t) (leaves_of us) a l) | inr l ↦ inr l ]
    ]
has_parted_cases (to_right {t = t} {ts = ts} {vs = vs} r) a h =
    elim (has_append_cases (leaves t) (leaves_of ts) a h) [
      | inl k ↦ inr (has_append_left (leaves t) (leaves_of vs) a k)
      | inr k ↦ elim (has_parted_cases r a k) [ inl l ↦ inl l | inr l ↦ inr (has_append_right (leaves t) (leaves_of vs) a l) ]
    ]

-- the arities of the two parts of an interleaving
pub arities_left : {ts us vs : Forest} → IsParted ts us vs → HaveArities ts → HaveArities us
arities_left none_parted h = tt
arities_left (to_left r) h = (h.0, arities_left r h.1)
arities_left (to_right r) h = arities_left r h.1

pub arities_right : {ts us vs : Forest} → IsParted ts us vs → HaveArities ts → HaveArities vs
arities_right none_parted h = tt
arities_right (to_left r) h = arities_right r h.1
arities_right (to_right r) h = (h.0, arities_right r h.1)
