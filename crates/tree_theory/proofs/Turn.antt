-- An equivalent tree has the same frontiers, and is tied to the same rows.
use Rattle.std.proofs.Common.{◌≡◌, ◌⊎◌, ◌∙◌, ◌↔◌, ℕ, false, List, [], ◌∷◌, ◌++◌, reverse, IsTrue, IsPermutation, refl, sym, ap, subst, inl, inr, append_assoc, append-nil}
use Rattle.std.proofs.lemmas.Bool.{both_ways}
use Rattle.std.proofs.lemmas.List.{reverse-append, reverse-reverse}
use Rattle.std.proofs.lemmas.List.Elements.{All-from_recursion, recursion_from_All}
use Rattle.std.proofs.lemmas.List.Sorted.{All-permutation, IsPermutation-sym, IsPermutation-reverse}
use Rattle.std.specs.List.{AllByRecursion}
use Rattle.row_model.specs.declared.graph.Pair.{Pair}
use Rattle.column_order.specs.Orders.{has}
use Rattle.row_model.specs.Graph.{pair, Evenly}
use Rattle.column_order.proofs.Lists.{has_append_cases, has_append_left, has_append_right}
use Rattle.pq_tree.specs.Outline.{Outline, Forest, leaf, p_node, q_node, no_tree, tree_and, leaves, leaves_of}
use Rattle.pq_tree.specs.Equivalent.{IsEquivalent, AreEquivalent}
use Rattle.pq_tree.specs.Proper.{forest, IsProper}
use Rattle.pq_tree.proofs.Frontiers.{same_frontiers}
use Rattle.pq_tree.proofs.Equivalent.{moved_occurs, equivalent_occurs, equivalent_occur_all, equivalent_proper, proper_from_equivalent}
use Rattle.tree_theory.specs.Tied.{IsForward, IsTied}
use Rattle.tree_theory.proofs.Bound.{IsClosed, AreClosed, IsBound, AreBound, IsPairEq}
use Rattle.tree_theory.proofs.Frontiers.{has_same}
use Rattle.tree_theory.proofs.Exact.{tied_bound}
use Rattle.tree_theory.proofs.Bridge.{evenly_eq, bound_tied}

turned_has : (t u : Outline) (a : ℕ) → IsEquivalent t u → has (leaves u) a ≡ has (leaves t) a
turned_has t u a h = has_same (leaves u) (leaves t) a (equivalent_occurs t u a h)

all_turned_closed : (R : Pair → Pair → Type 0) (l : List ℕ) (ts : Forest) (us : List Outline) → AreEquivalent ts us → AreClosed R l ts → AreClosed R l (forest us)
all_turned_closed R l no_tree [] h k = tt
all_turned_closed R l no_tree (u ∷ us) h k = absurd h
all_turned_closed R l (tree_and t ts) [] h k = absurd h
all_turned_closed R l (tree_and t ts) (u ∷ us) h k =
    ((λ a b d i j m n. k.0 a b d (sym (turned_has t u a h.0) ∙ i) (sym (turned_has t u b h.0) ∙ j) m (sym (turned_has t u d h.0) ∙ n)), all_turned_closed R l ts us h.1 k.1)

pub turned_forward : (ts : Forest) (us : List Outline) → AreEquivalent ts us → (v : Pair) → IsForward (forest us) v → IsForward ts v
turned_forward no_tree [] h v k = k
turned_forward no_tree (u ∷ us) h v k = absurd h
turned_forward (tree_and t ts) [] h v k = absurd h
turned_forward (tree_and t ts) (u ∷ us) h v k =
    elim k [
      | inl m ↦
          inl (sym (turned_has t u v.a h.0) ∙ m.0, has_same (leaves_of ts) (leaves_of (forest us)) v.b (sym (equivalent_occur_all ts us v.b h.1)) ∙ m.1)
      | inr m ↦ inr (turned_forward ts us h.1 v m)
    ]

all_unturned_closed : (R : Pair → Pair → Type 0) (l : List ℕ) (ts : Forest) (us : List Outline) → AreEquivalent ts us → AreClosed R l (forest us) → AreClosed R l ts
all_unturned_closed R l no_tree us h k = tt
all_unturned_closed R l (tree_and t ts) [] h k = absurd h
all_unturned_closed R l (tree_and t ts) (u ∷ us) h k =
    ((λ a b d i j m n. k.0 a b d (turned_has t u a h.0 ∙ i) (turned_has t u b h.0 ∙ j) m (turned_has t u d h.0 ∙ n)), all_unturned_closed R l ts us h.1 k.1)

pub unturned_forward : (ts : Forest) (us : List Outline) → AreEquivalent ts us → (v : Pair) → IsForward ts v → IsForward (forest us) v
unturned_forward no_tree us h v k = absurd k
unturned_forward (tree_and t ts) [] h v k = absurd h
unturned_forward (tree_and t ts) (u ∷ us) h v k =
    elim k [
      | inl m ↦ inl (turned_has t u v.a h.0 ∙ m.0, has_same (leaves_of (forest us)) (leaves_of ts) v.b (equivalent_occur_all ts us v.b h.1) ∙ m.1)
      | inr m ↦ inr (unturned_forward ts us h.1 v m)
    ]

-- what holds of each tree of a list
each_closed : (R : Pair → Pair → Type 0) (l : List ℕ) (ts : List Outline) → AreClosed R l (forest ts) → AllByRecursion (λ t. IsClosed R l (leaves t)) ts
each_closed R l [] h = tt
each_closed R l (t ∷ ts) h = (h.0, each_closed R l ts h.1)

all_closed : (R : Pair → Pair → Type 0) (l : List ℕ) (ts : List Outline) → AllByRecursion (λ t. IsClosed R l (leaves t)) ts → AreClosed R l (forest ts)
all_closed R l [] h = tt
all_closed R l (t ∷ ts) h = (h.0, all_closed R l ts h.1)

each_bound : (R : Pair → Pair → Type 0) (ts : List Outline) → AreBound R (forest ts) → AllByRecursion (IsBound R) ts
each_bound R [] h = tt
each_bound R (t ∷ ts) h = (h.0, each_bound R ts h.1)

all_bound : (R : Pair → Pair → Type 0) (ts : List Outline) → AllByRecursion (IsBound R) ts → AreBound R (forest ts)
all_bound R [] h = tt
all_bound R (t ∷ ts) h = (h.0, all_bound R ts h.1)

moved : (P : Outline → Type 0) (us vs : List Outline) → IsPermutation us vs → AllByRecursion P us → AllByRecursion P vs
moved P us vs m h = recursion_from_All P vs (All-permutation P us vs m (All-from_recursion P us h))

scope : (R : Pair → Pair → Type 0) (l m : List ℕ) → ((a : ℕ) → has m a ≡ has l a) → (ts : Forest) → AreClosed R l ts → AreClosed R m ts
scope R l m e no_tree h = tt
scope R l m e (tree_and t ts) h = ((λ a b d i j k n. h.0 a b d i j (sym (e d) ∙ k) n), scope R l m e ts h.1)

leaves_push : (ts : List Outline) (u : Outline) → leaves_of (forest (ts ++ u ∷ [])) ≡ leaves_of (forest ts) ++ leaves u
leaves_push [] u = append-nil (leaves u)
leaves_push (t ∷ ts) u = ap (λ x. leaves t ++ x) (leaves_push ts u) ∙ sym (append_assoc (leaves t) (leaves_of (forest ts)) (leaves u))

-- a pair that goes forward in the reversed list goes backward in the list
forward_push : (ts : List Outline) (u : Outline) (v : Pair) → IsForward (forest (ts ++ u ∷ [])) v →
    IsForward (forest ts) v ⊎ (IsTrue (has (leaves_of (forest ts)) v.a) × IsTrue (has (leaves u) v.b))
forward_push [] u v h = absurd (elim h [ inl k ↦ both_ways false refl k.1 | inr k ↦ k ])
forward_push (t ∷ ts) u v h =
    elim h [
      | inl k ↦ elim (has_append_cases (leaves_of (forest ts)) (leaves u) v.b (subst (λ x. IsTrue (has x v.b)) (leaves_push ts u) k.1)) [
        | inl m ↦ inl (inl (k.0, m))
        | inr m ↦ inr (has_append_left (leaves t) (leaves_of (forest ts)) v.a k.0, m)
      ]
      | inr k ↦ elim (forward_push ts u v k) [
        | inl m ↦ inl (inr m)
        | inr m ↦ inr (has_append_right (leaves t) (leaves_of (forest ts)) v.a m.0, m.1)
      ]
    ]

rev-cons : (t : Outline) (ts : List Outline) → reverse (t ∷ ts) ≡ reverse ts ++ t ∷ []
rev-cons t ts = reverse-append (t ∷ []) ts

forward_reverse : (ts : List Outline) (v : Pair) → IsForward (forest (reverse ts)) v → IsForward (forest ts) (pair v.b v.a)
forward_reverse [] v h = h
forward_reverse (t ∷ ts) v h =
    elim (forward_push (reverse ts) t v (subst (λ x. IsForward (forest x) v) (rev-cons t ts) h)) [
      | inl k ↦ inr (forward_reverse ts v k)
      | inr k ↦
          inl (
            k.1,
            has_same (leaves_of (forest ts)) (leaves_of (forest (reverse ts))) v.a (sym (moved_occurs ts (reverse ts) v.a (IsPermutation-reverse ts))) ∙ k.0,
          )
    ]

-- and the other way round
reverse_forward : (ts : List Outline) (v : Pair) → IsForward (forest ts) v → IsForward (forest (reverse ts)) (pair v.b v.a)
reverse_forward ts v h = forward_reverse (reverse ts) v (subst (λ x. IsForward (forest x) v) (sym (reverse-reverse ts)) h)

module _ (R : Pair → Pair → Type 0) (eq : IsPairEq R) where
  mutual
    pub turned_bound : (t u : Outline) → IsEquivalent t u → IsBound R t → IsBound R u
    turned_bound (leaf b) u h k = subst (IsBound R) (sym h) tt
    turned_bound (p_node ts) u h k =
        let e : (a : ℕ) → has (leaves_of (forest h.1)) a ≡ has (leaves_of ts) a =
        λ a. has_same (leaves_of (forest h.1)) (leaves_of ts) a (moved_occurs h.0 h.1 a h.3 ∙ equivalent_occur_all ts h.0 a h.2) in
        subst (IsBound R) (sym h.4) (
          scope R (leaves_of ts) (leaves_of (forest h.1)) e (forest h.1)
              (all_closed R (leaves_of ts) h.1
              (moved (λ t. IsClosed R (leaves_of ts) (leaves t)) h.0 h.1 h.3 (each_closed R (leaves_of ts) h.0 (all_turned_closed R (leaves_of ts) ts h.0 h.2 k.0)))),
          all_bound R h.1 (moved (IsBound R) h.0 h.1 h.3 (each_bound R h.0 (all_turned_bound ts h.0 h.2 k.1))),
        )
    turned_bound (q_node ts) u h k =
        elim h.2 [
          | inl e ↦ subst (IsBound R) (sym e) ((λ v w i j. k.0 v w (turned_forward ts h.0 h.1 v i) (turned_forward ts h.0 h.1 w j)), all_turned_bound ts h.0 h.1 k.1)
          | inr e ↦
              subst (IsBound R) (sym e) (
                (λ v w i j.
                    eq.flip (pair v.b v.a) (pair w.b w.a)
                    (k.0 (pair v.b v.a) (pair w.b w.a) (turned_forward ts h.0 h.1 (pair v.b v.a) (forward_reverse h.0 v i)) (turned_forward ts h.0 h.1 (pair w.b w.a) (forward_reverse h.0 w j)))),
                all_bound R (reverse h.0) (moved (IsBound R) h.0 (reverse h.0) (IsPermutation-reverse h.0) (each_bound R h.0 (all_turned_bound ts h.0 h.1 k.1))),
              )
        ]

    pub all_turned_bound : (ts : Forest) (us : List Outline) → AreEquivalent ts us → AreBound R ts → AreBound R (forest us)
    all_turned_bound no_tree [] h k = tt
    all_turned_bound no_tree (u ∷ us) h k = absurd h
    all_turned_bound (tree_and t ts) [] h k = absurd h
    all_turned_bound (tree_and t ts) (u ∷ us) h k = (turned_bound t u h.0 k.0, all_turned_bound ts us h.1 k.1)

  mutual
    pub unturned_bound : (t u : Outline) → IsEquivalent t u → IsBound R u → IsBound R t
    unturned_bound (leaf b) u h k = tt
    unturned_bound (p_node ts) u h k =
        let b : IsBound R (p_node (forest h.1)) = subst (IsBound R) h.4 k in
        let e : (a : ℕ) → has (leaves_of ts) a ≡ has (leaves_of (forest h.1)) a =
        λ a. has_same (leaves_of ts) (leaves_of (forest h.1)) a (sym (moved_occurs h.0 h.1 a h.3 ∙ equivalent_occur_all ts h.0 a h.2)) in
        let m : IsPermutation h.1 h.0 = IsPermutation-sym h.0 h.1 h.3 in (
          scope R (leaves_of (forest h.1)) (leaves_of ts) e ts
              (all_unturned_closed R (leaves_of (forest h.1)) ts h.0 h.2
              (all_closed R (leaves_of (forest h.1)) h.0 (moved (λ t. IsClosed R (leaves_of (forest h.1)) (leaves t)) h.1 h.0 m (each_closed R (leaves_of (forest h.1)) h.1 b.0)))),
          all_unturned_bound ts h.0 h.2 (all_bound R h.0 (moved (IsBound R) h.1 h.0 m (each_bound R h.1 b.1))),
        )
    unturned_bound (q_node ts) u h k =
        elim h.2 [
          | inl e ↦
              let b : IsBound R (q_node (forest h.0)) = subst (IsBound R) e k in
              ((λ v w i j. b.0 v w (unturned_forward ts h.0 h.1 v i) (unturned_forward ts h.0 h.1 w j)), all_unturned_bound ts h.0 h.1 b.1)
          | inr e ↦
              let b : IsBound R (q_node (forest (reverse h.0))) = subst (IsBound R) e k in (
                (λ v w i j.
                    eq.flip (pair v.b v.a) (pair w.b w.a)
                    (b.0 (pair v.b v.a) (pair w.b w.a) (reverse_forward h.0 v (unturned_forward ts h.0 h.1 v i)) (reverse_forward h.0 w (unturned_forward ts h.0 h.1 w j)))),
                all_unturned_bound ts h.0 h.1 (all_bound R h.0 (moved (IsBound R) (reverse h.0) h.0 (IsPermutation-sym h.0 (reverse h.0) (IsPermutation-reverse h.0)) (each_bound R (reverse h.0) b.1))),
              )
        ]

    pub all_unturned_bound : (ts : Forest) (us : List Outline) → AreEquivalent ts us → AreBound R (forest us) → AreBound R ts
    all_unturned_bound no_tree us h k = tt
    all_unturned_bound (tree_and t ts) [] h k = absurd h
    all_unturned_bound (tree_and t ts) (u ∷ us) h k = (unturned_bound t u h.0 k.0, all_unturned_bound ts us h.1 k.1)

pub turned_tied : (c : ℕ) (rows : List (List ℕ)) (t u : Outline) → IsEquivalent t u → IsTied c rows t → IsTied c rows u
turned_tied c rows t u h k =
    bound_tied c rows u (λ f g. k.kept f ((same_frontiers t u h f).1 g))
    (turned_bound (Evenly c rows) (evenly_eq c rows) t u h (tied_bound c rows t k))

pub unturned_tied : (c : ℕ) (rows : List (List ℕ)) (t u : Outline) → IsEquivalent t u → IsTied c rows u → IsTied c rows t
unturned_tied c rows t u h k =
    bound_tied c rows t (λ f g. k.kept f ((same_frontiers t u h f).0 g))
    (unturned_bound (Evenly c rows) (evenly_eq c rows) t u h (tied_bound c rows u k))

pub turned_law : (c : ℕ) (rows : List (List ℕ)) (t u : Outline) → IsEquivalent t u → (IsProper c t ↔ IsProper c u) × (IsTied c rows t ↔ IsTied c rows u)
turned_law c rows t u h =
    ((equivalent_proper c t u h, proper_from_equivalent c t u h), (turned_tied c rows t u h, unturned_tied c rows t u h))
