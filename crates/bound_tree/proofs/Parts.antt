-- The leaves of a node as a part of an order.
use Rattle.std.proofs.Common.{◌≡◌, ◌⊎◌, ◌∙◌, ℕ, ◌+◌, ◌-◌, ◌<◌, ◌≤◌, List, ◌++◌, length, slice_index, IsTrue, IsFalse, ap, sym, subst, inl, inr, arith, length-append, add_assoc}
use Rattle.std.proofs.lemmas.List.{get_or_append_left, get_or-append-add}
use Rattle.std.proofs.lemmas.Bool.{cases_lt, false_from_ne_true}
use Rattle.column_order.specs.Orders.{has, occurs, place}
use Rattle.column_order.proofs.Lists.{has_at, place_at, at_place}

-- the list stands in the order from position s on
pub record IsPart (o : List ℕ) (s : ℕ) (l : List ℕ) : Type 0 where
  pub inside : s + length l ≤ length o
  pub same : (i : ℕ) → i < length l → slice_index o (s + i) ≡ slice_index l i

pub whole_part : (o : List ℕ) → IsPart o 0 o
whole_part o = record { inside = omega arith; same = λ i h. ap (slice_index o) (omega arith) }

pub front_part : (o : List ℕ) (s : ℕ) (k l : List ℕ) → IsPart o s (k ++ l) → IsPart o s k
front_part o s k l p =
    record {
      inside = omega (arith, p.inside, length-append k l);
      same = λ i h. p.same i (omega (arith, h, length-append k l)) ∙ get_or_append_left k l 0 i h;
    }

pub rear_part : (o : List ℕ) (s : ℕ) (k l : List ℕ) → IsPart o s (k ++ l) → IsPart o (s + length k) l
rear_part o s k l p =
    record {
      inside = omega (arith, p.inside, length-append k l);
      same = λ i h.
          ap (slice_index o) (add_assoc s (length k) i) ∙
          p.same (length k + i) (omega (arith, h, length-append k l)) ∙
          get_or-append-add k l i 0;
    }

-- a position within the part has a column of the list
pub part_has : (o : List ℕ) (s : ℕ) (l : List ℕ) → IsPart o s l → (x : ℕ) → s ≤ x → x < s + length l → IsTrue (has l (slice_index o x))
part_has o s l p x a b =
    let e : s + (x - s) ≡ x = omega arith in
    subst (λ y. IsTrue (has l y)) (sym (p.same (x - s) (omega arith)) ∙ ap (slice_index o) e) (has_at l (x - s) (omega arith))

-- a column of the list stands within the part
pub part_place : (o : List ℕ) (s : ℕ) (l : List ℕ) → IsPart o s l → (a : ℕ) → IsTrue (has l a) → (x : ℕ) × (s ≤ x) × (x < s + length l) × (slice_index o x ≡ a)
part_place o s l p a h =
    let r = at_place l a h in
    (s + place l a, omega arith, omega (arith, r.0), p.same (place l a) r.0 ∙ r.1)

module _ (o : List ℕ) (once : (a : ℕ) → occurs o a ≤ 1) (s : ℕ) (l : List ℕ) (p : IsPart o s l) where
  -- and no other position has one
  pub part_lacks : (x : ℕ) → x < length o → (x < s) ⊎ (s + length l ≤ x) → IsFalse (has l (slice_index o x))
  part_lacks x u out =
      false_from_ne_true (has l (slice_index o x)) (λ h.
      let r = part_place o s l p (slice_index o x) h in
      let e : r.0 ≡ x = sym (place_at o once r.0 (omega (arith, r.2, p.inside))) ∙ ap (place o) r.3 ∙ place_at o once x u in
      elim out [ inl m ↦ absurd (omega (arith, e, r.1, m)) | inr m ↦ absurd (omega (arith, e, r.2, m)) ])

  pub part_outside : (x : ℕ) → x < length o → (IsTrue (has l (slice_index o x)) → ⊥) → (x < s) ⊎ (s + length l ≤ x)
  part_outside x u n =
      elim (cases_lt x s) [
        | inl m ↦ inl m
        | inr m ↦ elim (cases_lt x (s + length l)) [ inl k ↦ absurd (n (part_has o s l p x m k)) | inr k ↦ inr k ]
      ]
