-- The span of a row that an order keeps.
use Rattle.std.proofs.Common.{◌≡◌, ◌∙◌, ℕ, ◌+◌, ◌-◌, ◌<◌, ◌≤◌, false, leb, ltb, List, [], length, get_or, IsTrue, sym, subst, inl, inr, arith}
use Rattle.std.proofs.lemmas.Bool.{cases_eq, cases_lt, cases_Bool, lt-leb, le-leb, lt-ltb, le-ltb, and_from, and_left, and_right}
use Rattle.column_order.specs.Orders.{has, IsOrder, Keeps}
use Rattle.column_order.proofs.Counts.{order_length}
use Rattle.row_model.specs.declared.lists.Span.{Span}
use Rattle.row_model.specs.Positions.{IsSpanInOrder}
use Rattle.others_kept.specs.Counts.{within_span, IsSpanOf}

module _ (c : ℕ) (o row : List ℕ) (order : IsOrder c o) (keeps : Keeps o row) (span : Span) (is : IsSpanInOrder o row span) where
  -- the row has the columns between its first and its last
  between : (b : ℕ) → span.first ≤ b + 1 → b < span.last → IsTrue (has row (get_or o b 0))
  between b l u =
      elim (cases_eq b (span.first - 1)) [
        | inl e ↦ subst (λ k. IsTrue (has row (get_or o k 0))) (sym e) is.ends.has_first
        | inr n ↦ elim (cases_eq b (span.last - 1)) [
          | inl e ↦ subst (λ k. IsTrue (has row (get_or o k 0))) (sym e) is.ends.has_last
          | inr d ↦ keeps (span.first - 1) b (span.last - 1) (omega (arith, l, n, is.from_1)) (omega (arith, u, d)) is.ends.inside is.ends.has_first is.ends.has_last
        ]
      ]

  fills : (b : ℕ) → b < length o → has row (get_or o b 0) ≡ within_span span b
  fills b l =
      elim (cases_lt b span.last) [
        | inl u ↦ elim (cases_lt (b + 1) span.first) [
          | inl v ↦ outside (λ h. omega (arith, v, (is.ends.whole b l h).0)) ∙ sym (and_right (ltb b span.last) _ (lt-leb span.first (b + 1) v))
          | inr v ↦ between b v u ∙ sym (and_from _ _ (lt-ltb b span.last u) (le-leb span.first (b + 1) v))
        ]
        | inr u ↦ outside (λ h. omega (arith, u, (is.ends.whole b l h).1, is.to_1)) ∙ sym (and_left _ _ (le-ltb b span.last u))
      ]
    where
      outside : (IsTrue (has row (get_or o b 0)) → ⊥) → has row (get_or o b 0) ≡ false
      outside n = elim (cases_Bool (has row (get_or o b 0))) [ inl t ↦ absurd (n t) | inr f ↦ f ]

  pub kept_span : IsSpanOf c o row span
  kept_span = record {
    lies = record {
      from_1 = is.from_1;
      rise = omega (arith, is.ends.rise, is.to_1);
      inside = omega (arith, is.ends.inside, is.to_1, order_length c o order);
    };
    fills = fills;
  }

pub empty_span : (c : ℕ) (o : List ℕ) → IsSpanOf c o [] (record { first = 1; last = 0 })
empty_span c o = record {
  lies = record { from_1 = omega arith; rise = omega arith; inside = omega arith };
  fills = λ b l. sym (and_left (ltb b 0) (leb 1 (b + 1)) (le-ltb b 0 (omega arith)));
}
