-- Whether a gap is open for some column.
use Rattle.std.proofs.Common.{◌≡◌, ◌⊎◌, ℕ, ◌+◌, ◌-◌, ◌<◌, List, length, slice_index, IsTrue, subst, inl, inr, arith}
use Rattle.std.proofs.lemmas.Bool.{both_ways, cases_eq, cases_lt}
use Rattle.column_order.specs.Orders.{has}
use Rattle.row_model.specs.Graph.{row_at}
use Rattle.open_gaps.specs.declared.gap.Gap.{Gap}
use Rattle.open_gaps.specs.Gaps.{IsOpen, IsOpenAtAll, IsGap}

-- it is open for the first or the last one
pub at_an_end : (rows : List (List ℕ)) (o : List ℕ) (q : ℕ) (g : Gap) → IsGap rows o q g → IsOpenAtAll rows o q → IsOpen rows o q 0 ⊎ IsOpen rows o q (length o - 1)
at_an_end rows o q g h (p, l, x) =
    let k = x.0 in
    let opens = x.1 in
    let row = row_at rows k in
    let not_at : (i : ℕ) → IsTrue (has row (slice_index o i)) → p ≡ i → ⊥ = λ i t e. both_ways (has row (slice_index o p)) opens.lacks (subst (λ x. IsTrue (has row (slice_index o x))) (omega (arith, e)) t) in
    elim (cases_lt p q) [
      | inl m ↦ inl (g.first_row, h.left.opens 0 (omega (arith, m)) (omega (arith, h.left.no_other k p m opens)))
      | inr m ↦ elim (cases_eq p q) [
        | inl e ↦ absurd (not_at q opens.low e)
        | inr n ↦ elim (cases_eq p (q + 1)) [
          | inl e ↦ absurd (not_at (q + 1) opens.high e)
          | inr f ↦
              let far : q + 1 < p = omega (arith, m, n, f) in
              let past = h.right.no_other k p far l opens in
              inr (g.last_row, h.right.opens (length o - 1) (omega (arith, far, l)) (omega (arith, past, l)) (omega (arith, l)))
        ]
      ]
    ]
