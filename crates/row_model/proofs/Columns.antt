-- The columns that pass a test: tests that agree give the same ones, and a row is made of its own columns.
use Rattle.std.proofs.Common.{◌≡◌, ◌∙◌, ℕ, zero, suc, ◌+◌, ◌-◌, ◌<◌, ◌≤◌, Bool, if◌then◌else◌, ◌||◌, List, [], ◌∷◌, refl, ap, sym, arith, inl, inr, eq-eqb}
use Rattle.std.proofs.lemmas.Bool.{cases_eq, ne_eqb}
use Rattle.std.specs.List.{filter, range_with_len}
use Rattle.column_order.specs.Orders.{has}
use Rattle.row_model.specs.Rows.{Ascends, IsRow, columns_where}
use Rattle.row_model.proofs.Ascending.{lacks_low}

-- tests that agree on a range
pub filter_same : (p q : ℕ → Bool) (low n : ℕ) → ((k : ℕ) → low ≤ k → k < low + n → p k ≡ q k) → filter p (range_with_len low n) ≡ filter q (range_with_len low n)
filter_same p q low zero same = refl
filter_same p q low (suc n) same =
    ap (λ b. if b then low ∷ filter p (range_with_len (low + 1) n) else filter p (range_with_len (low + 1) n)) (same low (omega arith) (omega arith))
    ∙ ap (λ xs. if q low then low ∷ xs else xs) (filter_same p q (low + 1) n (λ k from to. same k (omega arith) (omega arith)))

pub columns_same : (c : ℕ) (p q : ℕ → Bool) → ((j : ℕ) → j < c → p (j + 1) ≡ q (j + 1)) → columns_where c p ≡ columns_where c q
columns_same c p q same =
    filter_same p q 1 c (λ k from to.
    let back : k - 1 + 1 ≡ k = omega arith in
    ap p (sym back) ∙ same (k - 1) (omega arith) ∙ ap q back)

-- the columns of a row, from one on
range_row : (c low n : ℕ) (row : List ℕ) → low + n ≡ c → Ascends c low row → filter (has row) (range_with_len (low + 1) n) ≡ row
range_row c low zero [] e h = refl
range_row c low zero (x ∷ row) e h = absurd (omega (arith, h.0, h.1))
range_row c low (suc n) [] e h = range_row c (low + 1) n [] (omega arith) tt
range_row c low (suc n) (x ∷ row) e h =
    elim (cases_eq x (low + 1)) [
      | inl same ↦
          let rest : Ascends c (low + 1) row = rw same at h.2 in
          let later : filter (has (x ∷ row)) (range_with_len (low + 1 + 1) n) ≡ row =
          filter_same (has (x ∷ row)) (has row) (low + 1 + 1) n (λ k from to. ap (λ b. b || has row k) (ne_eqb x k (λ e. omega (arith, e, same))))
          ∙ range_row c (low + 1) n row (omega arith) rest in
          rw (eq-eqb x (low + 1) same, later) (ap (λ a. a ∷ row) (sym same))
      | inr other ↦
          let above : Ascends c (low + 1) (x ∷ row) = (omega (arith, other, h.0), h.1, h.2) in
          rw (ne_eqb x (low + 1) other, lacks_low c x (low + 1) row h.2 (omega (arith, above.0))) (range_row c (low + 1) n (x ∷ row) (omega arith) above)
    ]

-- those of a row are the row
pub columns_row : (c : ℕ) (row : List ℕ) → IsRow c row → columns_where c (has row) ≡ row
columns_row c row is = range_row c 0 c row (omega arith) is
