-- How many numbers of a range pass a test.
use Rattle.std.proofs.Common.{◌≡◌, ℕ, zero, suc, ◌+◌, ◌<◌, ◌≤◌, Bool, true, false, cond, ◌||◌, eqb, List, [], ◌∷◌, length, refl, ap, inl, inr, arith, eq-eqb}
use Rattle.std.proofs.lemmas.Bool.{cases_eq, ne_eqb}
use Rattle.std.specs.List.{filter, range_with_len}
use Rattle.column_order.specs.Orders.{has}

pub filter_or : (p q : ℕ → Bool) (xs : List ℕ) → length (filter (λ a. p a || q a) xs) ≤ length (filter p xs) + length (filter q xs)
filter_or p q [] = omega arith
filter_or p q (x ∷ xs) =
    let rest : length (filter (λ a. p a || q a) xs) ≤ length (filter p xs) + length (filter q xs) = filter_or p q xs in
    elim (p x) as (λ s. length (cond (s || q x) (x ∷ filter (λ a. p a || q a) xs) (filter (λ a. p a || q a) xs)) ≤ length (cond s (x ∷ filter p xs) (filter p xs)) + length (cond (q x) (x ∷ filter q xs) (filter q xs))) [
      | true ↦ elim (q x) as (λ t. length (x ∷ filter (λ a. p a || q a) xs) ≤ length (x ∷ filter p xs) + length (cond t (x ∷ filter q xs) (filter q xs))) [ true ↦ omega arith | false ↦ omega arith ]
      | false ↦ elim (q x) as (λ t. length (cond t (x ∷ filter (λ a. p a || q a) xs) (filter (λ a. p a || q a) xs)) ≤ length (filter p xs) + length (cond t (x ∷ filter q xs) (filter q xs))) [ true ↦ omega arith | false ↦ omega arith ]
    ]

filter_none : (y n low : ℕ) → y < low → filter (eqb y) (range_with_len low n) ≡ []
filter_none y zero low l = refl
filter_none y (suc n) low l = rw (ne_eqb y low (λ e. omega (arith, e, l))) (filter_none y n (low + 1) (omega (arith, l)))

pub filter_one : (y n low : ℕ) → length (filter (eqb y) (range_with_len low n)) ≤ 1
filter_one y zero low = omega arith
filter_one y (suc n) low =
    elim (cases_eq y low) [
      | inl e ↦ rw (eq-eqb y low e) (omega (arith, ap length (filter_none y n (low + 1) (omega (arith, e)))))
      | inr d ↦ rw (ne_eqb y low d) (filter_one y n (low + 1))
    ]

filter_nothing : (xs : List ℕ) → length (filter (has []) xs) ≡ 0
filter_nothing [] = refl
filter_nothing (x ∷ xs) = filter_nothing xs

pub filter_few : (ys : List ℕ) (n low : ℕ) → length (filter (has ys) (range_with_len low n)) ≤ length ys
filter_few [] n low = omega (arith, filter_nothing (range_with_len low n))
filter_few (y ∷ ys) n low =
    let both : length (filter (has (y ∷ ys)) (range_with_len low n)) ≤ length (filter (eqb y) (range_with_len low n)) + length (filter (has ys) (range_with_len low n)) =
    filter_or (eqb y) (has ys) (range_with_len low n) in
    omega (arith, both, filter_one y n low, filter_few ys n low)
