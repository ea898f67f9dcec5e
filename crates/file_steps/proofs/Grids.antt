-- How many places of a grid pass a test.
use Rattle.std.proofs.Common.{◌≡◌, ◌∙◌, ℕ, zero, suc, ◌+◌, ◌≤◌, ◌<◌, Bool, true, false, cond, ◌||◌, eqb, List, [], ◌∷◌, length, map, sum_by, IsTrue, refl, sym, ap, arith, inl, inr, eq-eqb}
use Rattle.std.specs.List.{filter, range_with_len}
use Rattle.std.proofs.lemmas.Bool.{cases_eq, both_ways}
use Rattle.std.proofs.lemmas.List.Sums.{sum_by-cons}
use Rattle.row_model.specs.Rows.{columns_where}
use Rattle.row_model.proofs.Columns.{columns_same}
use Rattle.column_order.proofs.Few.{filter_or, filter_one}

-- of n rows from one on, and 1 to c in each
abbrev pub grid : (ℕ → ℕ → Bool) → ℕ → ℕ → ℕ → ℕ
grid t c low n = sum_by length (map (λ x. columns_where c (t x)) (range_with_len low n))

row_more : (t : ℕ → ℕ → Bool) (c low n : ℕ) → grid t c low (suc n) ≡ length (columns_where c (t low)) + grid t c (low + 1) n
row_more t c low n = sum_by-cons length (columns_where c (t low)) (map (λ x. columns_where c (t x)) (range_with_len (low + 1) n))

-- a test that asks more passes no more
both_kept : (s t : Bool) (x : ℕ) (few many : List ℕ) → (IsTrue s → IsTrue t) → length few ≤ length many → length (cond s (x ∷ few) few) ≤ length (cond t (x ∷ many) many)
both_kept true true x few many h l = omega (arith, l)
both_kept true false x few many h l = absurd (both_ways _ refl (h refl))
both_kept false true x few many h l = omega (arith, l)
both_kept false false x few many h l = l

pub filter_less : (p q : ℕ → Bool) (xs : List ℕ) → ((a : ℕ) → IsTrue (p a) → IsTrue (q a)) → length (filter p xs) ≤ length (filter q xs)
filter_less p q [] h = omega arith
filter_less p q (x ∷ xs) h = both_kept (p x) (q x) x (filter p xs) (filter q xs) (h x) (filter_less p q xs h)

nothing_kept : (s : Bool) (x : ℕ) (rest : List ℕ) → (IsTrue s → ⊥) → length rest ≡ 0 → length (cond s (x ∷ rest) rest) ≡ 0
nothing_kept true x rest h e = absurd (h refl)
nothing_kept false x rest h e = e

filter_never : (p : ℕ → Bool) (xs : List ℕ) → ((a : ℕ) → IsTrue (p a) → ⊥) → length (filter p xs) ≡ 0
filter_never p [] h = refl
filter_never p (x ∷ xs) h = nothing_kept (p x) x (filter p xs) (h x) (filter_never p xs h)

-- one of two tests
pub grid_or : (s t : ℕ → ℕ → Bool) (c low n : ℕ) → grid (λ x y. s x y || t x y) c low n ≤ grid s c low n + grid t c low n
grid_or s t c low zero = omega arith
grid_or s t c low (suc n) =
    omega (arith, row_more (λ x y. s x y || t x y) c low n, row_more s c low n, row_more t c low n, filter_or (s low) (t low) (range_with_len 1 c), grid_or s t c (low + 1) n)

-- a test that passes nowhere
pub grid_none : (t : ℕ → ℕ → Bool) (c low n : ℕ) → ((x y : ℕ) → low ≤ x → IsTrue (t x y) → ⊥) → grid t c low n ≡ 0
grid_none t c low zero h = refl
grid_none t c low (suc n) h =
    omega (arith, row_more t c low n, filter_never (t low) (range_with_len 1 c) (λ y. h low y (omega arith)), grid_none t c (low + 1) n (λ x y above. h x y (omega (arith, above))))

-- one that passes at one place alone
pub grid_one : (t : ℕ → ℕ → Bool) (a b c low n : ℕ) → ((x y : ℕ) → IsTrue (t x y) → (a ≡ x) × (b ≡ y)) → grid t c low n ≤ 1
grid_one t a b c low zero h = omega arith
grid_one t a b c low (suc n) h =
    elim (cases_eq a low) [
      | inl e ↦
          let few : length (columns_where c (t low)) ≤ length (filter (eqb b) (range_with_len 1 c)) = filter_less (t low) (eqb b) (range_with_len 1 c) (λ y k. eq-eqb b y (h low y k).1) in
          omega (arith, row_more t c low n, few, filter_one b c 1, grid_none t c (low + 1) n (λ x y above k. omega (arith, above, e, (h x y k).0)))
      | inr d ↦ omega (arith, row_more t c low n, filter_never (t low) (range_with_len 1 c) (λ y k. d (h low y k).0), grid_one t a b c (low + 1) n h)
    ]

-- one that passes in each row at one place alone
pub grid_rows : (t : ℕ → ℕ → Bool) (c low n : ℕ) → ((x y : ℕ) → IsTrue (t x y) → x ≡ y) → grid t c low n ≤ n
grid_rows t c low zero h = omega arith
grid_rows t c low (suc n) h =
    let few : length (columns_where c (t low)) ≤ length (filter (eqb low) (range_with_len 1 c)) = filter_less (t low) (eqb low) (range_with_len 1 c) (λ y k. eq-eqb low y (h low y k)) in
    omega (arith, row_more t c low n, few, filter_one low c 1, grid_rows t c (low + 1) n h)

-- a test that agrees on the places of the grid
pub grid_same : (s t : ℕ → ℕ → Bool) (c low n : ℕ) → ((x y : ℕ) → low ≤ x → x < low + n → 1 ≤ y → y ≤ c → s x y ≡ t x y) → grid s c low n ≡ grid t c low n
grid_same s t c low zero h = refl
grid_same s t c low (suc n) h =
    row_more s c low n
    ∙ ap (λ r. length r + grid s c (low + 1) n) (columns_same c (s low) (t low) (λ j u. h low (j + 1) (omega arith) (omega arith) (omega arith) (omega (arith, u))))
    ∙ ap (λ k. length (columns_where c (t low)) + k) (grid_same s t c (low + 1) n (λ x y l u f to. h x y (omega (arith, l)) (omega (arith, u)) f to))
    ∙ sym (row_more t c low n)
