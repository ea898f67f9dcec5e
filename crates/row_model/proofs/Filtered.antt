-- The columns of 1 to c that pass a test, in ascending order: which they are, that they are a row, and one column more.
use Rattle.std.proofs.Common.{◌≡◌, ◌∙◌, ℕ, zero, suc, ◌+◌, ◌<◌, ◌≤◌, Bool, true, false, cond, ◌&&◌, ◌||◌, eqb, List, [], ◌∷◌, ◌++◌, IsTrue, refl, sym, ap, inl, inr, arith, eq-eqb}
use Rattle.std.proofs.lemmas.Bool.{cases_eq, or_left, or_right, and_from, and_right, ne_eqb}
use Rattle.std.proofs.lemmas.List.Elements.{filter-append}
use Rattle.std.specs.List.{filter, range_with_len}
use Rattle.column_order.specs.Orders.{has}
use Rattle.row_model.specs.Rows.{Ascends, IsRow}
use Rattle.row_model.proofs.Ascending.{ascends_lower}

-- a filtered list has what the list has and the test passes
pub has_filter : (p : ℕ → Bool) (xs : List ℕ) (a : ℕ) → IsTrue (has xs a) → has (filter p xs) a ≡ p a
has_filter p xs a h = given xs ∙ ap (λ b. b && p a) h
  where
    step : (x : ℕ) (xs : List ℕ) (t : Bool) → p x ≡ t → has (filter p xs) a ≡ (has xs a && p a) → has (cond t (x ∷ filter p xs) (filter p xs)) a ≡ ((eqb x a || has xs a) && p a)
    step x xs true e h =
        elim (cases_eq x a) [
          | inl s ↦ or_left (eqb x a) (has (filter p xs) a) (eq-eqb x a s) ∙ sym (and_from _ _ (or_left (eqb x a) (has xs a) (eq-eqb x a s)) (ap p (sym s) ∙ e))
          | inr d ↦ rw (ne_eqb x a d) h
        ]
    step x xs false e h =
        elim (cases_eq x a) [
          | inl s ↦ let fails : p a ≡ false = ap p (sym s) ∙ e in h ∙ and_right (has xs a) (p a) fails ∙ sym (and_right (eqb x a || has xs a) (p a) fails)
          | inr d ↦ rw (ne_eqb x a d) h
        ]

    given : (xs : List ℕ) → has (filter p xs) a ≡ (has xs a && p a)
    given [] = refl
    given (x ∷ xs) = step x xs (p x) refl (given xs)

pub range_has : (n low a : ℕ) → low ≤ a → a < low + n → IsTrue (has (range_with_len low n) a)
range_has zero low a l u = absurd (omega (arith, l, u))
range_has (suc n) low a l u =
    elim (cases_eq low a) [
      | inl e ↦ or_left (eqb low a) (has (range_with_len (low + 1) n) a) (eq-eqb low a e)
      | inr d ↦ or_right (eqb low a) (has (range_with_len (low + 1) n) a) (range_has n (low + 1) a (omega (arith, d, l)) (omega (arith, u)))
    ]

-- each column of 1 to c is listed exactly where it passes
pub has_filtered : (p : ℕ → Bool) (c a : ℕ) → 1 ≤ a → a ≤ c → has (filter p (range_with_len 1 c)) a ≡ p a
has_filtered p c a l u = has_filter p (range_with_len 1 c) a (range_has c 1 a l (omega (arith, u)))

pub ascends_filter : (p : ℕ → Bool) (n c low : ℕ) → low + n ≤ c → Ascends c low (filter p (range_with_len (low + 1) n))
ascends_filter p zero c low h = tt
ascends_filter p (suc n) c low h =
    let rest : Ascends c (low + 1) (filter p (range_with_len (low + 1 + 1) n)) = ascends_filter p n c (low + 1) (omega (arith, h)) in
    elim (p (low + 1)) as (λ t. Ascends c low (cond t ((low + 1) ∷ filter p (range_with_len (low + 1 + 1) n)) (filter p (range_with_len (low + 1 + 1) n)))) [
      | true ↦ (omega arith, omega (arith, h), rest)
      | false ↦ ascends_lower c low (low + 1) (filter p (range_with_len (low + 1 + 1) n)) (omega arith) rest
    ]

-- they are a row over 1 to c
pub filtered_row : (p : ℕ → Bool) (c : ℕ) → IsRow c (filter p (range_with_len 1 c))
filtered_row p c = ascends_filter p c c 0 (omega arith)

pub range_more : (n low : ℕ) → range_with_len low (n + 1) ≡ range_with_len low n ++ (low + n) ∷ []
range_more zero low = ap (λ m. m ∷ []) (omega arith)
range_more (suc n) low =
    let more : suc n + 1 ≡ suc (n + 1) = omega arith in
    let next : low + 1 + n ≡ low + suc n = omega arith in
    ap (range_with_len low) more ∙ ap (λ xs. low ∷ xs) (range_more n (low + 1)) ∙ ap (λ m. low ∷ (range_with_len (low + 1) n ++ m ∷ [])) next

-- of one column more they are the same ones, and the last column where it passes
pub filtered_more : (p : ℕ → Bool) (n : ℕ) → filter p (range_with_len 1 (n + 1)) ≡ filter p (range_with_len 1 n) ++ cond (p (n + 1)) ((n + 1) ∷ []) []
filtered_more p n =
    let next : 1 + n ≡ n + 1 = omega arith in
    ap (filter p) (range_more n 1) ∙
    filter-append p (range_with_len 1 n) ((1 + n) ∷ []) ∙
    ap (λ m. filter p (range_with_len 1 n) ++ cond (p m) (m ∷ []) []) next
