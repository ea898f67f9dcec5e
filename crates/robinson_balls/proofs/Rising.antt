-- Rising lists of numbers: what they have, that this determines them, and one number more.
use Rattle.std.proofs.Common.{◌≡◌, ◌∙◌, ℕ, zero, suc, ◌<◌, ◌≤◌, true, false, cond, ◌||◌, ltb, eqb, List, [], ◌∷◌, ◌++◌, length, get_or, take, drop, IsTrue, refl, sym, ap, subst, inl, inr, arith, eq-eqb, Result, Ok, Err}
use Rattle.std.proofs.lemmas.Bool.{cases_eq, cases_lt, cases_Bool, ne_eqb, lt-ltb, le-ltb, both_ways}
use Rattle.std.proofs.lemmas.List.{get_or_default}
use Rattle.std.proofs.lemmas.List.Sorted.{searched}
use Rattle.std.specs.List.Sorted.{IsNonDecreasing, IsBinarySearchResult}
use Rattle.std.specs.Ordering.{nat_cmp}
use Rattle.std.specs.Result.{MatchResult}
use Rattle.column_order.specs.Orders.{has}
use Rattle.column_order.proofs.Lists.{has_cases, has_head, has_tail, has_at}
use Rattle.robinson_balls.specs.Neighbours.{with_item}

-- each number is above those before it, and the first is not below a number
abbrev pub Rises : ℕ → List ℕ → Type 0
Rises low [] = Unit {0}
Rises low (x ∷ xs) = (low ≤ x) × Rises (suc x) xs

pub rises_lower : (low high : ℕ) (xs : List ℕ) → low ≤ high → Rises high xs → Rises low xs
rises_lower low high [] l h = tt
rises_lower low high (x ∷ xs) l h = (omega (arith, l, h.0), h.1)

-- a rising list with one number more rises
pub rises_with : (low s : ℕ) (xs : List ℕ) → low ≤ s → Rises low xs → Rises low (with_item s xs)
rises_with low s [] l h = (l, tt)
rises_with low s (r ∷ xs) l h =
    elim (cases_lt r s) [
      | inl u ↦ rw (lt-ltb r s u) (h.0, rises_with (suc r) s xs (omega (arith, u)) h.1)
      | inr u ↦ rw (le-ltb r s u) (elim (cases_eq r s) [
        | inl e ↦ rw (eq-eqb r s e) h
        | inr n ↦ rw (ne_eqb r s n) (l, (omega (arith, u, n), h.1))
      ])
    ]

rises_has : (low a : ℕ) (xs : List ℕ) → Rises low xs → IsTrue (has xs a) → low ≤ a
rises_has low a [] h k = absurd (both_ways _ refl k)
rises_has low a (x ∷ xs) h k =
    elim (has_cases x a xs k) [
      | inl e ↦ omega (arith, e, h.0)
      | inr t ↦ omega (arith, h.0, rises_has (suc x) a xs h.1 t)
    ]

pub rises_steadily : (low : ℕ) (xs : List ℕ) → Rises low xs → IsNonDecreasing xs
rises_steadily low [] h i j d l u = absurd (omega (arith, u))
rises_steadily low (x ∷ xs) h zero zero d l u = omega arith
rises_steadily low (x ∷ xs) h zero (suc j) d l u =
    let within : j < length xs = omega (arith, u) in
    let above : suc x ≤ get_or xs j 0 = rises_has (suc x) (get_or xs j 0) xs h.1 (has_at xs j within) in
    omega (arith, above, get_or_default xs j d 0 within)
rises_steadily low (x ∷ xs) h (suc i) zero d l u = absurd (omega (arith, l))
rises_steadily low (x ∷ xs) h (suc i) (suc j) d l u = rises_steadily (suc x) xs h.1 i j d (omega (arith, l)) (omega (arith, u))

has_below : (low a : ℕ) (xs : List ℕ) → Rises low xs → a < low → has xs a ≡ false
has_below low a xs h l = elim (cases_Bool (has xs a)) [ inl t ↦ absurd (omega (arith, l, rises_has low a xs h t)) | inr f ↦ f ]

-- a rising list is determined by the numbers that it has
rising_same : (low : ℕ) (xs ys : List ℕ) → Rises low xs → Rises low ys → ((a : ℕ) → has xs a ≡ has ys a) → xs ≡ ys
rising_same low [] [] h k same = refl
rising_same low [] (y ∷ ys) h k same = absurd (both_ways (has (y ∷ ys) y) (sym (same y)) (has_head y ys))
rising_same low (x ∷ xs) [] h k same = absurd (both_ways (has (x ∷ xs) x) (same x) (has_head x xs))
rising_same low (x ∷ xs) (y ∷ ys) h k same =
    let ge : y ≤ x = rises_has y x (y ∷ ys) (omega arith, k.1) (sym (same x) ∙ has_head x xs) in
    let le : x ≤ y = rises_has x y (x ∷ xs) (omega arith, h.1) (same y ∙ has_head y ys) in
    let e : x ≡ y = omega arith in
    let up : Rises (suc x) ys = rw e k.1 in
    let rest : (a : ℕ) → has xs a ≡ has ys a = λ a. elim (cases_lt x a) [
      | inl l ↦
          sym (ap (λ b. b || has xs a) (ne_eqb x a (λ q. omega (arith, q, l)))) ∙ same a ∙ ap (λ b. b || has ys a) (ne_eqb y a (λ q. omega (arith, q, l, e)))
      | inr l ↦ has_below (suc x) a xs h.1 (omega (arith, l)) ∙ sym (has_below (suc x) a ys up (omega (arith, l)))
    ] in
    ap (λ z. z ∷ xs) e ∙ ap (λ zs. y ∷ zs) (rising_same (suc x) xs ys h.1 up rest)

pub rising_only : (xs ys : List ℕ) → Rises 0 xs → Rises 0 ys → ((a : ℕ) → IsTrue (has xs a) → IsTrue (has ys a)) → ((a : ℕ) → IsTrue (has ys a) → IsTrue (has xs a)) → xs ≡ ys
rising_only xs ys h k there back = rising_same 0 xs ys h k (λ a. elim (cases_Bool (has xs a)) [
  | inl t ↦ t ∙ sym (there a t)
  | inr n ↦ n ∙ sym (elim (cases_Bool (has ys a)) [ inl t ↦ absurd (both_ways (has xs a) n (back a t)) | inr e ↦ e ])
])

-- a list with one number more has that number and those before, and no other
pub with_item_has : (s : ℕ) (xs : List ℕ) → IsTrue (has (with_item s xs) s)
with_item_has s [] = has_head s []
with_item_has s (r ∷ xs) =
    elim (cases_lt r s) [
      | inl l ↦ rw (lt-ltb r s l) (has_tail r s (with_item s xs) (with_item_has s xs))
      | inr l ↦ elim (cases_eq r s) [
        | inl e ↦ rw (le-ltb r s l, e) (cond_same s xs)
        | inr n ↦ rw (le-ltb r s l, ne_eqb r s n) (has_head s (r ∷ xs))
      ]
    ]
  where
    cond_same : (s : ℕ) (xs : List ℕ) → IsTrue (has (cond (eqb s s) (s ∷ xs) (s ∷ s ∷ xs)) s)
    cond_same s xs = elim (eqb s s) as (λ b. IsTrue (has (cond b (s ∷ xs) (s ∷ s ∷ xs)) s)) [ true ↦ has_head s xs | false ↦ has_head s (s ∷ xs) ]

pub with_item_keeps : (s r : ℕ) (xs : List ℕ) → IsTrue (has xs r) → IsTrue (has (with_item s xs) r)
with_item_keeps s r [] h = has_tail s r [] h
with_item_keeps s r (q ∷ xs) h =
    elim (ltb q s) as (λ b. IsTrue (has (cond b (q ∷ with_item s xs) (cond (eqb q s) (q ∷ xs) (s ∷ q ∷ xs))) r)) [
      | true ↦ elim (has_cases q r xs h) [
        | inl e ↦ subst (λ a. IsTrue (has (q ∷ with_item s xs) a)) e (has_head q (with_item s xs))
        | inr t ↦ has_tail q r (with_item s xs) (with_item_keeps s r xs t)
      ]
      | false ↦ elim (eqb q s) as (λ b. IsTrue (has (cond b (q ∷ xs) (s ∷ q ∷ xs)) r)) [
        | true ↦ h
        | false ↦ has_tail s r (q ∷ xs) h
      ]
    ]

pub with_item_only : (s r : ℕ) (xs : List ℕ) → IsTrue (has (with_item s xs) r) → IsTrue (has (s ∷ xs) r)
with_item_only s r [] h = h
with_item_only s r (q ∷ xs) h =
    elim (ltb q s) as (λ b. IsTrue (has (cond b (q ∷ with_item s xs) (cond (eqb q s) (q ∷ xs) (s ∷ q ∷ xs))) r) → IsTrue (has (s ∷ q ∷ xs) r)) [
      | true ↦ λ k. elim (has_cases q r (with_item s xs) k) [
        | inl e ↦ has_tail s r (q ∷ xs) (rw (← e) (has_head q xs))
        | inr t ↦ elim (has_cases s r xs (with_item_only s r xs t)) [
          | inl e ↦ rw (← e) (has_head s (q ∷ xs))
          | inr u ↦ has_tail s r (q ∷ xs) (has_tail q r xs u)
        ]
      ]
      | false ↦ elim (eqb q s) as (λ b. IsTrue (has (cond b (q ∷ xs) (s ∷ q ∷ xs)) r) → IsTrue (has (s ∷ q ∷ xs) r)) [
        | true ↦ λ k. has_tail s r (q ∷ xs) k
        | false ↦ λ k. k
      ]
    ] h

-- a number that the list has is not put in again
with_found : (xs : List ℕ) (s i : ℕ) → IsNonDecreasing xs → i < length xs → get_or xs i 0 ≡ s → with_item s xs ≡ xs
with_found [] s i rising l e = absurd (omega (arith, l))
with_found (r ∷ xs) s zero rising l e = let same : r ≡ s = e in rw (le-ltb r s (omega (arith, same)), eq-eqb r s same) refl
with_found (r ∷ xs) s (suc i) rising l e =
    let first : r ≤ s = omega (arith, e, rising 0 (suc i) 0 (omega arith) l) in
    elim (cases_lt r s) [
      | inl u ↦ rw (lt-ltb r s u) (ap (λ ys. r ∷ ys) (with_found xs s i (λ j k d m n. rising (suc j) (suc k) d (omega (arith, m)) (omega (arith, n))) (omega (arith, l)) e))
      | inr u ↦ let same : r ≡ s = omega (arith, first, u) in rw (le-ltb r s u, eq-eqb r s same) refl
    ]

-- a number between those below it and those above it
with_between : (xs : List ℕ) (s i : ℕ) → i ≤ length xs → ((k : ℕ) → k < i → get_or xs k 0 < s) → ((k : ℕ) → i ≤ k → k < length xs → s < get_or xs k 0) →
    with_item s xs ≡ take i xs ++ s ∷ drop i xs
with_between [] s zero l low high = refl
with_between [] s (suc i) l low high = absurd (omega (arith, l))
with_between (r ∷ xs) s zero l low high =
    let above : s < r = high 0 (omega arith) (omega arith) in
    rw (le-ltb r s (omega (arith, above)), ne_eqb r s (λ e. omega (arith, e, above))) refl
with_between (r ∷ xs) s (suc i) l low high =
    let below : r < s = low 0 (omega arith) in
    rw (lt-ltb r s below) (ap (λ ys. r ∷ ys) (with_between xs s i (omega (arith, l)) (λ k u. low (suc k) (omega (arith, u))) (λ k m u. high (suc k) (omega (arith, m)) (omega (arith, u)))))

-- the list with the number that was searched for, where it is found and where not
pub placed : (xs : List ℕ) (s : ℕ) (r : Result ℕ ℕ) → IsNonDecreasing xs → IsBinarySearchResult (λ y. nat_cmp y s) xs r →
    MatchResult r (λ i. with_item s xs ≡ xs) (λ i. with_item s xs ≡ take i xs ++ s ∷ drop i xs)
placed xs s (Ok i) rising h = let found = searched xs s (Ok i) h (λ j k. rising j k 0) in with_found xs s i rising found.0 found.1
placed xs s (Err i) rising h = let found = searched xs s (Err i) h (λ j k. rising j k 0) in with_between xs s i found.0 found.1 found.2
