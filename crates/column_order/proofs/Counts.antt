-- How many columns a list has: c in an order of 1 to c, and no fewer than c different ones are all of them.
use Rattle.std.proofs.Common.{◌≡◌, ◌≢◌, ◌⊎◌, ◌∙◌, ℕ, zero, suc, ◌+◌, ◌<◌, ◌≤◌, cond, ◌&&◌, eqb, leb, List, [], ◌∷◌, length, IsTrue, IsFalse, refl, sym, subst, inl, inr, arith, eq-eqb}
use Rattle.std.proofs.lemmas.Bool.{cond-false, cond-true, lt-leb, le-leb, cases_eq, cases_lt, cases_Bool, ne_eqb, and_from, and_left, and_right, both_ways}
use Rattle.column_order.specs.Orders.{has, occurs, IsOrder, IsWithin}
use Rattle.column_order.proofs.Lists.{has_head, has_tail, has_from_occurs, occurs_from_has}

-- how often an order of 1 to c has the number
abbrev pub within : ℕ → ℕ → ℕ
within c a = cond (leb 1 a && leb a c) 1 0

pub within_one : (c a : ℕ) → 1 ≤ a → a ≤ c → within c a ≡ 1
within_one c a l u = cond-true (leb 1 a && leb a c) 1 0 (and_from _ _ (le-leb 1 a l) (le-leb a c u))

pub within_none : (c a : ℕ) → (a ≡ 0) ⊎ (c < a) → within c a ≡ 0
within_none c a (inl e) = cond-false (leb 1 a && leb a c) 1 0 (and_left _ _ (lt-leb 1 a (omega arith)))
within_none c a (inr l) = cond-false (leb 1 a && leb a c) 1 0 (and_right _ _ (lt-leb a c l))

-- in range or not
pub in_range : (c a : ℕ) → ((1 ≤ a) × (a ≤ c)) ⊎ ((a ≡ 0) ⊎ (c < a))
in_range c a =
    elim (cases_eq a 0) [
      | inl e ↦ inr (inl e)
      | inr n ↦ elim (cases_lt c a) [ inl l ↦ inr (inr l) | inr l ↦ inl (omega arith, l) ]
    ]

pub order_once : (c : ℕ) (o : List ℕ) → IsOrder c o → (a : ℕ) → occurs o a ≤ 1
order_once c o h a =
    elim (in_range c a) [
      | inl r ↦ omega (arith, h a, within_one c a r.0 r.1)
      | inr r ↦ omega (arith, h a, within_none c a r)
    ]

pub order_within : (c : ℕ) (o : List ℕ) → IsOrder c o → IsWithin c o
order_within c o h a k =
    elim (in_range c a) [
      | inl r ↦ r
      | inr r ↦ absurd (omega (arith, h a, within_none c a r, occurs_from_has o a k))
    ]

pub order_has : (c : ℕ) (o : List ℕ) → IsOrder c o → (a : ℕ) → 1 ≤ a → a ≤ c → IsTrue (has o a)
order_has c o h a l u = has_from_occurs o a (omega (arith, h a, within_one c a l u))

-- the sum over 1 to n
abbrev sum_to : ℕ → (ℕ → ℕ) → ℕ
sum_to zero f = 0
sum_to (suc n) f = f (suc n) + sum_to n f

sum_to-le : (n : ℕ) (f g : ℕ → ℕ) → ((a : ℕ) → f a ≤ g a) → sum_to n f ≤ sum_to n g
sum_to-le zero f g h = omega arith
sum_to-le (suc n) f g h = omega (arith, h (suc n), sum_to-le n f g h)

-- sums of which neither is less have the same summands, if no summand of the one is more
sum_to-same : (n : ℕ) (f g : ℕ → ℕ) → ((a : ℕ) → f a ≤ g a) → sum_to n g ≤ sum_to n f → (a : ℕ) → 1 ≤ a → a ≤ n → f a ≡ g a
sum_to-same zero f g h s a l u = absurd (omega arith)
sum_to-same (suc n) f g h s a l u =
    elim (cases_eq a (suc n)) [
      | inl e ↦ rw e (omega (arith, h (suc n), sum_to-le n f g h))
      | inr d ↦ sum_to-same n f g h (omega (arith, h (suc n))) a l (omega arith)
    ]

sum_to-ones : (n : ℕ) (f : ℕ → ℕ) → ((a : ℕ) → 1 ≤ a → a ≤ n → f a ≡ 1) → sum_to n f ≡ n
sum_to-ones zero f h = refl
sum_to-ones (suc n) f h = omega (arith, h (suc n) (omega arith) (omega arith), sum_to-ones n f (λ a l u. h a l (omega arith)))

within-step : (n x : ℕ) → cond {A = ℕ} (eqb x (suc n)) 1 0 + within n x ≡ within (suc n) x
within-step n x =
    elim (cases_eq x (suc n)) [
      | inl e ↦ omega (arith, cond-true {A = ℕ} (eqb x (suc n)) 1 0 (eq-eqb x (suc n) e), within_none n x (inr (omega arith)), within_one (suc n) x (omega arith) (omega arith))
      | inr d ↦
          let other : cond {A = ℕ} (eqb x (suc n)) 1 0 ≡ 0 = cond-false {A = ℕ} (eqb x (suc n)) 1 0 (ne_eqb x (suc n) d) in
          elim (in_range n x) [
            | inl r ↦ omega (arith, other, within_one n x r.0 r.1, within_one (suc n) x r.0 (omega (arith, r.1)))
            | inr r ↦ omega (arith, other, within_none n x r, within_none (suc n) x (further d r))
          ]
    ]
  where
    further : x ≢ suc n → (x ≡ 0) ⊎ (n < x) → (x ≡ 0) ⊎ (suc n < x)
    further d (inl e) = inl e
    further d (inr l) = inr (omega arith)

total-nil : (n : ℕ) → sum_to n (occurs []) ≡ 0
total-nil zero = refl
total-nil (suc n) = omega (arith, total-nil n)

total-cons : (n x : ℕ) (xs : List ℕ) → sum_to n (occurs (x ∷ xs)) ≡ within n x + sum_to n (occurs xs)
total-cons zero x xs = omega (arith, elim (in_range 0 x) as (λ _. within 0 x ≡ 0) [ inl r ↦ absurd (omega (arith, r.0, r.1)) | inr r ↦ within_none 0 x r ])
total-cons (suc n) x xs = omega (arith, within-step n x, total-cons n x xs)

-- the numbers of 1 to n in a list of such numbers add up to its length
total_length : (n : ℕ) (xs : List ℕ) → IsWithin n xs → sum_to n (occurs xs) ≡ length xs
total_length n [] h = total-nil n
total_length n (x ∷ xs) h =
    let r = h x (has_head x xs) in
    omega (arith, total-cons n x xs, within_one n x r.0 r.1, total_length n xs (λ a k. h a (has_tail x a xs k)))

-- an order of 1 to c has c columns
pub order_length : (c : ℕ) (o : List ℕ) → IsOrder c o → length o ≡ c
order_length c o h =
    sym (total_length c o (order_within c o h)) ∙ sum_to-ones c (occurs o) (λ a l u. h a ∙ within_one c a l u)

-- an order is one of as many columns as it has
pub order_own : (c : ℕ) (o : List ℕ) → IsOrder c o → IsOrder (length o) o
order_own c o h = subst (λ n. IsOrder n o) (sym (order_length c o h)) h

-- a list is an order of one number of columns at most
pub order_unique : (c d : ℕ) (o : List ℕ) → IsOrder c o → IsOrder d o → c ≡ d
order_unique c d o h k = sym (order_length c o h) ∙ order_length d o k

module _ (c : ℕ) (xs : List ℕ) (inside : IsWithin c xs) where
  outside : (a : ℕ) → (a ≡ 0) ⊎ (c < a) → occurs xs a ≡ 0
  outside a r =
      elim (cases_Bool (has xs a)) [
        | inl t ↦ absurd (out r (inside a t))
        | inr f ↦ omega (arith, none f)
      ]
    where
      out : (a ≡ 0) ⊎ (c < a) → (1 ≤ a) × (a ≤ c) → ⊥
      out (inl e) k = omega (arith, k.0)
      out (inr l) k = omega (arith, k.1)

      none : IsFalse (has xs a) → occurs xs a ≤ 0
      none f = elim (cases_eq (occurs xs a) 0) [ inl e ↦ omega arith | inr n ↦ absurd (both_ways (has xs a) f (has_from_occurs xs a (omega arith))) ]

  -- c different columns of 1 to c are an order of them
  pub order_from : ((a : ℕ) → occurs xs a ≤ 1) → length xs ≡ c → IsOrder c xs
  order_from once long a =
      elim (in_range c a) [
        | inl r ↦
            let all : (b : ℕ) → 1 ≤ b → b ≤ c → occurs xs b ≡ 1 =
            sum_to-same c (occurs xs) (λ _. 1) once (omega (arith, total_length c xs inside, sum_to-ones c (λ _. 1) (λ _ _ _. refl))) in
            omega (arith, all a r.0 r.1, within_one c a r.0 r.1)
        | inr r ↦ omega (arith, outside a r, within_none c a r)
      ]

  module _ (ys : List ℕ) (inside' : IsWithin c ys) (less : (a : ℕ) → occurs xs a ≤ occurs ys a) where
    -- a list that has each column at most as often as another is no longer
    pub length_le : length xs ≤ length ys
    length_le = omega (arith, total_length c xs inside, total_length c ys inside', sum_to-le c (occurs xs) (occurs ys) less)

    -- and where it is no shorter it has each column as often
    pub same_counts : length ys ≤ length xs → (a : ℕ) → 1 ≤ a → a ≤ c → occurs xs a ≡ occurs ys a
    same_counts long = sum_to-same c (occurs xs) (occurs ys) less (omega (arith, total_length c xs inside, total_length c ys inside'))
