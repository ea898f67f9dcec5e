-- Membership, counts and places.
use Rattle.std.proofs.Common.{◌≡◌, ◌≢◌, ◌⊎◌, ◌∙◌, ℕ, zero, suc, ◌+◌, ◌<◌, ◌≤◌, true, false, cond, ◌||◌, eqb, ltb, List, [], ◌∷◌, ◌++◌, length, get_or, IsTrue, IsFalse, refl, sym, ap, inl, inr, arith, sum_by, eq-eqb, eqb-true}
use Rattle.std.proofs.lemmas.Bool.{or_cases, or_left, or_right, ne_eqb, both_ways, cases_eq, lt-ltb, le-ltb, ltb-true}
use Rattle.std.proofs.lemmas.List.Sums.{sum_by-cons}
use Rattle.std.specs.List.{concat}
use Rattle.column_order.specs.Orders.{has, occurs, place}

-- membership in a list with a head
pub has_cases : (x a : ℕ) (xs : List ℕ) → IsTrue (has (x ∷ xs) a) → (x ≡ a) ⊎ IsTrue (has xs a)
has_cases x a xs h = elim (or_cases (eqb x a) (has xs a) h) [ inl e ↦ inl (eqb-true x a e) | inr t ↦ inr t ]

pub has_head : (x : ℕ) (xs : List ℕ) → IsTrue (has (x ∷ xs) x)
has_head x xs = or_left (eqb x x) (has xs x) (eq-eqb x x refl)

pub has_tail : (x a : ℕ) (xs : List ℕ) → IsTrue (has xs a) → IsTrue (has (x ∷ xs) a)
has_tail x a xs h = or_right (eqb x a) (has xs a) h

pub has-append : (xs ys : List ℕ) (a : ℕ) → has (xs ++ ys) a ≡ (has xs a || has ys a)
has-append [] ys a = refl
has-append (x ∷ xs) ys a =
    elim (eqb x a) as (λ b. (b || has (xs ++ ys) a) ≡ ((b || has xs a) || has ys a)) [ true ↦ refl | false ↦ has-append xs ys a ]

pub has_append_cases : (xs ys : List ℕ) (a : ℕ) → IsTrue (has (xs ++ ys) a) → IsTrue (has xs a) ⊎ IsTrue (has ys a)
has_append_cases xs ys a h = or_cases (has xs a) (has ys a) (sym (has-append xs ys a) ∙ h)

pub has_append_left : (xs ys : List ℕ) (a : ℕ) → IsTrue (has xs a) → IsTrue (has (xs ++ ys) a)
has_append_left xs ys a h = has-append xs ys a ∙ or_left (has xs a) (has ys a) h

pub has_append_right : (xs ys : List ℕ) (a : ℕ) → IsTrue (has ys a) → IsTrue (has (xs ++ ys) a)
has_append_right xs ys a h = has-append xs ys a ∙ or_right (has xs a) (has ys a) h

pub occurs-append : (xs ys : List ℕ) (a : ℕ) → occurs (xs ++ ys) a ≡ occurs xs a + occurs ys a
occurs-append [] ys a = omega arith
occurs-append (x ∷ xs) ys a = omega (arith, occurs-append xs ys a)

-- membership is a count above 0
pub has-occurs : (xs : List ℕ) (a : ℕ) → has xs a ≡ ltb 0 (occurs xs a)
has-occurs [] a = refl
has-occurs (x ∷ xs) a =
    elim (eqb x a) as (λ b. (b || has xs a) ≡ ltb 0 (cond b 1 0 + occurs xs a)) [
      | true ↦ sym (lt-ltb 0 (1 + occurs xs a) (omega arith))
      | false ↦ has-occurs xs a ∙ ap (ltb 0) (omega arith)
    ]

pub occurs_from_has : (xs : List ℕ) (a : ℕ) → IsTrue (has xs a) → 1 ≤ occurs xs a
occurs_from_has xs a h = ltb-true 0 (occurs xs a) (sym (has-occurs xs a) ∙ h)

pub has_from_occurs : (xs : List ℕ) (a : ℕ) → 1 ≤ occurs xs a → IsTrue (has xs a)
has_from_occurs xs a h = has-occurs xs a ∙ lt-ltb 0 (occurs xs a) h

pub lacks_from_occurs : (xs : List ℕ) (a : ℕ) → occurs xs a ≡ 0 → IsFalse (has xs a)
lacks_from_occurs xs a h = has-occurs xs a ∙ le-ltb 0 (occurs xs a) (omega arith)

-- a list that has the number as often as another has it where the other does
pub has_same : (xs ys : List ℕ) (a : ℕ) → occurs xs a ≡ occurs ys a → has xs a ≡ has ys a
has_same xs ys a e = has-occurs xs a ∙ ap (ltb 0) e ∙ sym (has-occurs ys a)

-- two lists in which the number stands once at most together: it does not stand in both
pub apart : (xs ys : List ℕ) (a : ℕ) → occurs (xs ++ ys) a ≤ 1 → IsTrue (has xs a) → IsFalse (has ys a)
apart xs ys a one h =
    lacks_from_occurs ys a (omega (arith, occurs-append xs ys a, occurs_from_has xs a h))

pub apart' : (xs ys : List ℕ) (a : ℕ) → occurs (xs ++ ys) a ≤ 1 → IsTrue (has ys a) → IsFalse (has xs a)
apart' xs ys a one h =
    lacks_from_occurs xs a (omega (arith, occurs-append xs ys a, occurs_from_has ys a h))

pub occurs-concat : (fs : List (List ℕ)) (a : ℕ) → occurs (concat fs) a ≡ sum_by (λ f. occurs f a) fs
occurs-concat [] a = refl
occurs-concat (f ∷ fs) a =
    occurs-append f (concat fs) a ∙
    ap (λ n. occurs f a + n) (occurs-concat fs a) ∙
    sym (sum_by-cons (λ g. occurs g a) f fs)

pub place_head : (x a : ℕ) (xs : List ℕ) → x ≡ a → place (x ∷ xs) a ≡ 0
place_head x a xs e = ap (λ b. cond b 0 (suc (place xs a))) (eq-eqb x a e)

pub place_tail : (x a : ℕ) (xs : List ℕ) → x ≢ a → place (x ∷ xs) a ≡ suc (place xs a)
place_tail x a xs n = ap (λ b. cond b 0 (suc (place xs a))) (ne_eqb x a n)

-- no two numbers have one place
pub place-inj : (o : List ℕ) (a b : ℕ) → place o a ≡ place o b → a ≡ b
place-inj [] a b e = e
place-inj (x ∷ xs) a b e =
    elim (cases_eq x a) [
      | inl p ↦ elim (cases_eq x b) [
        | inl q ↦ sym p ∙ q
        | inr q ↦ absurd (omega (arith, place_head x a xs p, place_tail x b xs q, e))
      ]
      | inr p ↦ elim (cases_eq x b) [
        | inl q ↦ absurd (omega (arith, place_tail x a xs p, place_head x b xs q, e))
        | inr q ↦ place-inj xs a b (omega (arith, place_tail x a xs p, place_tail x b xs q, e))
      ]
    ]

-- at its place a number of the list stands
pub at_place : (o : List ℕ) (a : ℕ) → IsTrue (has o a) → (place o a < length o) × (get_or o (place o a) 0 ≡ a)
at_place [] a h = absurd (both_ways false refl h)
at_place (x ∷ xs) a h =
    elim (cases_eq x a) [
      | inl e ↦
          rw (place_head x a xs e) (omega arith, e)
      | inr n ↦
          let t : IsTrue (has xs a) = elim (has_cases x a xs h) [ inl e ↦ absurd (n e) | inr t ↦ t ] in
          let r : (place xs a < length xs) × (get_or xs (place xs a) 0 ≡ a) = at_place xs a t in
          rw (place_tail x a xs n) (omega (arith, r.0), r.1)
    ]

-- at each position of a list stands a number that the list has
pub has_at : (o : List ℕ) (i : ℕ) → i < length o → IsTrue (has o (get_or o i 0))
has_at [] i h = absurd (omega arith)
has_at (x ∷ xs) zero h = has_head x xs
has_at (x ∷ xs) (suc i) h = has_tail x (get_or xs i 0) xs (has_at xs i (omega arith))

-- where no number stands twice, the number at a position has that place
pub place_at : (o : List ℕ) → ((a : ℕ) → occurs o a ≤ 1) → (i : ℕ) → i < length o → place o (get_or o i 0) ≡ i
place_at [] once i h = absurd (omega arith)
place_at (x ∷ xs) once zero h = place_head x x xs refl
place_at (x ∷ xs) once (suc i) h =
    place_tail x (get_or xs i 0) xs (another i (omega arith)) ∙ ap suc (place_at xs (λ a. rest a (once a)) i (omega arith))
  where
    rest : (a : ℕ) → occurs (x ∷ xs) a ≤ 1 → occurs xs a ≤ 1
    rest a k = omega arith

    another : (i : ℕ) → i < length xs → x ≢ get_or xs i 0
    another i k e =
        let h : occurs (x ∷ xs) (get_or xs i 0) ≤ 1 = once (get_or xs i 0) in
        let one : cond {A = ℕ} (eqb x (get_or xs i 0)) 1 0 ≡ 1 = ap (λ b. cond {A = ℕ} b 1 0) (eq-eqb x (get_or xs i 0) e) in
        omega (arith, occurs_from_has xs (get_or xs i 0) (has_at xs i k))
