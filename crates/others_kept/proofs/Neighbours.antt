-- An order has at most one pair of neighbours fewer in a row than the row has columns, and exactly so many where it keeps the row.
use Rattle.std.proofs.Common.{◌≡◌, ◌∙◌, ◌↔◌, ℕ, zero, suc, ◌+◌, ◌-◌, ◌<◌, ◌≤◌, true, false, cond, ◌||◌, eqb, List, [], ◌∷◌, length, get_or, IsTrue, IsFalse, refl, sym, ap, subst, inl, inr, arith, eq-eqb}
use Rattle.std.proofs.lemmas.Bool.{cases_eq, cases_Bool, cond-true, cond-false, ne_eqb, both_ways}
use Rattle.column_order.specs.Orders.{has, occurs, IsOrder, Keeps}
use Rattle.column_order.proofs.Counts.{within_one}
use Rattle.row_model.specs.Rows.{Ascends, IsRow}
use Rattle.row_model.proofs.Ascending.{lacks_low}
use Rattle.others_kept.specs.Counts.{sum_below, both, joins}
use Rattle.others_kept.proofs.Sums.{sum_below-first}

-- how many of the list's numbers the row has
abbrev inside : List ℕ → List ℕ → ℕ
inside [] row = 0
inside (x ∷ o) row = cond (has row x) 1 0 + inside o row

-- the pairs of neighbours in the row, one after another
abbrev near : List ℕ → List ℕ → ℕ
near [] row = 0
near (x ∷ []) row = 0
near (x ∷ y ∷ o) row = both row x y + near (y ∷ o) row

joins-near : (o row : List ℕ) → joins o row ≡ near o row
joins-near [] row = refl
joins-near (x ∷ []) row = refl
joins-near (x ∷ y ∷ o) row =
    let e : length (x ∷ y ∷ o) - 1 ≡ suc (length o) = omega arith in
    let f : ℕ → ℕ = λ i. both row (get_or (x ∷ y ∷ o) i 0) (get_or (x ∷ y ∷ o) (suc i) 0) in
    let d : length (y ∷ o) - 1 ≡ length o = omega arith in
    ap (λ n. sum_below n f) e ∙ sum_below-first (length o) f ∙ ap (λ s. both row x y + s) (ap (λ n. sum_below n (λ i. f (suc i))) (sym d) ∙ joins-near (y ∷ o) row)

both_yes : (row : List ℕ) (x y : ℕ) → IsTrue (has row x) → IsTrue (has row y) → both row x y ≡ 1
both_yes row x y h k = rw (h, k) refl

both_first : (row : List ℕ) (x y : ℕ) → IsFalse (has row x) → both row x y ≡ 0
both_first row x y h = rw h refl

both_second : (row : List ℕ) (x y : ℕ) → IsTrue (has row x) → IsFalse (has row y) → both row x y ≡ 0
both_second row x y h k = rw (h, k) refl

inside_yes : (x : ℕ) (o row : List ℕ) → IsTrue (has row x) → inside (x ∷ o) row ≡ 1 + inside o row
inside_yes x o row h = rw h refl

inside_no : (x : ℕ) (o row : List ℕ) → IsFalse (has row x) → inside (x ∷ o) row ≡ inside o row
inside_no x o row h = rw h (omega arith)

-- at most one fewer
near_few : (o row : List ℕ) → near o row ≤ inside o row - 1
near_few [] row = omega arith
near_few (x ∷ []) row = omega arith
near_few (x ∷ y ∷ o) row =
    let less = near_few (y ∷ o) row in
    elim (cases_Bool (has row x)) [
      | inl p ↦ elim (cases_Bool (has row y)) [
        | inl q ↦ omega (arith, less, both_yes row x y p q, inside_yes x (y ∷ o) row p, inside_yes y o row q)
        | inr q ↦ omega (arith, less, both_second row x y p q, inside_yes x (y ∷ o) row p)
      ]
      | inr p ↦ omega (arith, less, both_first row x y p, inside_no x (y ∷ o) row p)
    ]

-- where the row has a number of the list
inside_at : (o row : List ℕ) (k : ℕ) → k < length o → IsTrue (has row (get_or o k 0)) → 1 ≤ inside o row
inside_at [] row k l h = absurd (omega (arith, l))
inside_at (x ∷ o) row zero l h = omega (arith, inside_yes x o row h)
inside_at (x ∷ o) row (suc k) l h = omega (arith, inside_at o row k (omega arith) h)

at_inside : (o row : List ℕ) → 1 ≤ inside o row → (k : ℕ) × (k < length o) × IsTrue (has row (get_or o k 0))
at_inside [] row h = absurd (omega (arith, h))
at_inside (x ∷ o) row h =
    elim (cases_Bool (has row x)) [
      | inl p ↦ (0, omega arith, p)
      | inr p ↦ let r = at_inside o row (omega (arith, h, inside_no x o row p)) in (suc r.0, omega (arith, r.1), r.2)
    ]

keeps_tail : (x : ℕ) (o row : List ℕ) → Keeps (x ∷ o) row → Keeps o row
keeps_tail x o row h i j k ij jk l = h (suc i) (suc j) (suc k) (omega arith) (omega arith) (omega arith)

-- one fewer where the list keeps the row
near_kept : (o row : List ℕ) → Keeps o row → near o row ≡ inside o row - 1
near_kept [] row h = refl
near_kept (x ∷ []) row h = elim (cases_Bool (has row x)) [ inl p ↦ omega (arith, inside_yes x [] row p) | inr p ↦ omega (arith, inside_no x [] row p) ]
near_kept (x ∷ y ∷ o) row h =
    let rest = near_kept (y ∷ o) row (keeps_tail x (y ∷ o) row h) in
    elim (cases_Bool (has row x)) [
      | inl p ↦ elim (cases_Bool (has row y)) [
        | inl q ↦ omega (arith, rest, both_yes row x y p q, inside_yes x (y ∷ o) row p, inside_yes y o row q)
        | inr q ↦
            let none : inside (y ∷ o) row ≡ 0 = elim (cases_eq (inside (y ∷ o) row) 0) [
              | inl e ↦ e
              | inr n ↦
                  let r = at_inside o row (omega (arith, n, inside_no y o row q)) in
                  absurd (both_ways (has row y) q (h 0 1 (suc (suc r.0)) (omega arith) (omega arith) (omega (arith, r.1)) p r.2))
            ] in
            omega (arith, rest, none, both_second row x y p q, inside_yes x (y ∷ o) row p)
      ]
      | inr p ↦ omega (arith, rest, both_first row x y p, inside_no x (y ∷ o) row p)
    ]

-- and only there
kept_near : (o row : List ℕ) → near o row ≡ inside o row - 1 → Keeps o row
kept_near [] row e i j k ij jk l = absurd (omega (arith, l))
kept_near (x ∷ []) row e i j k ij jk l = absurd (omega (arith, ij, jk, l))
kept_near (x ∷ y ∷ o) row e i j k ij jk l =
    let all : Keeps (x ∷ y ∷ o) row = elim (cases_Bool (has row x)) [
      | inl p ↦ elim (cases_Bool (has row y)) [
        | inl q ↦ from_both p q (kept_near (y ∷ o) row (omega (arith, e, both_yes row x y p q, inside_yes x (y ∷ o) row p, inside_yes y o row q)))
        | inr q ↦
            let none : inside (y ∷ o) row ≡ 0 = omega (arith, e, near_few (y ∷ o) row, both_second row x y p q, inside_yes x (y ∷ o) row p) in
            alone none
      ]
      | inr p ↦ from_tail p (kept_near (y ∷ o) row (omega (arith, e, both_first row x y p, inside_no x (y ∷ o) row p)))
    ] in
    all i j k ij jk l
  where
    from_both : IsTrue (has row x) → IsTrue (has row y) → Keeps (y ∷ o) row → Keeps (x ∷ y ∷ o) row
    from_both p q h i zero k ij jk l a b = absurd (omega (arith, ij))
    from_both p q h zero (suc zero) k ij jk l a b = q
    from_both p q h zero (suc (suc j)) zero ij jk l a b = absurd (omega (arith, jk))
    from_both p q h zero (suc (suc j)) (suc k) ij jk l a b = h 0 (suc j) k (omega arith) (omega arith) (omega arith) q b
    from_both p q h (suc i) (suc j) zero ij jk l a b = absurd (omega (arith, jk))
    from_both p q h (suc i) (suc j) (suc k) ij jk l a b = h i j k (omega arith) (omega arith) (omega arith) a b

    alone : inside (y ∷ o) row ≡ 0 → Keeps (x ∷ y ∷ o) row
    alone none i j zero ij jk l a b = absurd (omega (arith, jk))
    alone none i j (suc k) ij jk l a b = absurd (omega (arith, none, inside_at (y ∷ o) row k (omega arith) b))

    from_tail : IsFalse (has row x) → Keeps (y ∷ o) row → Keeps (x ∷ y ∷ o) row
    from_tail p h zero j k ij jk l a b = absurd (both_ways (has row x) p a)
    from_tail p h (suc i) zero k ij jk l a b = absurd (omega (arith, ij))
    from_tail p h (suc i) (suc j) zero ij jk l a b = absurd (omega (arith, jk))
    from_tail p h (suc i) (suc j) (suc k) ij jk l a b = h i j k (omega arith) (omega arith) (omega arith) a b

inside-nil : (o : List ℕ) → inside o [] ≡ 0
inside-nil [] = refl
inside-nil (x ∷ o) = omega (arith, inside-nil o)

-- a number that the row lacks counts as often as it stands in the list
inside-cons : (x : ℕ) (o row : List ℕ) → has row x ≡ false → inside o (x ∷ row) ≡ occurs o x + inside o row
inside-cons x [] row h = refl
inside-cons x (y ∷ o) row h =
    elim (cases_eq x y) [
      | inl e ↦
          let here : has (x ∷ row) y ≡ true = ap (λ b. b || has row y) (eq-eqb x y e) in
          let there : has row y ≡ false = subst (λ z. has row z ≡ false) e h in
          omega (arith, inside-cons x o row h, inside_yes y o (x ∷ row) here, inside_no y o row there, cond-true {A = ℕ} (eqb y x) 1 0 (eq-eqb y x (sym e)))
      | inr d ↦
          let same : has (x ∷ row) y ≡ has row y = ap (λ b. b || has row y) (ne_eqb x y d) in
          let counts : cond {A = ℕ} (has (x ∷ row) y) 1 0 ≡ cond {A = ℕ} (has row y) 1 0 = ap (λ b. cond {A = ℕ} b 1 0) same in
          omega (arith, inside-cons x o row h, counts, cond-false {A = ℕ} (eqb y x) 1 0 (ne_eqb y x (λ e. d (sym e))))
    ]

module _ (c : ℕ) (o : List ℕ) (order : IsOrder c o) where
  -- an order has all columns of a row
  inside_row : (low : ℕ) (row : List ℕ) → Ascends c low row → inside o row ≡ length row
  inside_row low [] h = inside-nil o
  inside_row low (x ∷ row) h =
      let once : occurs o x ≡ 1 = order x ∙ within_one c x (omega (arith, h.0)) h.1 in
      omega (arith, inside-cons x o row (lacks_low c x x row h.2 (omega arith)), once, inside_row x row h.2)

  module _ (row : List ℕ) (is : IsRow c row) where
    pub joins_few : joins o row ≤ length row - 1
    joins_few = omega (arith, joins-near o row, near_few o row, inside_row 0 row is)

    pub joins_kept : (joins o row ≡ length row - 1) ↔ Keeps o row
    joins_kept = (
      λ e. kept_near o row (omega (arith, e, joins-near o row, inside_row 0 row is)),
      λ k. omega (arith, near_kept o row k, joins-near o row, inside_row 0 row is),
    )
