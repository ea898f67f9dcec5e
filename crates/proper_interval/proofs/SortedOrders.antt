-- The numbers 1 to n in the order of a key.
use Rattle.std.proofs.Common.{◌≡◌, ℕ, zero, suc, ◌<◌, ◌≤◌, true, false, if◌then◌else◌, nat_le, List, [], ◌∷◌, length, get_or, refl, sym, ap, inl, inr, arith, eq-eqb}
use Rattle.std.proofs.lemmas.Bool.{cases_eq, ne_eqb, leb-true, leb-false}
use Rattle.column_order.specs.Orders.{occurs, IsOrder}
use Rattle.column_order.proofs.Counts.{within_one, within_none, in_range}

module _ (key : ℕ → ℕ) where
  -- a list with one number more, before the first whose key is no less
  abbrev insert_by : ℕ → List ℕ → List ℕ
  insert_by v [] = v ∷ []
  insert_by v (x ∷ xs) = if nat_le (key v) (key x) then v ∷ x ∷ xs else x ∷ insert_by v xs

  -- the numbers 1 to n by their keys
  abbrev pub sorted_to : ℕ → List ℕ
  sorted_to zero = []
  sorted_to (suc n) = insert_by (suc n) (sorted_to n)

  -- the keys do not fall
  abbrev Rises : ℕ → List ℕ → Type 0
  Rises low [] = Unit {0}
  Rises low (x ∷ xs) = (low ≤ key x) × Rises (key x) xs

  occurs-insert : (v : ℕ) (xs : List ℕ) (a : ℕ) → occurs (insert_by v xs) a ≡ occurs (v ∷ xs) a
  occurs-insert v [] a = refl
  occurs-insert v (x ∷ xs) a =
      elim (nat_le (key v) (key x)) as (λ b. occurs (if b then v ∷ x ∷ xs else x ∷ insert_by v xs) a ≡ occurs (v ∷ x ∷ xs) a) [
        | true ↦ refl
        | false ↦ omega (arith, occurs-insert v xs a)
      ]

  pub sorted_order : (n : ℕ) → IsOrder n (sorted_to n)
  sorted_order zero a = elim (in_range zero a) [ inl r ↦ absurd (omega (arith, r.0, r.1)) | inr out ↦ sym (within_none zero a out) ]
  sorted_order (suc n) a =
      let more = occurs-insert (suc n) (sorted_to n) a in
      let before = sorted_order n a in
      elim (in_range (suc n) a) [
        | inl r ↦ elim (cases_eq (suc n) a) [
          | inl e ↦ omega (arith, more, before, ap {B = ℕ} (λ b. if b then 1 else 0) (eq-eqb (suc n) a e), within_none n a (inr (omega (arith, e))), within_one (suc n) a r.0 r.1)
          | inr ne ↦ omega (arith, more, before, ap {B = ℕ} (λ b. if b then 1 else 0) (ne_eqb (suc n) a ne), within_one n a r.0 (omega (arith, r.1, ne)), within_one (suc n) a r.0 r.1)
        ]
        | inr out ↦
            let ne : suc n ≡ a → ⊥ = λ e. elim out [ inl z ↦ omega (arith, z, e) | inr l ↦ omega (arith, l, e) ] in
            omega (
              arith,
              more,
              before,
              ap {B = ℕ} (λ b. if b then 1 else 0) (ne_eqb (suc n) a ne),
              within_none n a (elim out [ inl z ↦ inl z | inr l ↦ inr (omega (arith, l)) ]),
              within_none (suc n) a out,
            )
      ]

  rises-insert : (low v : ℕ) (xs : List ℕ) → low ≤ key v → Rises low xs → Rises low (insert_by v xs)
  rises-insert low v [] l h = (l, tt)
  rises-insert low v (x ∷ xs) l h =
      (elim (nat_le (key v) (key x)) as (λ b. nat_le (key v) (key x) ≡ b → Rises low (if b then v ∷ x ∷ xs else x ∷ insert_by v xs)) [
        | true ↦ λ e. (l, (leb-true (key v) (key x) e, h.1))
        | false ↦ λ e. (h.0, rises-insert (key x) v xs (omega (arith, leb-false (key v) (key x) e)) h.1)
      ]) refl

  sorted_rises : (n : ℕ) → Rises 0 (sorted_to n)
  sorted_rises zero = tt
  sorted_rises (suc n) = rises-insert 0 (suc n) (sorted_to n) (omega arith) (sorted_rises n)

  rises_at : (low : ℕ) (xs : List ℕ) (j : ℕ) → Rises low xs → j < length xs → low ≤ key (get_or xs j 0)
  rises_at low [] j h l = absurd (omega arith)
  rises_at low (x ∷ xs) zero h l = h.0
  rises_at low (x ∷ xs) (suc j) h l = let next = rises_at (key x) xs j h.1 (omega arith) in omega (arith, h.0, next)

  rises_between : (low : ℕ) (xs : List ℕ) (i j : ℕ) → Rises low xs → i < j → j < length xs → key (get_or xs i 0) ≤ key (get_or xs j 0)
  rises_between low [] i j h ij l = absurd (omega arith)
  rises_between low (x ∷ xs) i zero h ij l = absurd (omega arith)
  rises_between low (x ∷ xs) zero (suc j) h ij l = rises_at (key x) xs j h.1 (omega arith)
  rises_between low (x ∷ xs) (suc i) (suc j) h ij l = rises_between (key x) xs i j h.1 (omega arith) (omega arith)

  pub sorted_between : (n i j : ℕ) → i < j → j < length (sorted_to n) → key (get_or (sorted_to n) i 0) ≤ key (get_or (sorted_to n) j 0)
  sorted_between n i j ij l = rises_between 0 (sorted_to n) i j (sorted_rises n) ij l
