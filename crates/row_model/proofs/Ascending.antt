-- Ascending rows: each of their columns stands in them once, and they are in range.
use Rattle.std.proofs.Common.{◌≡◌, ℕ, ◌<◌, ◌≤◌, false, eqb, List, [], ◌∷◌, ◌++◌, length, ◌-◌, IsTrue, refl, inl, inr, arith, eq-eqb}
use Rattle.std.proofs.lemmas.Bool.{cond-true, cond-false, cases_eq, ne_eqb, both_ways}
use Rattle.column_order.specs.Orders.{has, occurs, IsWithin}
use Rattle.column_order.proofs.Lists.{has_cases, lacks_from_occurs}
use Rattle.row_model.specs.Rows.{Ascends, IsRow}

-- a row above a column lacks it
pub none_below : (c low a : ℕ) (row : List ℕ) → Ascends c low row → a ≤ low → occurs row a ≡ 0
none_below c low a [] h l = refl
none_below c low a (x ∷ row) h l =
    omega (arith, none_below c x a row h.2 (omega (arith, h.0)), cond-false {A = ℕ} (eqb x a) 1 0 (ne_eqb x a (λ e. absurd (omega (arith, e, h.0)))))

-- an ascending row has each column at most once
pub ascends_once : (c low a : ℕ) (row : List ℕ) → Ascends c low row → occurs row a ≤ 1
ascends_once c low a [] h = omega arith
ascends_once c low a (x ∷ row) h =
    elim (cases_eq x a) [
      | inl e ↦ omega (arith, none_below c x a row h.2 (omega (arith, e)), cond-true {A = ℕ} (eqb x a) 1 0 (eq-eqb x a e))
      | inr n ↦ omega (arith, ascends_once c x a row h.2, cond-false {A = ℕ} (eqb x a) 1 0 (ne_eqb x a n))
    ]

-- its columns are above the low end and at most c
pub ascends_within : (c low a : ℕ) (row : List ℕ) → Ascends c low row → IsTrue (has row a) → (low < a) × (a ≤ c)
ascends_within c low a [] h k = absurd (both_ways _ refl k)
ascends_within c low a (x ∷ row) h k =
    elim (has_cases x a row k) [
      | inl e ↦ (omega (arith, h.0), omega (arith, h.1))
      | inr m ↦ let r = ascends_within c x a row h.2 m in (omega (arith, h.0, r.0), r.1)
    ]

-- a row above a column also is above every lower one
pub ascends_lower : (c low high : ℕ) (row : List ℕ) → low ≤ high → Ascends c high row → Ascends c low row
ascends_lower c low high [] l h = tt
ascends_lower c low high (x ∷ row) l h = (omega (arith, l, h.0), h.1, h.2)

-- a row is one over more columns
pub ascends_wider : (c d low : ℕ) (row : List ℕ) → c ≤ d → Ascends c low row → Ascends d low row
ascends_wider c d low [] l h = tt
ascends_wider c d low (x ∷ row) l h = (h.0, omega (arith, l, h.1), ascends_wider c d x row l h.2)

-- a column above all those of a row may stand after them
pub ascends_longer : (c low column : ℕ) (row : List ℕ) → low ≤ c → c < column → Ascends c low row → Ascends column low (row ++ column ∷ [])
ascends_longer c low column [] l lt h = (omega arith, omega arith, tt)
ascends_longer c low column (x ∷ row) l lt h = (h.0, omega (arith, h.1), ascends_longer c x column row h.1 lt h.2)

pub lacks_low : (c low a : ℕ) (row : List ℕ) → Ascends c low row → a ≤ low → has row a ≡ false
lacks_low c low a row h l = lacks_from_occurs row a (none_below c low a row h l)

pub row_once : (c : ℕ) (row : List ℕ) → IsRow c row → (a : ℕ) → occurs row a ≤ 1
row_once c row h a = ascends_once c 0 a row h

pub row_within : (c : ℕ) (row : List ℕ) → IsRow c row → IsWithin c row
row_within c row h a k = let r = ascends_within c 0 a row h k in (omega (arith, r.0), r.1)

-- an ascending row has at most one column for each number from its first bound to c
pub ascends_few : (c low : ℕ) (row : List ℕ) → Ascends c low row → length row ≤ c - low
ascends_few c low [] h = omega arith
ascends_few c low (x ∷ row) h = omega (arith, h.0, h.1, ascends_few c x row h.2)
