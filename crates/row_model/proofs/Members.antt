-- The columns of a row.
use Rattle.std.proofs.Common.{◌≡◌, ℕ, suc, zero, ◌<◌, ◌↔◌, Bool, true, false, List, [], ◌∷◌, length, get_or, IsTrue, sym, refl, arith, inl, inr}
use Rattle.std.specs.List.{Contains}
use Rattle.column_order.specs.Orders.{has}
use Rattle.column_order.proofs.Lists.{has_cases, has_head, has_tail}

-- a number that the list contains is one that it has
pub Contains-has : (xs : List ℕ) (a k : ℕ) → k < length xs → get_or xs k a ≡ a → IsTrue (has xs a)
Contains-has [] a k lt e = absurd (omega arith)
Contains-has (x ∷ xs) a zero lt e = let is : x ≡ a = e in rw (← is) (has_head x xs)
Contains-has (x ∷ xs) a (suc k) lt e = has_tail x a xs (Contains-has xs a k (omega arith) e)

pub has-Contains : (xs : List ℕ) (a : ℕ) → IsTrue (has xs a) → Contains xs a
has-Contains [] a h = absurd (cc)
has-Contains (x ∷ xs) a h =
    elim (has_cases x a xs h) [
      | inl e ↦ (zero, omega arith, e)
      | inr t ↦ let found = has-Contains xs a t in (suc found.0, omega (arith, found.1), found.2)
    ]

-- a test that tells the members of a list is `has`
pub is_has : (found : Bool) (xs : List ℕ) (a : ℕ) → IsTrue found ↔ Contains xs a → found ≡ has xs a
is_has true xs a h = let place = h.0 refl in sym (Contains-has xs a place.0 place.1 place.2)
is_has false xs a h = lacks (has xs a) refl
  where
    lacks : (b : Bool) → has xs a ≡ b → false ≡ b
    lacks true e = h.1 (has-Contains xs a e)
    lacks false e = refl
