-- Items of lists by their positions.
use Rattle.std.proofs.Common.{◌≡◌, ◌⊎◌, ◌∙◌, ℕ, zero, suc, ◌+◌, ◌<◌, ◌≤◌, List, [], ◌∷◌, ◌++◌, length, take, drop, slice_get, Option, Some, None, IsTrue, refl, sym, ap, subst, inl, inr, arith}
use Rattle.std.proofs.lemmas.Option.{none-some, same_Some, slice_get-get_or, slice_get_within}
use Rattle.column_order.specs.Orders.{has, place}
use Rattle.column_order.proofs.Lists.{has_head, has_tail, at_place}

-- an item of a list that was pushed to is an old one, or the last one
pub item_pushed : {A : Type 0} (xs : List A) (x : A) (i : ℕ) (y : A) → slice_get (xs ++ x ∷ []) i ≡ Some y → (slice_get xs i ≡ Some y) ⊎ ((i ≡ length xs) × (x ≡ y))
item_pushed [] x zero y e = inr (refl, same_Some x y e)
item_pushed [] x (suc i) y e = absurd (none-some y e)
item_pushed (z ∷ xs) x zero y e = inl e
item_pushed (z ∷ xs) x (suc i) y e = elim (item_pushed xs x i y e) [ inl t ↦ inl t | inr t ↦ inr (ap suc t.0, t.1) ]

pub item_last : {A : Type 0} (xs : List A) (x : A) → slice_get (xs ++ x ∷ []) (length xs) ≡ Some x
item_last [] x = refl
item_last (z ∷ xs) x = item_last xs x

pub item_append : {A : Type 0} (xs ys : List A) (i : ℕ) (y : A) → slice_get xs i ≡ Some y → slice_get (xs ++ ys) i ≡ Some y
item_append [] ys i y e = absurd (none-some y e)
item_append (z ∷ xs) ys zero y e = e
item_append (z ∷ xs) ys (suc i) y e = item_append xs ys i y e

-- an item of a front of a list
pub item_taken : {A : Type 0} (n : ℕ) (xs : List A) (i : ℕ) (y : A) → slice_get (take n xs) i ≡ Some y → (i < n) × (slice_get xs i ≡ Some y)
item_taken zero xs i y e = absurd (none-some y e)
item_taken (suc n) [] i y e = absurd (none-some y e)
item_taken (suc n) (z ∷ xs) zero y e = (omega arith, e)
item_taken (suc n) (z ∷ xs) (suc i) y e = let r = item_taken n xs i y e in (omega arith, r.1)

pub item_take : {A : Type 0} (n : ℕ) (xs : List A) (i : ℕ) (y : A) → i < n → slice_get xs i ≡ Some y → slice_get (take n xs) i ≡ Some y
item_take zero xs i y l e = absurd (omega arith)
item_take (suc n) [] i y l e = absurd (none-some y e)
item_take (suc n) (z ∷ xs) zero y l e = e
item_take (suc n) (z ∷ xs) (suc i) y l e = item_take n xs i y (omega arith) e

pub item-drop : {A : Type 0} (n : ℕ) (xs : List A) (i : ℕ) → slice_get (drop n xs) i ≡ slice_get xs (n + i)
item-drop zero xs i = ap (slice_get xs) (omega arith)
item-drop (suc n) [] i = refl
item-drop (suc n) (z ∷ xs) i =
    let e : suc n + i ≡ suc (n + i) = omega arith in
    rw e (item-drop n xs i)

-- a position within a list has an item
pub item_at : {A : Type 0} (xs : List A) (i : ℕ) → i < length xs → (x : A) × (slice_get xs i ≡ Some x)
item_at [] i l = absurd (omega arith)
item_at (z ∷ xs) zero l = (z, refl)
item_at (z ∷ xs) (suc i) l = item_at xs i (omega arith)

-- a position without an item is not within the list
pub item_end : {A : Type 0} (xs : List A) (i : ℕ) → slice_get xs i ≡ None → length xs ≤ i
item_end [] i e = omega arith
item_end (x ∷ xs) zero e = absurd (none-some x (sym e))
item_end (x ∷ xs) (suc i) e = omega (arith, item_end xs i e)

-- the items of a row are the columns that it has
pub has_item : (row : List ℕ) (i d : ℕ) → slice_get row i ≡ Some d → IsTrue (has row d)
has_item [] i d e = absurd (none-some d e)
has_item (x ∷ row) zero d e = subst (λ y. IsTrue (has (x ∷ row) y)) (same_Some x d e) (has_head x row)
has_item (x ∷ row) (suc i) d e = has_tail x d row (has_item row i d e)

pub item_of : (row : List ℕ) (d : ℕ) → IsTrue (has row d) → (i : ℕ) × (slice_get row i ≡ Some d)
item_of row d h =
    let p = at_place row d h in
    (place row d, slice_get-get_or row (place row d) 0 p.0 ∙ ap Some p.1)

-- what is no `Some` is `None`
pub none_of : {A : Type 0} (o : Option A) → ((x : A) → o ≡ Some x → ⊥) → o ≡ None
none_of None h = refl
none_of (Some x) h = absurd (h x refl)

-- a row with a column has some item
pub held_some : (row : List ℕ) (d : ℕ) → IsTrue (has row d) → 1 ≤ length row
held_some row d h = let i = item_of row d h in omega (arith, slice_get_within row i.0 d i.1)
