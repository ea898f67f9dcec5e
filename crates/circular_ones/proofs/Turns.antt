-- The rotation that begins with column 1.
use Rattle.std.proofs.Common.{◌≡◌, ◌∙◌, ℕ, ◌<◌, Bool, cond, eqb, List, [], ◌∷◌, ◌++◌, Some, None, length, take, drop, get_or, position, refl, sym, ap, inl, inr, arith, length-drop, eqb-true, eq-eqb}
use Rattle.std.proofs.lemmas.Bool.{cases_lt, lt-ltb, both_ways}
use Rattle.std.proofs.lemmas.Option.{none-some}
use Rattle.std.proofs.lemmas.List.{take-append-drop, get_or-drop}
use Rattle.std.proofs.lemmas.List.Quantifiers.{position-Some}
use Rattle.std.proofs.lemmas.List.Sums.{fails_before_first}
use Rattle.std.specs.List.{position_or_len}
use Rattle.column_order.specs.Orders.{place, IsOrder}
use Rattle.column_order.proofs.Lists.{at_place}
use Rattle.column_order.proofs.Counts.{order_has}
use Rattle.circular_ones.specs.Circular.{BeginsWithOne, IsTurned}

begins_append : (xs ys : List ℕ) → 0 < length xs → get_or xs 0 0 ≡ 1 → BeginsWithOne (xs ++ ys)
begins_append [] ys l e = absurd (omega (arith, l))
begins_append (x ∷ xs) ys l e = e

-- a list turned to begin with the position of column 1
pub turned_at : (o : List ℕ) (n : ℕ) → n < length o → get_or o n 0 ≡ 1 → IsTurned o (drop n o ++ take n o)
turned_at o n l e =
    record {
      rotation = record { front = take n o; back = drop n o; before = sym (take-append-drop n o); after = refl };
      begins = begins_append (drop n o) (take n o) (omega (arith, l, length-drop n o)) (get_or-drop n o 0 0 ∙ ap (λ i. get_or o i 0) (omega arith) ∙ e);
    }

pub turned_from : (o : List ℕ) (n : ℕ) → position (λ x. eqb x 1) o ≡ Some n → IsTurned o (drop n o ++ take n o)
turned_from o n e =
    let at = position-Some (λ x. eqb x 1) o n 0 e in
    turned_at o n at.0 (eqb-true (get_or o n 0) 1 at.1)

-- an order without column 1 has no column
pub turned_as_it_stands : (o : List ℕ) → IsOrder (length o) o → position (λ x. eqb x 1) o ≡ None → IsTurned o o
turned_as_it_stands [] h e = record { rotation = record { front = []; back = []; before = refl; after = refl }; begins = tt }
turned_as_it_stands (x ∷ xs) h e =
    let o = x ∷ xs in
    let is_one : ℕ → Bool = λ y. eqb y 1 in
    let at = at_place o 1 (order_has (length o) o h 1 (omega arith) (omega arith)) in
    elim (cases_lt (position_or_len is_one o) (length o)) [
      | inl l ↦ absurd (none-some (position_or_len is_one o) (sym (sym (ap (λ t. cond t (Some (position_or_len is_one o)) None) (lt-ltb (position_or_len is_one o) (length o) l)) ∙ e)))
      | inr l ↦ absurd (both_ways (is_one (get_or o (place o 1) 0)) (fails_before_first is_one o (place o 1) 0 (omega (arith, l, at.0))) (eq-eqb (get_or o (place o 1) 0) 1 at.1))
    ]
