-- Turning an order round leaves the columns of a set together on the circle: they, or those outside it, are an unbroken run again.
use Rattle.std.proofs.Common.{◌≡◌, ◌⊎◌, ◌∙◌, ℕ, zero, suc, ◌+◌, ◌-◌, ◌<◌, ◌≤◌, not, List, [], ◌∷◌, ◌++◌, length, get_or, IsTrue, IsFalse, sym, ap, subst, inl, inr, arith, length-append}
use Rattle.std.proofs.lemmas.Bool.{cases_Bool, cases_lt, both_ways}
use Rattle.std.proofs.lemmas.List.{get_or_append_left, get_or-append-add}
use Rattle.column_order.specs.Orders.{has, Keeps}
use Rattle.column_order.proofs.Lists.{has_at, has_append_cases, has_append_left, has_append_right}

-- of each column of the list exactly one of the two rows has it
abbrev pub AreOpposite : List ℕ → List ℕ → List ℕ → Type 0
AreOpposite o row other = (a : ℕ) → IsTrue (has o a) → has other a ≡ not (has row a)

pub opposite_back : (o row other : List ℕ) → AreOpposite o row other → AreOpposite o other row
opposite_back o row other h a k = elim (cases_Bool (has row a)) [ inl t ↦ t ∙ ap not (sym (h a k ∙ ap not t)) | inr f ↦ f ∙ ap not (sym (h a k ∙ ap not f)) ]

-- at the position stands a column of the row
abbrev pub Stands : List ℕ → List ℕ → ℕ → Type 0
Stands row o i = IsTrue (has row (get_or o i 0))

not_both : (o row other : List ℕ) (i : ℕ) → AreOpposite o row other → i < length o → Stands row o i → Stands other o i → ⊥
not_both o row other i h l r s = both_ways (has other (get_or o i 0)) (h (get_or o i 0) (has_at o i l) ∙ ap not r) s

one_stands : (o row other : List ℕ) (i : ℕ) → AreOpposite o row other → i < length o → (Stands row o i → ⊥) → Stands other o i
one_stands o row other i h l f =
    elim (cases_Bool (has row (get_or o i 0))) [ inl t ↦ absurd (f t) | inr t ↦ h (get_or o i 0) (has_at o i l) ∙ ap not t ]

-- a column of the row stands in the list
record Somewhere (row o : List ℕ) : Type 0 where
  pub at : ℕ
  pub inside : at < length o
  pub stands : Stands row o at

find : (row o : List ℕ) → Somewhere row o ⊎ ((i : ℕ) → i < length o → Stands row o i → ⊥)
find row [] = inr (λ i l. absurd (omega (arith, l)))
find row (x ∷ o) =
    elim (cases_Bool (has row x)) [
      | inl t ↦ inl (record { at = 0; inside = omega arith; stands = t })
      | inr f ↦ elim (find row o) [
        | inl s ↦ inl (record { at = suc s.at; inside = omega (arith, s.inside); stands = s.stands })
        | inr h ↦ inr (further f h)
      ]
    ]
  where
    further : IsFalse (has row x) → ((i : ℕ) → i < length o → Stands row o i → ⊥) → (i : ℕ) → i < length (x ∷ o) → Stands row (x ∷ o) i → ⊥
    further f h zero l s = both_ways (has row x) f s
    further f h (suc i) l s = h i (omega (arith, l)) s

-- where the column of a position of the turned list stood before
from_back : (front back : List ℕ) (i : ℕ) → i < length back → get_or (back ++ front) i 0 ≡ get_or (front ++ back) (length front + i) 0
from_back front back i l = get_or_append_left back front 0 i l ∙ sym (get_or-append-add front back i 0)

from_front : (front back : List ℕ) (i : ℕ) → length back ≤ i → i < length back + length front → get_or (back ++ front) i 0 ≡ get_or (front ++ back) (i - length back) 0
from_front front back i l h =
    let e : i ≡ length back + (i - length back) = omega (arith, l) in
    ap (λ n. get_or (back ++ front) n 0) e ∙ get_or-append-add back front (i - length back) 0 ∙ sym (get_or_append_left front back 0 (i - length back) (omega (arith, l, h)))

module _ (front back row other : List ℕ) (opposite : AreOpposite (front ++ back) row other) (keeps : Keeps (front ++ back) row) where
  -- a row without a column in the front part is kept within the back part
  none_front : ((i : ℕ) → i < length front → Stands row front i → ⊥) → Keeps (back ++ front) row
  none_front h i j k ij jk kl si sk =
      elim (cases_lt k (length back)) [
        | inl l ↦
            subst (λ a. IsTrue (has row a)) (sym (from_back front back j (omega (arith, jk, l))))
            (keeps (length front + i) (length front + j) (length front + k) (omega (arith, ij)) (omega (arith, jk)) (omega (arith, l, length-append front back))
            (subst (λ a. IsTrue (has row a)) (from_back front back i (omega (arith, ij, jk, l))) si)
            (subst (λ a. IsTrue (has row a)) (from_back front back k l) sk))
        | inr l ↦
            let n : k < length back + length front = omega (arith, kl, length-append back front) in
            absurd (h (k - length back) (omega (arith, l, n))
            (subst (λ a. IsTrue (has row a)) (from_front front back k l n ∙ get_or_append_left front back 0 (k - length back) (omega (arith, l, n))) sk))
      ]

  -- a row without a column in the back part is kept within the front part
  none_back : ((i : ℕ) → i < length back → Stands row back i → ⊥) → Keeps (back ++ front) row
  none_back h i j k ij jk kl si sk =
      let n : k < length back + length front = omega (arith, kl, length-append back front) in
      elim (cases_lt i (length back)) [
        | inl l ↦ absurd (h i l (subst (λ a. IsTrue (has row a)) (get_or_append_left back front 0 i l) si))
        | inr l ↦
            subst (λ a. IsTrue (has row a)) (sym (from_front front back j (omega (arith, l, ij)) (omega (arith, jk, n))))
            (keeps (i - length back) (j - length back) (k - length back) (omega (arith, l, ij)) (omega (arith, l, ij, jk)) (omega (arith, l, ij, jk, n, length-append front back))
            (subst (λ a. IsTrue (has row a)) (from_front front back i l (omega (arith, ij, jk, n))) si)
            (subst (λ a. IsTrue (has row a)) (from_front front back k (omega (arith, l, ij, jk)) n) sk))
      ]

  -- a row with columns in both parts has all between them, so the rest stands side by side once the parts have changed places
  both_parts : Somewhere row front → Somewhere row back → Keeps (back ++ front) other
  both_parts x y i j k ij jk kl si sk =
      let n : k < length back + length front = omega (arith, kl, length-append back front) in
      let turned : AreOpposite (back ++ front) row other = λ a t. opposite a (either a (has_append_cases back front a t)) in
      one_stands (back ++ front) row other j turned (omega (arith, jk, kl)) (λ sj.
      elim (cases_lt j (length back)) [
        | inl l ↦
            not_both (back ++ front) row other i turned (omega (arith, ij, jk, kl))
            (subst (λ a. IsTrue (has row a)) (sym (from_back front back i (omega (arith, ij, l))))
            (keeps x.at (length front + i) (length front + j) (omega (arith, x.inside)) (omega (arith, ij)) (omega (arith, l, length-append front back))
            (subst (λ a. IsTrue (has row a)) (sym (get_or_append_left front back 0 x.at x.inside)) x.stands)
            (subst (λ a. IsTrue (has row a)) (from_back front back j l) sj)))
            si
        | inr l ↦
            not_both (back ++ front) row other k turned kl
            (subst (λ a. IsTrue (has row a)) (sym (from_front front back k (omega (arith, l, jk)) n))
            (keeps (j - length back) (k - length back) (length front + y.at) (omega (arith, l, jk)) (omega (arith, l, jk, n)) (omega (arith, y.inside, length-append front back))
            (subst (λ a. IsTrue (has row a)) (from_front front back j l (omega (arith, jk, n))) sj)
            (subst (λ a. IsTrue (has row a)) (sym (get_or-append-add front back y.at 0)) y.stands)))
            sk
      ])
    where
      either : (a : ℕ) → IsTrue (has back a) ⊎ IsTrue (has front a) → IsTrue (has (front ++ back) a)
      either a (inl t) = has_append_right front back a t
      either a (inr t) = has_append_left front back a t

  pub keeps_turned : Keeps (back ++ front) row ⊎ Keeps (back ++ front) other
  keeps_turned =
      elim (find row front) [
        | inr h ↦ inl (none_front h)
        | inl x ↦ elim (find row back) [
          | inr h ↦ inl (none_back h)
          | inl y ↦ inr (both_parts x y)
        ]
      ]

-- where a set or its opposite is an unbroken run, so it is after a rotation
pub together_turned : (front back row other : List ℕ) → AreOpposite (front ++ back) row other → Keeps (front ++ back) row ⊎ Keeps (front ++ back) other →
    Keeps (back ++ front) row ⊎ Keeps (back ++ front) other
together_turned front back row other h (inl k) = keeps_turned front back row other h k
together_turned front back row other h (inr k) =
    elim (keeps_turned front back other row (opposite_back (front ++ back) row other h) k) [ inl r ↦ inr r | inr r ↦ inl r ]

-- a run that begins an order leaves the rest of it
pub keeps_rest : (o row other : List ℕ) → AreOpposite o row other → 0 < length o → Stands row o 0 → Keeps o row → Keeps o other
keeps_rest o row other h l first keeps i j k ij jk kl si sk =
    one_stands o row other j h (omega (arith, jk, kl)) (λ sj.
    elim (cases_lt 0 i) [
      | inl p ↦ not_both o row other i h (omega (arith, ij, jk, kl)) (keeps 0 i j p ij (omega (arith, jk, kl)) first sj) si
      | inr p ↦
          let zero_is : i ≡ 0 = omega (arith, p) in
          not_both o row other 0 h l first (subst (Stands other o) zero_is si)
    ])
