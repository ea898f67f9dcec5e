-- A row is known by the columns that it has, so one that is made otherwise is that of the columns that pass a test.
use Rattle.std.proofs.Common.{◌≡◌, ◌⊎◌, ◌∙◌, ℕ, ◌<◌, ◌≤◌, Bool, true, false, ◌||◌, eqb, List, [], ◌∷◌, ◌++◌, take, drop, refl, sym, ap, inl, inr, arith}
use Rattle.std.proofs.lemmas.Bool.{cases_order, cases_Bool, both_ways, ne_eqb}
use Rattle.std.proofs.lemmas.List.{take-append-drop}
use Rattle.column_order.specs.Orders.{has, IsWithin}
use Rattle.column_order.proofs.Lists.{has_head, has-append}
use Rattle.column_order.proofs.Counts.{in_range}
use Rattle.row_model.specs.Rows.{Ascends, IsRow, columns_where}
use Rattle.row_model.proofs.Ascending.{lacks_low, row_within}
use Rattle.row_model.proofs.Filtered.{has_filtered, filtered_row}

-- two ascending rows with the same columns are equal
pub ascends_equal : (c low : ℕ) (xs ys : List ℕ) → Ascends c low xs → Ascends c low ys → ((a : ℕ) → has xs a ≡ has ys a) → xs ≡ ys
ascends_equal c low [] [] h k same = refl
ascends_equal c low [] (y ∷ ys) h k same = absurd (both_ways (has (y ∷ ys) y) (sym (same y)) (has_head y ys))
ascends_equal c low (x ∷ xs) [] h k same = absurd (both_ways (has (x ∷ xs) x) (same x) (has_head x xs))
ascends_equal c low (x ∷ xs) (y ∷ ys) h k same =
    elim (cases_order x y) [
      | inl e ↦ ap (λ a. a ∷ xs) e ∙ ap (λ zs. y ∷ zs) (ascends_equal c y xs ys (rw e at h.2) k.2 (further e))
      | inr o ↦ elim o [
        | inl l ↦ absurd (both_ways (has (x ∷ xs) x) (same x ∙ lacks_low c x x (y ∷ ys) (l, k.1, k.2) (omega arith)) (has_head x xs))
        | inr l ↦ absurd (both_ways (has (y ∷ ys) y) (sym (same y) ∙ lacks_low c y y (x ∷ xs) (l, h.1, h.2) (omega arith)) (has_head y ys))
      ]
    ]
  where
    further : x ≡ y → (a : ℕ) → has xs a ≡ has ys a
    further e a =
        elim (cases_order x a) [
          | inl s ↦ lacks_low c x a xs h.2 (omega (arith, s)) ∙ sym (lacks_low c y a ys k.2 (omega (arith, e, s)))
          | inr o ↦ elim o [
            | inl l ↦
                let there : has (x ∷ xs) a ≡ has xs a = ap (λ b. b || has xs a) (ne_eqb x a (λ s. absurd (omega (arith, s, l)))) in
                let here : has (y ∷ ys) a ≡ has ys a = ap (λ b. b || has ys a) (ne_eqb y a (λ s. absurd (omega (arith, s, l, e)))) in
                sym there ∙ same a ∙ here
            | inr l ↦ lacks_low c x a xs h.2 (omega (arith, l)) ∙ sym (lacks_low c y a ys k.2 (omega (arith, e, l)))
          ]
        ]

-- a list of columns of 1 to c lacks a number out of range
lacks_outside : (c a : ℕ) (row : List ℕ) → IsWithin c row → (a ≡ 0) ⊎ (c < a) → has row a ≡ false
lacks_outside c a row inside out =
    elim (cases_Bool (has row a)) [
      | inl t ↦ absurd (elim out [ inl e ↦ omega (arith, (inside a t).0, e) | inr l ↦ omega (arith, (inside a t).1, l) ])
      | inr f ↦ f
    ]

-- a row that has the columns that pass is the row of them
pub row_where : (c : ℕ) (row : List ℕ) (p : ℕ → Bool) → IsRow c row → ((a : ℕ) → 1 ≤ a → a ≤ c → has row a ≡ p a) → row ≡ columns_where c p
row_where c row p h same = ascends_equal c 0 row (columns_where c p) h (filtered_row p c) each
  where
    each : (a : ℕ) → has row a ≡ has (columns_where c p) a
    each a =
        elim (in_range c a) [
          | inl r ↦ same a r.0 r.1 ∙ sym (has_filtered p c a r.0 r.1)
          | inr out ↦ lacks_outside c a row (row_within c row h) out ∙ sym (lacks_outside c a (columns_where c p) (row_within c (columns_where c p) (filtered_row p c)) out)
        ]

or_first : (p q e : Bool) → (p || (e || q)) ≡ (e || (p || q))
or_first true q true = refl
or_first true q false = refl
or_first false q true = refl
or_first false q false = refl

-- a list with one number more, wherever it is put
pub has-inserted : (n v a : ℕ) (row : List ℕ) → has (take n row ++ v ∷ drop n row) a ≡ (eqb v a || has row a)
has-inserted n v a row =
    has-append (take n row) (v ∷ drop n row) a ∙ or_first (has (take n row) a) (has (drop n row) a) (eqb v a)
    ∙ ap (λ b. eqb v a || b) (sym (has-append (take n row) (drop n row) a) ∙ ap (λ xs. has xs a) (take-append-drop n row))
