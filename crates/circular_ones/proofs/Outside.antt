-- The complement of an ascending row, column by column.
use Rattle.std.proofs.Common.{◌≡◌, ◌∙◌, ℕ, suc, ◌+◌, ◌<◌, ◌≤◌, not, cond, ◌||◌, List, [], ◌∷◌, ◌++◌, length, drop, get_or, IsTrue, IsFalse, refl, sym, ap, subst, inl, inr, arith, append-nil, length-drop}
use Rattle.std.proofs.lemmas.Bool.{cases_eq, ne_eqb}
use Rattle.std.proofs.Math.Seq.{drop-cons}
use Rattle.std.proofs.lemmas.List.{get_or-drop}
use Rattle.column_order.specs.Orders.{has}
use Rattle.column_order.proofs.Lists.{has_head}
use Rattle.row_model.proofs.Filtered.{filtered_more}
use Rattle.row_model.specs.Rows.{Ascends, IsRow}
use Rattle.circular_ones.specs.Circular.{complement}

-- the first columns of the complement are listed, and the rest of the row is that above the columns looked at
pub record IsListed (c : ℕ) (row : List ℕ) (inside before : ℕ) (outside : List ℕ) : Type 0 where
  pub low : inside ≤ length row
  pub listed : outside ≡ complement before row
  pub rest : Ascends c before (drop inside row)
  pub same : (a : ℕ) → before < a → has (drop inside row) a ≡ has row a

pub none_listed : (c : ℕ) (row : List ℕ) → IsRow c row → IsListed c row 0 0 []
none_listed c row h = record { low = omega arith; listed = refl; rest = h; same = λ a l. refl }

complement_more : (row : List ℕ) (n : ℕ) → complement (n + 1) row ≡ complement n row ++ cond (not (has row (n + 1))) ((n + 1) ∷ []) []
complement_more row n = filtered_more (λ column. not (has row column)) n

drop_next : (row : List ℕ) (i : ℕ) → i < length row → drop i row ≡ get_or row i 0 ∷ drop (i + 1) row
drop_next row i l =
    let more : suc i ≡ i + 1 = omega arith in
    drop-cons row i 0 l ∙ ap (λ n. get_or row i 0 ∷ drop n row) more

below : (c low a : ℕ) (row : List ℕ) → Ascends c low row → a ≤ low → IsFalse (has row a)
below c low a [] h l = refl
below c low a (x ∷ row) h l = rw (ne_eqb x a (λ e. omega (arith, e, l, h.0))) (below c x a row h.2 (omega (arith, l, h.0)))

-- the rest of a row, whose first column is not the next, lies above it
above : (c n : ℕ) (row : List ℕ) → Ascends c n row → (0 < length row → get_or row 0 0 ≡ n + 1 → ⊥) → Ascends c (n + 1) row × IsFalse (has row (n + 1))
above c n [] h d = (tt, refl)
above c n (x ∷ row) h d =
    let l : n + 1 < x = elim (cases_eq x (n + 1)) [ inl e ↦ absurd (d (omega arith) e) | inr e ↦ omega (arith, h.0, e) ] in
    ((l, h.1, h.2), below c (n + 1) (n + 1) (x ∷ row) (l, h.1, h.2) (omega arith))

-- the next column is the first of the rest
pub inside_more : (c : ℕ) (row : List ℕ) (inside n : ℕ) (outside : List ℕ) → IsListed c row inside n outside → inside < length row → get_or row inside 0 ≡ n + 1 →
    IsListed c row (inside + 1) (n + 1) outside
inside_more c row inside n outside h l e =
    let first : drop inside row ≡ (n + 1) ∷ drop (inside + 1) row = drop_next row inside l ∙ ap (λ x. x ∷ drop (inside + 1) row) e in
    let has_next : IsTrue (has row (n + 1)) = sym (h.same (n + 1) (omega arith)) ∙ ap (λ xs. has xs (n + 1)) first ∙ has_head (n + 1) (drop (inside + 1) row) in
    record {
      low = omega (arith, l);
      listed = h.listed ∙ sym (complement_more row n ∙ ap (λ b. complement n row ++ cond (not b) ((n + 1) ∷ []) []) has_next ∙ append-nil (complement n row));
      rest = (subst (Ascends c n) first h.rest).2;
      same = λ a u. sym (has_later a u) ∙ ap (λ xs. has xs a) (sym first) ∙ h.same a (omega (arith, u));
    }
  where
    has_later : (a : ℕ) → n + 1 < a → has ((n + 1) ∷ drop (inside + 1) row) a ≡ has (drop (inside + 1) row) a
    has_later a u = ap (λ b. b || has (drop (inside + 1) row) a) (ne_eqb (n + 1) a (λ e. omega (arith, e, u)))

-- the next column is not the first of the rest
pub outside_more : (c : ℕ) (row : List ℕ) (inside n : ℕ) (outside : List ℕ) → IsListed c row inside n outside → (inside < length row → get_or row inside 0 ≡ n + 1 → ⊥) →
    IsListed c row inside (n + 1) (outside ++ (n + 1) ∷ [])
outside_more c row inside n outside h d =
    let up = above c n (drop inside row) h.rest (λ l e. d (omega (arith, l, length-drop inside row)) (ap (λ i. get_or row i 0) (omega arith) ∙ sym (get_or-drop inside row 0 0) ∙ e)) in
    let lacks : IsFalse (has row (n + 1)) = sym (h.same (n + 1) (omega arith)) ∙ up.1 in
    record {
      low = h.low;
      listed = ap (λ xs. xs ++ (n + 1) ∷ []) h.listed ∙ sym (complement_more row n ∙ ap (λ b. complement n row ++ cond (not b) ((n + 1) ∷ []) []) lacks);
      rest = up.0;
      same = λ a u. h.same a (omega (arith, u));
    }
