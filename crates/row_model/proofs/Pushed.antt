-- Matrices that are made by pushing the rows of a list one after another.
use Rattle.std.proofs.Common.{◌≡◌, ◌∙◌, ℕ, ◌+◌, ◌-◌, ◌<◌, Some, List, [], ◌∷◌, ◌++◌, take, length, get_or, slice_get, sym, ap, subst, arith}
use Rattle.std.proofs.Math.Seq.{take-length}
use Rattle.std.proofs.lemmas.List.{take_more}
use Rattle.std.proofs.lemmas.Option.{slice_get_within, get_or_from_slice_get}
use Rattle.row_model.specs.Rows.{RowList}

-- the first rows and the next one are one more of the first rows
pub take_next : (rows : List (List ℕ)) (k : ℕ) (row : List ℕ) → slice_get rows (k + 1 - 1) ≡ Some row → take k rows ++ row ∷ [] ≡ take (k + 1) rows
take_next rows k row e =
    let at : slice_get rows k ≡ Some row = subst (λ i. slice_get rows i ≡ Some row) (omega arith) e in
    sym (take_more rows k row (slice_get_within rows k row at) ∙ ap (λ x. take k rows ++ x ∷ []) (get_or_from_slice_get rows k row row at))

-- one row more of a list of rows
pub pushed_row : (new old : RowList) (c k : ℕ) (rows : List (List ℕ)) (row : List ℕ) → new ≡ record old { rows = old.rows ++ row ∷ [] } → (old.columns ≡ c) × (old.rows ≡ take k rows) →
    k < length rows → get_or rows k row ≡ row → (new.columns ≡ c) × (new.rows ≡ take (k + 1) rows)
pushed_row new old c k rows row e h l r =
    let more : take (k + 1) rows ≡ take k rows ++ row ∷ [] = take_more rows k row l ∙ ap (λ x. take k rows ++ x ∷ []) r in
    (ap (λ (m : RowList). m.columns) e ∙ h.0, ap (λ (m : RowList). m.rows) e ∙ ap (λ xs. xs ++ row ∷ []) h.1 ∙ sym more)

-- the same, where the row is read from the list by its number
pub copied_row : (new old : RowList) (c k : ℕ) (rows : List (List ℕ)) (row : List ℕ) → new ≡ record old { rows = old.rows ++ row ∷ [] } → (old.columns ≡ c) × (old.rows ≡ take k rows) →
    slice_get rows (k + 1 - 1) ≡ Some row → (new.columns ≡ c) × (new.rows ≡ take (k + 1) rows)
copied_row new old c k rows row e h r =
    let at : slice_get rows k ≡ Some row = subst (λ i. slice_get rows i ≡ Some row) (omega arith) r in
    pushed_row new old c k rows row e h (slice_get_within rows k row at) (get_or_from_slice_get rows k row row at)

-- all rows are there
pub all_rows : (m : RowList) (c k : ℕ) (rows : List (List ℕ)) → k ≡ length rows → (m.columns ≡ c) × (m.rows ≡ take k rows) → m ≡ record { columns = c; rows = rows }
all_rows m c k rows e h =
    ap (λ n. record { columns = n; rows = m.rows }) h.0
    ∙ ap (λ (xs : List (List ℕ)). record { columns = c; rows = xs }) (h.1 ∙ ap (λ n. take n rows) e ∙ take-length rows)
