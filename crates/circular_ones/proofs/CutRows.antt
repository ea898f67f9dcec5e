-- The rows cut one after another.
use Rattle.std.proofs.Common.{◌≡◌, ◌∙◌, ℕ, ◌+◌, ◌-◌, List, [], ◌∷◌, ◌++◌, Some, take, slice_get, sym, ap, subst, arith}
use Rattle.std.proofs.lemmas.List.{take_more}
use Rattle.std.proofs.lemmas.Option.{slice_get-map, slice_get_within, get_or_from_slice_get}
use Rattle.std.specs.Option.{option_map}
use Rattle.row_model.specs.Rows.{RowList}
use Rattle.circular_ones.specs.Circular.{cut_row, cut_rows}

-- one cut row more
pub cut_next : (new old : RowList) (c k : ℕ) (rows : List (List ℕ)) (row next : List ℕ) → new ≡ record old { rows = old.rows ++ next ∷ [] } → next ≡ cut_row c row →
    (old.columns ≡ c) × (old.rows ≡ take k (cut_rows c rows)) → slice_get rows (k + 1 - 1) ≡ Some row → (new.columns ≡ c) × (new.rows ≡ take (k + 1) (cut_rows c rows))
cut_next new old c k rows row next e is h r =
    let at : slice_get rows k ≡ Some row = subst (λ i. slice_get rows i ≡ Some row) (omega arith) r in
    let found : slice_get (cut_rows c rows) k ≡ Some next = slice_get-map (cut_row c) rows k ∙ ap (option_map (cut_row c)) at ∙ ap Some (sym is) in
    let more : take (k + 1) (cut_rows c rows) ≡ take k (cut_rows c rows) ++ next ∷ [] =
    take_more (cut_rows c rows) k next (slice_get_within (cut_rows c rows) k next found) ∙ ap (λ x. take k (cut_rows c rows) ++ x ∷ []) (get_or_from_slice_get (cut_rows c rows) k next next found) in
    (ap (λ (m : RowList). m.columns) e ∙ h.0, ap (λ (m : RowList). m.rows) e ∙ ap (λ xs. xs ++ next ∷ []) h.1 ∙ sym more)
