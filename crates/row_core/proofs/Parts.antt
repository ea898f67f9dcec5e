-- The part of a matrix in the rows of a set.
use Rattle.std.proofs.Common.{◌≡◌, ◌∙◌, ℕ, ◌+◌, ◌-◌, ◌<◌, Some, List, [], ◌∷◌, ◌++◌, length, map, take, get_or, slice_get, ap, sym}
use Rattle.std.proofs.lemmas.List.{map_more}
use Rattle.std.proofs.lemmas.Option.{get_or_from_slice_get}
use Rattle.row_model.specs.Graph.{row_at}
use Rattle.row_model.specs.Rows.{RowList}

-- one row more
pub part_more : (new old m : RowList) (set row : List ℕ) (i d : ℕ) → new ≡ record old { rows = old.rows ++ row ∷ [] } → old.columns ≡ m.columns → old.rows ≡ map (row_at m.rows) (take i set)
    → i < length set → slice_get m.rows (get_or set i d - 1) ≡ Some row → (new.columns ≡ m.columns) × (new.rows ≡ map (row_at m.rows) (take (i + 1) set))
part_more new old m set row i d e columns rows l at =
    let same : row_at m.rows (get_or set i d) ≡ row = get_or_from_slice_get m.rows (get_or set i d - 1) row [] at in
    (ap (λ (p : RowList). p.columns) e ∙ columns, ap (λ (p : RowList). p.rows) e ∙ ap (λ rs. rs ++ row ∷ []) rows ∙ ap (λ r. map (row_at m.rows) (take i set) ++ r ∷ []) (sym same) ∙ sym (map_more (row_at m.rows) set i d l))
