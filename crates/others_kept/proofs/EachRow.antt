-- Numbered rows that are read, and positions that are read again.
use Rattle.std.proofs.Common.{◌≡◌, ◌↔◌, ◌∙◌, ℕ, ◌-◌, List, [], length, get_or, slice_get, Bool, Some, IsTrue, sym, subst}
use Rattle.std.proofs.lemmas.Option.{get_or_from_slice_get}
use Rattle.column_order.specs.Orders.{Keeps, IsOrder}
use Rattle.column_order.proofs.Counts.{order_length}
use Rattle.row_model.specs.Graph.{row_at}
use Rattle.row_model.specs.Positions.{ArePositions}
use Rattle.others_kept.specs.Others.{numbered}

-- the row that was read by the number at an index
pub row_read : (rows : List (List ℕ)) (numbers : List ℕ) (i : ℕ) (row : List ℕ) → slice_get rows (get_or numbers i 0 - 1) ≡ Some row → numbered rows numbers i ≡ row
row_read rows numbers i row e = get_or_from_slice_get rows (get_or numbers i 0 - 1) row [] e

module _ (columns : ℕ) (order positions now : List ℕ) (is : IsOrder columns order) (are : ArePositions order positions) (same : now ≡ positions) where
  pub now_positions : ArePositions order now
  now_positions = subst (ArePositions order) (sym same) are

  pub long : columns ≡ length now
  long = sym (now_positions.columns ∙ order_length columns order is)

  pub kept_row : (rows : List (List ℕ)) (k : ℕ) (row : List ℕ) (kept : Bool) → ((o : List ℕ) → IsOrder (length now) o → ArePositions o now → IsTrue kept ↔ Keeps o row)
      → slice_get rows (k - 1) ≡ Some row → IsTrue kept ↔ Keeps order (row_at rows k)
  kept_row rows k row kept h e =
      let found : row_at rows k ≡ row = get_or_from_slice_get rows (k - 1) row [] e in
      rw found (h order (subst (λ n. IsOrder n order) long is) now_positions)
