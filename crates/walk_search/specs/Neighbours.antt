-- What leads from a pair to the pairs that rows join to it.
use Rattle.std.specs.Prelude.{◌≡◌, ℕ, Some, None, List, map, take}
use Rattle.column_order.specs.Orders.{IsValidOrder}
use Rattle.row_model.specs.Rows.{RowList}
use Rattle.open_gaps.specs.Gaps.{AreGaps}
use Rattle.open_gaps.specs.Tables.{GapTable}
use Rattle.walk_search.specs.declared.neighbours.Neighbours.{Neighbours}
use Rattle.walk_search.specs.Holders.{AreHolders, without}

-- an order of the columns that is valid for these rows, and its gaps
pub record AreOpenGaps (c : ℕ) (rows : List (List ℕ)) (t : GapTable) : Type 0 where
  pub valid : IsValidOrder c rows t.order
  pub gaps : AreGaps rows t.order t.gaps

-- the gaps are those of the first rows, and there are no first rows where there are no gaps; and so many further rows are held
pub record AreNeighbours (m : RowList) (further : ℕ) (near : Neighbours) : Type 0 where
  pub gaps : (t : GapTable) → near.gaps ≡ Some t → AreOpenGaps m.columns (take near.first m.rows) t
  pub none : near.gaps ≡ None → near.first ≡ 0
  pub holders : AreHolders (without near.first m) further (map (λ list. list.items) near.holders.items)
