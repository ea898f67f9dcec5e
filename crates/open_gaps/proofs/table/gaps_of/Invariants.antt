use Rattle.std.proofs.Common.{◌≡◌, ◌+◌, List, ℕ, length, take, sum_by}
use Rattle.column_order.specs.Orders.{IsValidOrder}
use Rattle.row_model.specs.Positions.{ArePositions}
use Rattle.open_gaps.specs.Gaps.{AreGaps}
use Rattle.open_gaps.proofs.table.gaps_of.Given as goal

abbrev pub invariant-loop-k : goal.invariant-loop-k
invariant-loop-k g l =
    record {
      len : length l.gaps.items ≡ l.m.columns;
      gaps : (o : List ℕ) → IsValidOrder l.m.columns (take l.rows l.m.rows) o → ArePositions o l.positions → AreGaps (take l.k l.m.rows) o l.gaps.items;
      ticks : l.steps ≡ l.fn.steps + sum_by length (take l.k l.m.rows);
    }
