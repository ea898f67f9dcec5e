use Rattle.std.proofs.Common.{◌≡◌, ◌+◌, ◌*◌, ◌≤◌, length}
use Rattle.short_cycles.proofs.part.part_of.Given as goal

abbrev pub invariant-loop-k : goal.invariant-loop-k
invariant-loop-k g l =
    record {
      columns : l.part.columns ≡ length l.columns;
      rows : length l.part.rows ≤ l.k-index;
      less : l.left ≤ l.fn.left;
      ticks : l.steps + l.left ≤ l.fn.steps + l.fn.left;
      turns : l.fn.steps + length l.part.rows * length l.columns ≤ l.steps;
    }
