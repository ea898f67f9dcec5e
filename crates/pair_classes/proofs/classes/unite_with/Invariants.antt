use Rattle.std.proofs.Common.{◌≡◌, ◌+◌, ◌-◌, ◌≤◌, length}
use Rattle.row_model.specs.Graph.{row_at}
use Rattle.pair_classes.proofs.ClassLaws.{IsUniting}
use Rattle.pair_classes.proofs.classes.unite_with.Given as goal

abbrev pub invariant-loop-a : goal.invariant-loop-a
invariant-loop-a g l =
    record {
      uniting : IsUniting l.m.columns (row_at l.m.rows l.k) l.d l.first l.fn.parents l.parents l.i;
      within : l.i ≤ length (row_at l.m.rows l.k);
      counted : l.steps ≡ l.fn.steps + l.i;
    }

abbrev pub decreases-loop-a : goal.decreases-loop-a
decreases-loop-a g l = length (row_at l.m.rows l.k) - l.i
