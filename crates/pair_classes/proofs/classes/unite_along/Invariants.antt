use Rattle.std.proofs.Common.{◌+◌, ◌*◌, ◌≤◌, length}
use Rattle.row_model.specs.Graph.{row_at}
use Rattle.pair_classes.proofs.ClassLaws.{IsUnitingAlong}
use Rattle.pair_classes.proofs.classes.unite_along.Given as goal

abbrev pub invariant-loop-d : goal.invariant-loop-d
invariant-loop-d g l =
    record {
      along : IsUnitingAlong l.m.columns l.k (row_at l.m.rows l.k) l.fn.parents l.parents l.d;
      counted : l.steps ≤ l.fn.steps + 1 + l.d * (1 + length (row_at l.m.rows l.k));
      turns : l.fn.steps + 1 + l.d ≤ l.steps;
    }
