use Rattle.std.proofs.Common.{◌+◌, ◌*◌, ◌≤◌, length, take, sum_by}
use Rattle.pair_classes.proofs.ClassLaws.{IsClassing}
use Rattle.pair_classes.proofs.classes.classes_of.Given as goal

abbrev pub invariant-loop-k : goal.invariant-loop-k
invariant-loop-k g l =
    record {
      classing : IsClassing l.m.columns l.rows l.m.rows l.parents.items l.k;
      counted : l.steps ≤ l.fn.steps + 3 * (l.m.columns * sum_by length (take l.k l.m.rows));
      turns : l.fn.steps + sum_by length (take l.k l.m.rows) ≤ l.steps;
    }
