use Rattle.std.proofs.Common.{◌+◌, ◌*◌, ◌≤◌, take, sum_by}
use Rattle.row_reduce.specs.Decided.{labelled_at, asking, AreDecided}
use Rattle.row_reduce.proofs.decide.decide.Given as goal

abbrev pub invariant-loop-i : goal.invariant-loop-i
invariant-loop-i g l = record {
  decided : AreDecided l.arena l.work l.root l.chosen l.i;
  asking : l.steps ≤ l.initial.steps + asking l.arena l.work l.chosen l.i;
  ticks : l.steps ≤ l.initial.steps + sum_by (λ n. 7 * (labelled_at l.work n + 1)) (take l.i l.work.nodes);
}
