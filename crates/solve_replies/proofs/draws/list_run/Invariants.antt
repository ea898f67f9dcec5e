use Rattle.std.proofs.Common.{◌≡◌, ◌≤◌, take}
use Rattle.solve_replies.specs.Generated.{run_at}
use Rattle.solve_replies.proofs.draws.list_run.Given as goal

abbrev pub invariant-loop-before : goal.invariant-loop-before
invariant-loop-before l = record {
  few : l.count ≤ l.before;
  run : take l.count l.row ≡ run_at l.positions l.first l.last l.before;
}
