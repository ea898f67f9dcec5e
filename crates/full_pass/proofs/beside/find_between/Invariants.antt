use Rattle.std.proofs.Common.{◌+◌, ◌*◌, ◌≤◌}
use Rattle.full_pass.specs.Tallies.{full_in}
use Rattle.full_pass.specs.Passing.{IsFoundEnd}
use Rattle.full_pass.proofs.beside.find_between.Given as goal

abbrev pub invariant-loop-column : goal.invariant-loop-column
invariant-loop-column g l = record {
  found : IsFoundEnd l.arena (full_in l.labels l.stamp) l.found;
  ticks : l.steps ≤ l.fn.steps + 2 * l.column-index;
}
