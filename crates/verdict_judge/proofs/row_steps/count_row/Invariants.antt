use Rattle.std.proofs.Common.{◌≡◌, ◌+◌}
use Rattle.verdict_judge.proofs.row_steps.count_row.Given as goal

abbrev pub invariant-loop : goal.invariant-loop
invariant-loop g l = l.steps ≡ l.fn.steps + 1 + l.index
