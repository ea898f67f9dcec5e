use Rattle.std.proofs.Common.{◌≡◌, ◌+◌}
use Rattle.border_ways.proofs.sample.sample_of.Given as goal

abbrev pub invariant-loop-i : goal.invariant-loop-i
invariant-loop-i g l = l.steps ≡ l.fn.steps + l.i
