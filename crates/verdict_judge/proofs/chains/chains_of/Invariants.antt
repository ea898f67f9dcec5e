use Rattle.std.proofs.Common.{◌≡◌, ◌+◌, ◌≤◌, length}
use Rattle.verdict_judge.specs.Chains.{AreChains}
use Rattle.verdict_judge.proofs.chains.chains_of.Given as goal

-- the lines from i on are in chains
abbrev pub invariant-loop-i : goal.invariant-loop-i
invariant-loop-i l = record {
  within : l.i ≤ length l.lines;
  columns : length l.firsts.items ≡ l.c + 1;
  chains : AreChains l.lines l.i l.firsts.items l.nexts.items;
}

abbrev pub decreases-loop-i : goal.decreases-loop-i
decreases-loop-i l = l.i
