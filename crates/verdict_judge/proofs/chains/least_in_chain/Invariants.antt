use Rattle.std.proofs.Common.{◌≡◌, ℕ, ◌+◌, ◌-◌, ◌<◌, ◌≤◌, length, get_or}
use Rattle.row_model.specs.declared.graph.Line.{Line}
use Rattle.verdict_judge.specs.NoTests.{PassesRepeat}
use Rattle.verdict_judge.proofs.ChainLaws.{AreStamped}
use Rattle.verdict_judge.proofs.chains.least_in_chain.Given as goal

-- the lines of the chain before this one are stamped, and their pairs are new
abbrev pub invariant-loop-at : goal.invariant-loop-at
invariant-loop-at l = record {
  within : l.at ≤ length l.lines;
  own : (d : Line) → l.at < length l.lines → (get_or l.lines l.at d).pair.a ≡ l.a;
  long : length l.stamps ≡ length l.initial.stamps;
  stamps : AreStamped l.a l.lines l.at l.stamps;
  passed : (i : ℕ) (d : Line) → i < l.at → (get_or l.lines i d).pair.a ≡ l.a → PassesRepeat l.lines (i + 1);
}

abbrev pub decreases-loop-at : goal.decreases-loop-at
decreases-loop-at l = length l.lines - l.at
