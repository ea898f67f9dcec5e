use Rattle.std.proofs.Common.{ℕ, ◌≤◌, take}
use Rattle.verdict_judge.specs.NoTests.{PassesRepeat}
use Rattle.verdict_judge.proofs.Lines.{AreMarked}
use Rattle.verdict_judge.proofs.repeats.first_repeat_by_table.Given as goal

-- the pairs of the lines so far are marked, and none of them is there twice
abbrev pub invariant-loop-i : goal.invariant-loop-i
invariant-loop-i l = AreMarked l.c l.seen (take l.i l.lines) × ((k : ℕ) → 1 ≤ k → k ≤ l.i → PassesRepeat l.lines k)
