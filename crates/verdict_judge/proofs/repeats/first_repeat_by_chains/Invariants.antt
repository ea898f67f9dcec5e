use Rattle.std.proofs.Common.{◌≡◌, ◌≢◌, ℕ, ◌+◌, ◌<◌, ◌≤◌, length, get_or}
use Rattle.std.specs.List.{All}
use Rattle.row_model.specs.declared.graph.Line.{Line}
use Rattle.verdict_judge.specs.NoTests.{PassesRepeat}
use Rattle.verdict_judge.proofs.repeats.first_repeat_by_chains.Given as goal

-- the lines of the first columns are tested as far as the least whose pair stands on an earlier line
abbrev pub invariant-loop-a : goal.invariant-loop-a
invariant-loop-a l = record {
  bound : l.least ≤ length l.lines;
  long : length l.stamps.items ≡ l.c + 1;
  stamps : All (λ stamp. stamp ≤ l.a) l.stamps.items;
  fails : l.least ≢ length l.lines → PassesRepeat l.lines (l.least + 1) → ⊥;
  passed : (i : ℕ) (d : Line) → i < l.least → (get_or l.lines i d).pair.a ≤ l.a → PassesRepeat l.lines (i + 1);
}
