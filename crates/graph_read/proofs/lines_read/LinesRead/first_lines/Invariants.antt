use Rattle.std.proofs.Common.{◌≡◌, ◌≤◌, ◌+◌, ◌-◌, ◌++◌, ℕ, List, drop, length}
use Rattle.text_lines.specs.Lines.{lines_of, filled_lines}
use Rattle.graph_read.proofs.lines_read.LinesRead.first_lines.Given as goal

abbrev pub invariant-loop-at : goal.invariant-loop-at
invariant-loop-at l = record {
  within : l.at ≤ length l.text;
  few : l.number ≤ l.passed + l.at;
  so_far : (later : List (List ℕ)) → filled_lines (l.number + 1) (lines_of (drop l.at l.text) ++ later) ≡ filled_lines (l.passed + 1) (lines_of l.text ++ later);
}

abbrev pub decreases-loop-at : goal.decreases-loop-at
decreases-loop-at l = length l.text - l.at
