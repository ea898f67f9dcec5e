use Rattle.std.proofs.Common.{◌≡◌, ◌≤◌, ◌+◌, ◌-◌, drop, length}
use Rattle.text_lines.specs.Lines.{lines_of, filled_lines}
use Rattle.text_lines.proofs.lines.next_filled_line.Given as goal

abbrev pub invariant-loop-span : goal.invariant-loop-span
invariant-loop-span l = record {
  from : l.at ≤ l.place;
  within : l.place ≤ length l.text;
  few : l.number ≤ l.place;
  so_far : filled_lines (l.number + 1) (lines_of (drop l.place l.text)) ≡ filled_lines (l.passed + 1) (lines_of (drop l.at l.text));
}

abbrev pub decreases-loop-span : goal.decreases-loop-span
decreases-loop-span l = length l.text - l.place
