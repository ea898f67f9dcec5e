use Rattle.std.proofs.Common.{◌≡◌, ◌≤◌, ◌+◌, ◌-◌, ◌*◌, [], drop, length}
use Rattle.text_lines.specs.Lines.{lines_of, filled_lines}
use Rattle.graph_read.specs.DistanceSteps.{table_behind}
use Rattle.graph_read.proofs.distance_files.push_rows.Given as goal

abbrev pub invariant-loop-line : goal.invariant-loop-line
invariant-loop-line l = record {
  within : l.place ≤ length l.text;
  few : l.number ≤ l.place;
  rows : l.x ≤ l.n;
  whole : length l.values.items ≡ l.x * l.n;
  so_far : table_behind l.n l.x l.values.items (filled_lines (l.number + 1) (lines_of (drop l.place l.text))) ≡ table_behind l.n 0 [] (filled_lines (l.passed + 1) (lines_of (drop l.at l.text)));
}

abbrev pub decreases-loop-line : goal.decreases-loop-line
decreases-loop-line l = length l.text - l.place
