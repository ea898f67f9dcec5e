use Rattle.std.proofs.Common.{◌≡◌, ◌≤◌, ◌+◌, ◌-◌, ◌++◌, ℕ, List, drop, length}
use Rattle.text_lines.specs.Lines.{lines_of}
use Rattle.matrix_read.specs.DigitsThen.{digits_then}
use Rattle.matrix_read.proofs.dense.push_rows.Given as goal

abbrev pub invariant-loop-at : goal.invariant-loop-at
invariant-loop-at l = record {
  within : l.at ≤ length l.text;
  few : l.line ≤ l.passed + l.at;
  columns : l.matrix.columns ≡ l.initial.matrix.columns;
  so_far : (later : List (List ℕ)) → digits_then l.line l.matrix (lines_of (drop l.at l.text) ++ later) ≡ digits_then l.passed l.initial.matrix (lines_of l.text ++ later);
}

abbrev pub decreases-loop-at : goal.decreases-loop-at
decreases-loop-at l = length l.text - l.at
