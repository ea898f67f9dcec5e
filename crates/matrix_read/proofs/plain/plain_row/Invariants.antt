use Rattle.std.proofs.Common.{◌≡◌, ◌≤◌, ◌+◌, ◌-◌, ◌++◌, List, ℕ, drop, take, length}
use Rattle.row_model.specs.Rows.{Ascends}
use Rattle.text_lines.specs.DigitEnds.{AreDigitEnds}
use Rattle.text_lines.specs.Lines.{line_len, first_line, without_return}
use Rattle.text_lines.specs.Words.{words_of}
use Rattle.matrix_read.specs.Sparse.{words_code}
use Rattle.matrix_read.specs.SparseSteps.{columns_named}
use Rattle.matrix_read.proofs.plain.plain_row.Given as goal

abbrev pub invariant-loop-last : goal.invariant-loop-last
invariant-loop-last l = record {
  from : l.at ≤ l.place;
  within : l.place ≤ length l.text;
  ends : AreDigitEnds l.text l.place l.ends.block l.ends.marks;
  few : l.ones ≤ l.last;
  most : l.last ≤ l.c;
  line : l.at + line_len (drop l.at l.text) ≡ l.place + line_len (drop l.place l.text);
  return_is : without_return (first_line (drop l.place l.text)) ≡ first_line (drop l.place l.text)
      → without_return (first_line (drop l.at l.text)) ≡ first_line (drop l.at l.text);
  code : words_code l.c (words_of (first_line (drop l.place l.text))) ≡ words_code l.c (words_of (first_line (drop l.at l.text)));
  named : take l.ones l.columns ++ columns_named (words_of (first_line (drop l.place l.text))) ≡ columns_named (words_of (first_line (drop l.at l.text)));
  ascends : (row : List ℕ) → Ascends l.c l.last row → Ascends l.c 0 (take l.ones l.columns ++ row);
}

abbrev pub decreases-loop-last : goal.decreases-loop-last
decreases-loop-last l = length l.text - l.place
