use Rattle.std.proofs.Common.{◌≡◌, ◌≤◌, ◌-◌, ◌++◌, List, ℕ, drop, take, length}
use Rattle.row_model.specs.Rows.{Ascends}
use Rattle.text_lines.specs.Words.{words_of}
use Rattle.matrix_read.specs.Sparse.{words_code}
use Rattle.matrix_read.specs.SparseSteps.{columns_named}
use Rattle.matrix_read.proofs.sparse.ascending_columns.Given as goal

abbrev pub invariant-loop-word : goal.invariant-loop-word
invariant-loop-word l = record {
  within : l.at ≤ length l.line;
  few : l.ones ≤ l.last;
  most : l.last ≤ l.c;
  code : words_code l.c (words_of (drop l.at l.line)) ≡ words_code l.c (words_of l.line);
  named : take l.ones l.columns ++ columns_named (words_of (drop l.at l.line)) ≡ columns_named (words_of l.line);
  ascends : (row : List ℕ) → Ascends l.c l.last row → Ascends l.c 0 (take l.ones l.columns ++ row);
}

abbrev pub decreases-loop-word : goal.decreases-loop-word
decreases-loop-word l = length l.line - l.at
