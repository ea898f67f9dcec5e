use Rattle.std.proofs.Common.{◌≡◌, ◌<◌, ◌≤◌, ◌+◌, ◌-◌, ◌||◌, ℕ, false, drop, take, length, get_or}
use Rattle.column_order.specs.Orders.{has}
use Rattle.text_lines.specs.Words.{words_of}
use Rattle.matrix_read.specs.Sparse.{words_code}
use Rattle.matrix_read.specs.SparseSteps.{columns_named}
use Rattle.matrix_read.specs.Marks.{AreMarkedColumns}
use Rattle.matrix_read.proofs.sparse.mark_columns.Given as goal

abbrev pub invariant-loop-word : goal.invariant-loop-word
invariant-loop-word l = record {
  within : l.at ≤ length l.line;
  code : words_code (length l.initial.marks) (words_of (drop l.at l.line)) ≡ words_code (length l.initial.marks) (words_of l.line);
  marks : (j : ℕ) → j < length l.initial.marks → (get_or l.marks j false || has (columns_named (words_of (drop l.at l.line))) (j + 1)) ≡ has (columns_named (words_of l.line)) (j + 1);
  listed : AreMarkedColumns l.marks (take l.count l.columns);
  few : l.count ≤ length l.initial.marks;
}

abbrev pub decreases-loop-word : goal.decreases-loop-word
decreases-loop-word l = length l.line - l.at
