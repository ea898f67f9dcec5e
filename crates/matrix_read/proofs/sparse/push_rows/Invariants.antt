use Rattle.std.proofs.Common.{◌≡◌, ◌≤◌, ◌-◌, ◌++◌, ℕ, List, false, drop, length, get_or}
use Rattle.row_model.specs.declared.TheConstants.{MAX_ROWS}
use Rattle.text_lines.specs.Lines.{lines_of}
use Rattle.matrix_read.specs.RowsThen.{rows_then}
use Rattle.matrix_read.proofs.sparse.push_rows.Given as goal

abbrev pub invariant-loop-at : goal.invariant-loop-at
invariant-loop-at l = record {
  within : l.at ≤ length l.text;
  few : length l.matrix.rows ≤ MAX_ROWS;
  columns : l.matrix.columns ≡ l.initial.matrix.columns;
  clear : (j : ℕ) → get_or l.marks j false ≡ false;
  so_far : (later : List (List ℕ)) → rows_then l.passed l.matrix (lines_of (drop l.at l.text) ++ later) ≡ rows_then l.passed l.initial.matrix (lines_of l.text ++ later);
}

abbrev pub decreases-loop-at : goal.decreases-loop-at
decreases-loop-at l = length l.text - l.at
