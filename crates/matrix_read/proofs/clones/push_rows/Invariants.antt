use Rattle.std.proofs.Common.{◌≡◌, ◌+◌, ℕ, drop, length, get_or, false}
use Rattle.matrix_read.specs.CloneNames.{clones_view, names_matrix}
use Rattle.matrix_read.specs.Names.{bytes_of}
use Rattle.matrix_read.proofs.CloneLemmas.{matrix_after}
use Rattle.matrix_read.proofs.clones.push_rows.Given as goal

abbrev pub invariant-loop-i : goal.invariant-loop-i
invariant-loop-i l = record {
  columns : l.matrix.columns ≡ l.initial.matrix.columns;
  count : length l.matrix.rows ≡ l.i;
  clear : (j : ℕ) → get_or l.marks j false ≡ false;
  so_far : matrix_after (bytes_of l.names.keys) l.matrix.rows (l.i + 1) (clones_view (drop l.i l.clones)) ≡ names_matrix (bytes_of l.names.keys) (clones_view l.clones);
}
