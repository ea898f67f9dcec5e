use Rattle.std.proofs.Common.{◌≡◌, length}
use Rattle.pq_tree.specs.Outline.{leaves}
use Rattle.pq_tree.specs.PqTree.{outline}
use Rattle.tree_meet.specs.TreeRows.{row_of_group}
use Rattle.tree_meet.proofs.rows.all_columns.Given as goal

abbrev pub invariant-loop-i : goal.invariant-loop-i
invariant-loop-i l =
    record {
      row : l.columns.items ≡ row_of_group l.i (leaves (outline l.tree));
      count : length l.columns.items ≡ l.i;
    }
