use Rattle.std.proofs.Common.{◌≡◌, ◌<◌, ◌≤◌, ◌+◌, ◌||◌, ℕ, drop, take, length, map, get_or, false}
use Rattle.std.specs.List.{list_all}
use Rattle.column_order.specs.Orders.{has}
use Rattle.matrix_read.specs.Clones.{is_probe, column_of}
use Rattle.matrix_read.specs.Marks.{AreMarkedColumns}
use Rattle.matrix_read.specs.Names.{bytes_of}
use Rattle.matrix_read.proofs.clones.mark_names.Given as goal

abbrev pub invariant-loop-place : goal.invariant-loop-place
invariant-loop-place l = record {
  named : list_all (is_probe (bytes_of l.names.keys)) (bytes_of (drop l.place l.list)) ≡ list_all (is_probe (bytes_of l.names.keys)) (bytes_of l.list);
  marks : (j : ℕ) → j < length l.initial.marks → (get_or l.marks j false || has (map (column_of (bytes_of l.names.keys)) (bytes_of (drop l.place l.list))) (j + 1)) ≡ has (map (column_of (bytes_of l.names.keys)) (bytes_of l.list)) (j + 1);
  listed : AreMarkedColumns l.marks (take l.count l.columns);
  few : l.count ≤ length l.initial.marks;
}
