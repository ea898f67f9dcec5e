-- A proper tree has few rows: fewer than two for each column.
use Rattle.std.proofs.Common.{◌≡◌, ℕ, ◌+◌, ◌≤◌, length, refl, arith, length-append}
use Rattle.std.proofs.lemmas.List.{length-map}
use Rattle.column_order.proofs.Counts.{order_length}
use Rattle.pq_tree.specs.Outline.{Outline, Forest, leaf, p_node, q_node, no_tree, tree_and, leaves, leaves_of}
use Rattle.pq_tree.specs.Forests.{count}
use Rattle.pq_tree.specs.Proper.{HasArities, HaveArities, IsProper}
use Rattle.tree_meet.specs.TreeRows.{pairs_from, neighbours, groups, groups_of, row_of_group, rows_of_tree}

pairs_few : (t : Outline) (us : Forest) → length (pairs_from t us) ≡ count us
pairs_few t no_tree = refl
pairs_few t (tree_and u us) = omega (arith, pairs_few u us)

neighbours_fewer : (ts : Forest) → 1 ≤ count ts → length (neighbours ts) + 1 ≡ count ts
neighbours_fewer no_tree h = absurd (omega arith)
neighbours_fewer (tree_and t ts) h = omega (arith, pairs_few t ts)

mutual
  groups_few : (t : Outline) → HasArities t → length (groups t) + 2 ≤ length (leaves t) + length (leaves t)
  groups_few (leaf a) h = omega arith
  groups_few (p_node ts) h = omega (arith, h.0, groups_of_few ts h.1)
  groups_few (q_node ts) h =
      omega (arith, h.0, groups_of_few ts h.1, length-append (neighbours ts) (groups_of ts), neighbours_fewer ts (omega (arith, h.0)))

  groups_of_few : (ts : Forest) → HaveArities ts → length (groups_of ts) + (count ts + count ts) ≤ length (leaves_of ts) + length (leaves_of ts)
  groups_of_few no_tree h = omega arith
  groups_of_few (tree_and t ts) h =
      omega (arith, groups_few t h.0, groups_of_few ts h.1, length-append (groups t) (groups_of ts), length-append (leaves t) (leaves_of ts))

pub rows_few : (c : ℕ) (t : Outline) → IsProper c t → length (rows_of_tree c t) + 2 ≤ c + c
rows_few c t proper = omega (arith, groups_few t proper.0, order_length c (leaves t) proper.1, length-map (groups t) (row_of_group c))
