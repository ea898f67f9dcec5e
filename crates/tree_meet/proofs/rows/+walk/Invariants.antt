use Rattle.std.proofs.Common.{◌≡◌, ◌++◌, map, take}
use Rattle.pq_tree.specs.Proper.{outline_of, forest}
use Rattle.tree_meet.specs.TreeRows.{groups_of, row_of_group}
use Rattle.tree_meet.proofs.rows.+walk.Given as goal

abbrev pub invariant-push_trees-loop-i : goal.invariant-push_trees-loop-i
invariant-push_trees-loop-i l =
    l.m ≡ record l.initial.m { rows = l.initial.m.rows ++ map (row_of_group l.initial.m.columns) (groups_of (forest (map outline_of (take l.i l.trees)))) }
