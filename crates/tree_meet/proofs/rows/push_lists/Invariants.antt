use Rattle.std.proofs.Common.{◌≡◌, ◌++◌, take}
use Rattle.tree_meet.specs.Marks.{lists_of}
use Rattle.tree_meet.proofs.rows.push_lists.Given as goal

abbrev pub invariant-loop-row : goal.invariant-loop-row
invariant-loop-row l = l.m ≡ record l.initial.m { rows = l.initial.m.rows ++ lists_of (take l.row-index l.rows) }
