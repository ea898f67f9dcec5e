use Rattle.std.proofs.Common.{◌≡◌, ◌++◌, drop}
use Rattle.row_core.specs.Blamed.{marked_from}
use Rattle.row_core.proofs.blamed.marked.Given as goal

abbrev pub invariant-loop-i : goal.invariant-loop-i
invariant-loop-i l = l.rows.items ++ marked_from l.marks l.i (drop l.i l.list) ≡ marked_from l.marks l.from (drop l.from l.list)
