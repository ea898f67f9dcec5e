use Rattle.std.proofs.Common.{take}
use Rattle.tree_meet.specs.Marks.{is_near, ArePartsBy}
use Rattle.tree_meet.proofs.part.pairs_of.Given as goal

abbrev pub invariant-loop-column : goal.invariant-loop-column
invariant-loop-column l = ArePartsBy is_near l.marks (take l.column-index l.row) l.count l.pairs.items
