use Rattle.std.proofs.Common.{take}
use Rattle.tree_meet.specs.Marks.{is_at, ArePartsBy}
use Rattle.tree_meet.proofs.part.parts_of.Given as goal

abbrev pub invariant-loop-column : goal.invariant-loop-column
invariant-loop-column l = ArePartsBy is_at l.marks (take l.column-index l.row) l.count l.parts.items
