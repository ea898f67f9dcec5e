use Rattle.std.proofs.Common.{arith}
use Rattle.std.proofs.lemmas.Grind.{common_steps}
use Rattle.pq_arena.specs.RowNodes.{indices}
use Rattle.templates_p.proofs.Dividing.{moved_off, one_off, many_members, one_member}
use Rattle.templates_p.proofs.two_parts.part_off.Goals as goal

pub returns-then-members-gt1-clause-off : goal.returns-then-members-gt1-clause-off
returns-then-members-gt1-clause-off g c = moved_off c.args.arena.now c.move_under.new.arena c.args.node.index c.move_under.result.index (indices c.args.members.now)
    (many_members c.args.members.now c.if-members-gt1.true) c.move_under.ensures.moved

pub returns-clause-off : goal.returns-clause-off
returns-clause-off g c = one_off c.args.arena.now c.detach.new.self c.args.node.index _ (indices c.args.members.now) c.layout_law.ensures c.requires.members
    (one_member c.args.members.now (record { index = 0 }) c.requires.members.some c.if-members-gt1.false) c.detach.ensures.changed

pub move_under-requires-clause-members : goal.move_under-requires-clause-members
move_under-requires-clause-members g c = grind (arith, common_steps)

pub bounds-members-0 : goal.bounds-members-0
bounds-members-0 g c = grind (arith, common_steps)

pub detach-requires : goal.detach-requires
detach-requires g c = grind (arith, common_steps)
