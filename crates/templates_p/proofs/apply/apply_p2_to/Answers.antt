use Rattle.std.proofs.Common.{arith}
use Rattle.arena_model.specs.declared.Shape.TheVariants.{P}
use Rattle.arena_model.proofs.Slots.{used_by}
use Rattle.pq_arena.specs.RowNodes.{indices}
use Rattle.template_model.proofs.Spare.{five_spare}
use Rattle.templates_p.proofs.Grouping.{ready_to_group}
use Rattle.templates_p.proofs.Members.{members_grouped}
use Rattle.templates_p.proofs.apply.apply_p2_to.Goals as goal

pub move_under-group-requires-clause-above : goal.move_under-group-requires-clause-above
move_under-group-requires-clause-above g c = c.requires.one c.args.node.index (used_by c.args.arena.now c.args.node.index P c.requires.members.is_p)

pub move_under-group-requires-clause-some : goal.move_under-group-requires-clause-some
move_under-group-requires-clause-some g c = omega (arith, five_spare c.args.arena.now c.layout_law.ensures c.requires.one c.requires.two)

pub attach-requires-clause-apart : goal.attach-requires-clause-apart
attach-requires-clause-apart g c = (ready_to_group c.args.arena.now c.move_under-group.new.arena c.args.node.index c.move_under-group.result.index (indices c.args.members.now) c.layout_law-2.ensures c.move_under-group.ensures.moved).no_way

pub returns-clause-replaced : goal.returns-clause-replaced
returns-clause-replaced g c =
    (members_grouped _ _ _ _ c.args.members.now c.move_under-group.result c.layout_law.ensures c.layout_law-3.ensures c.requires.members c.requires.one c.requires.two
    c.attach.ensures.changed c.move_under-group.ensures.moved).replaced

pub returns-clause-becomes : goal.returns-clause-becomes
returns-clause-becomes g c =
    (members_grouped _ _ _ _ c.args.members.now c.move_under-group.result c.layout_law.ensures c.layout_law-3.ensures c.requires.members c.requires.one c.requires.two
    c.attach.ensures.changed c.move_under-group.ensures.moved).becomes
