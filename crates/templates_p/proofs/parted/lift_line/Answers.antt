use Rattle.std.proofs.Common.{arith}
use Rattle.arena_model.specs.declared.Shape.TheVariants.{P, Q}
use Rattle.arena_model.proofs.Slots.{used_by, in_range}
use Rattle.templates_p.proofs.Lifting.{ready_to_lift, lifted, ready_to_part, lift_room}
use Rattle.templates_p.proofs.parted.lift_line.Goals as goal

pub hand_over-requires : goal.hand_over-requires
hand_over-requires g c = c.requires.can.hand

pub label-label-requires : goal.label-label-requires
label-label-requires g c = omega (arith, in_range c.args.arena.now c.args.node.index (used_by c.args.arena.now c.args.node.index P c.requires.can.hand.is_p), c.requires.can.room)

pub put-requires-clause-old : goal.put-requires-clause-old
put-requires-clause-old g c = omega (arith, in_range c.args.arena.now c.args.node.index (used_by c.args.arena.now c.args.node.index P c.requires.can.hand.is_p), c.requires.can.room)

pub put-requires-clause-new : goal.put-requires-clause-new
put-requires-clause-new g c = omega (arith, in_range c.args.arena.now c.args.line.index (used_by c.args.arena.now c.args.line.index Q c.requires.can.is_q), c.requires.can.room)

pub empty_part-part-requires-clause-alone : goal.empty_part-part-requires-clause-alone
empty_part-part-requires-clause-alone g c = c.hand_over.ensures.handed.alone

pub empty_part-part-requires-clause-is_p : goal.empty_part-part-requires-clause-is_p
empty_part-part-requires-clause-is_p g c = (ready_to_part c.args.arena.now c.hand_over.new.arena c.args.work.now c.args.node.index c.args.line.index c.layout_law.ensures c.requires.can c.hand_over.ensures.handed).shape

pub empty_part-part-requires-clause-some : goal.empty_part-part-requires-clause-some
empty_part-part-requires-clause-some g c = (ready_to_part c.args.arena.now c.hand_over.new.arena c.args.work.now c.args.node.index c.args.line.index c.layout_law.ensures c.requires.can c.hand_over.ensures.handed).some

pub empty_part-part-requires-clause-room : goal.empty_part-part-requires-clause-room
empty_part-part-requires-clause-room g c = lift_room c.args.arena.now c.args.work.now c.put.new.self c.args.node.index c.args.line.index c.args.node c.args.line c.label-label.result c.requires.can c.put.ensures

pub put_end-requires-clause-q : goal.put_end-requires-clause-q
put_end-requires-clause-q g c = (ready_to_lift c.args.arena.now c.hand_over.new.arena c.empty_part-part.new.arena c.args.work.now c.put.new.self c.empty_part-part.new.work c.args.node.index c.args.line.index c.empty_part-part.result.index
    c.layout_law.ensures c.layout_law-2.ensures c.layout_law-3.ensures c.requires.can c.hand_over.ensures.handed c.empty_part-part.ensures.part).shape

pub put_end-requires-clause-n : goal.put_end-requires-clause-n
put_end-requires-clause-n g c = (ready_to_lift c.args.arena.now c.hand_over.new.arena c.empty_part-part.new.arena c.args.work.now c.put.new.self c.empty_part-part.new.work c.args.node.index c.args.line.index c.empty_part-part.result.index
    c.layout_law.ensures c.layout_law-2.ensures c.layout_law-3.ensures c.requires.can c.hand_over.ensures.handed c.empty_part-part.ensures.part).alone

pub put_end-requires-clause-apart : goal.put_end-requires-clause-apart
put_end-requires-clause-apart g c = (ready_to_lift c.args.arena.now c.hand_over.new.arena c.empty_part-part.new.arena c.args.work.now c.put.new.self c.empty_part-part.new.work c.args.node.index c.args.line.index c.empty_part-part.result.index
    c.layout_law.ensures c.layout_law-2.ensures c.layout_law-3.ensures c.requires.can c.hand_over.ensures.handed c.empty_part-part.ensures.part).no_way

pub returns-clause-parted : goal.returns-clause-parted
returns-clause-parted g c = lifted c.args.arena.now c.hand_over.new.arena c.empty_part-part.new.arena c.put_end.new.self c.args.work.now c.put.new.self c.empty_part-part.new.work
    c.args.node c.args.line c.empty_part-part.result.index c.args.end c.label-label.result c.layout_law.ensures c.layout_law-2.ensures c.layout_law-3.ensures c.requires.can
    c.hand_over.ensures.handed c.put.ensures c.label-label.ensures c.empty_part-part.ensures.part c.put_end.ensures.changed
