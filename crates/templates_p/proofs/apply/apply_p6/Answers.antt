use Rattle.std.proofs.Common.{arith}
use Rattle.templates_p.proofs.Composing.{composed}
use Rattle.templates_p.proofs.FullEnd.{partial_child, same_room}
use Rattle.templates_p.proofs.Lengthening.{can_put_in_if, lengthened}
use Rattle.templates_p.proofs.TwoPartials.{other_partial, p6_two, p6_can_gather, are_ready, can_merge}
use Rattle.templates_p.proofs.Joined.{p6_becomes}
use Rattle.templates_p.proofs.apply.apply_p6.Goals as goal

pub child_with-first-requires : goal.child_with-first-requires
child_with-first-requires g c = partial_child c.args.arena.now c.args.work.now c.args.node.index c.layout_law.ensures c.requires.ready
    (omega (arith, p6_two c.args.arena.now c.args.work.now c.args.node.index c.requires.stands))

pub child_with-second-requires : goal.child_with-second-requires
child_with-second-requires g c = other_partial c.args.arena.now c.args.work.now c.args.node.index c.child_with-first.result.index c.layout_law.ensures c.requires.ready
    (omega (arith, p6_two c.args.arena.now c.args.work.now c.args.node.index c.requires.stands))

pub gather-group-requires : goal.gather-group-requires
gather-group-requires g c = p6_can_gather c.args.arena.now c.args.work.now c.args.node.index c.requires.ready c.requires.stands

pub full_end-end-requires-clause-room : goal.full_end-end-requires-clause-room
full_end-end-requires-clause-room g c = same_room c.args.arena.now c.gather-group.new.arena c.args.work.now c.gather-group.new.work c.args.node.index c.args.node.index
    c.layout_law.ensures c.layout_law-2.ensures c.requires.ready.room c.gather-group.ensures.treated

pub full_end-end-requires-clause-shape : goal.full_end-end-requires-clause-shape
full_end-end-requires-clause-shape g c =
    let r = are_ready _ _ _ _ _ _ _ _ c.layout_law.ensures c.layout_law-2.ensures c.requires.ready c.requires.stands c.child_with-first.ensures.child c.child_with-first.ensures.labelled
    c.child_with-second.ensures.child c.child_with-second.ensures.labelled c.child_with-second.ensures.other c.gather-group.ensures.treated c.gather-group.ensures.gathered in
    r.shape

pub lengthen-requires-clause-can : goal.lengthen-requires-clause-can
lengthen-requires-clause-can g c =
    let r = are_ready _ _ _ _ _ _ _ _ c.layout_law.ensures c.layout_law-2.ensures c.requires.ready c.requires.stands c.child_with-first.ensures.child c.child_with-first.ensures.labelled
    c.child_with-second.ensures.child c.child_with-second.ensures.labelled c.child_with-second.ensures.other c.gather-group.ensures.treated c.gather-group.ensures.gathered in
    can_put_in_if c.gather-group.new.arena c.gather-group.new.work c.args.node.index c.child_with-first.result.index c.child_with-second.result.index c.gather-group.result r.can

pub full_end-other_end-requires-clause-room : goal.full_end-other_end-requires-clause-room
full_end-other_end-requires-clause-room g c =
    let r = are_ready _ _ _ _ _ _ _ _ c.layout_law.ensures c.layout_law-2.ensures c.requires.ready c.requires.stands c.child_with-first.ensures.child c.child_with-first.ensures.labelled
    c.child_with-second.ensures.child c.child_with-second.ensures.labelled c.child_with-second.ensures.other c.gather-group.ensures.treated c.gather-group.ensures.gathered in
    let l = lengthened _ _ _ _ _ _ _ _ c.layout_law-2.ensures c.layout_law-3.ensures r.can c.lengthen.ensures.put in
    same_room c.gather-group.new.arena c.lengthen.new.arena c.gather-group.new.work c.gather-group.new.work c.args.node.index c.args.node.index
    c.layout_law-2.ensures c.layout_law-3.ensures r.can.room l.treated

pub full_end-other_end-requires-clause-shape : goal.full_end-other_end-requires-clause-shape
full_end-other_end-requires-clause-shape g c =
    let r = are_ready _ _ _ _ _ _ _ _ c.layout_law.ensures c.layout_law-2.ensures c.requires.ready c.requires.stands c.child_with-first.ensures.child c.child_with-first.ensures.labelled
    c.child_with-second.ensures.child c.child_with-second.ensures.labelled c.child_with-second.ensures.other c.gather-group.ensures.treated c.gather-group.ensures.gathered in
    let l = lengthened _ _ _ _ _ _ _ _ c.layout_law-2.ensures c.layout_law-3.ensures r.can c.lengthen.ensures.put in
    (r.other_shape.0, (l.same c.child_with-second.result.index r.can.other c.child_with-second.ensures.other).shape r.other_shape.0 r.other_shape.1)

pub merge-top-requires-clause-can : goal.merge-top-requires-clause-can
merge-top-requires-clause-can g c =
    let r = are_ready _ _ _ _ _ _ _ _ c.layout_law.ensures c.layout_law-2.ensures c.requires.ready c.requires.stands c.child_with-first.ensures.child c.child_with-first.ensures.labelled
    c.child_with-second.ensures.child c.child_with-second.ensures.labelled c.child_with-second.ensures.other c.gather-group.ensures.treated c.gather-group.ensures.gathered in
    let l = lengthened _ _ _ _ _ _ _ _ c.layout_law-2.ensures c.layout_law-3.ensures r.can c.lengthen.ensures.put in
    can_merge c.gather-group.new.arena c.lengthen.new.arena c.gather-group.new.work c.args.node.index c.child_with-first.result.index c.child_with-second.result.index c.full_end-end.result c.gather-group.result
    c.layout_law-2.ensures c.layout_law-3.ensures r.can r.other_shape.0 r.other_shape.1 l

pub returns-clause-treated : goal.returns-clause-treated
returns-clause-treated g c =
    let r = are_ready _ _ _ _ _ _ _ _ c.layout_law.ensures c.layout_law-2.ensures c.requires.ready c.requires.stands c.child_with-first.ensures.child c.child_with-first.ensures.labelled
    c.child_with-second.ensures.child c.child_with-second.ensures.labelled c.child_with-second.ensures.other c.gather-group.ensures.treated c.gather-group.ensures.gathered in
    let l = lengthened _ _ _ _ _ _ _ _ c.layout_law-2.ensures c.layout_law-3.ensures r.can c.lengthen.ensures.put in
    composed c.args.arena.now c.lengthen.new.arena c.merge-top.new.arena c.args.work.now c.gather-group.new.work c.merge-top.new.work c.args.node.index c.merge-top.result.index
    c.layout_law.ensures c.layout_law-3.ensures c.layout_law-4.ensures
    (composed c.args.arena.now c.gather-group.new.arena c.lengthen.new.arena c.args.work.now c.gather-group.new.work c.gather-group.new.work c.args.node.index c.args.node.index
    c.layout_law.ensures c.layout_law-2.ensures c.layout_law-3.ensures c.gather-group.ensures.treated l.treated) c.merge-top.ensures.treated

pub returns-clause-becomes : goal.returns-clause-becomes
returns-clause-becomes g c = λ ps u m s p.
    let r = are_ready _ _ _ _ _ _ _ _ c.layout_law.ensures c.layout_law-2.ensures c.requires.ready c.requires.stands c.child_with-first.ensures.child c.child_with-first.ensures.labelled
    c.child_with-second.ensures.child c.child_with-second.ensures.labelled c.child_with-second.ensures.other c.gather-group.ensures.treated c.gather-group.ensures.gathered in
    let l = lengthened _ _ _ _ _ _ _ _ c.layout_law-2.ensures c.layout_law-3.ensures r.can c.lengthen.ensures.put in
    p6_becomes c.args.arena.now c.gather-group.new.arena c.lengthen.new.arena c.merge-top.new.arena c.args.work.now c.gather-group.new.work c.merge-top.new.work
    c.args.node.index c.child_with-first.result.index c.child_with-second.result.index c.full_end-end.result c.full_end-other_end.result c.merge-top.result.index c.gather-group.result ps u
    c.layout_law-4.ensures m s r c.full_end-end.ensures.end l c.full_end-other_end.ensures.end c.merge-top.ensures.merged p
