use Rattle.std.proofs.Common.{sym, subst, arith}
use Rattle.template_model.specs.Treated.{StandsForTree}
use Rattle.templates_p.proofs.Composing.{composed}
use Rattle.templates_p.proofs.Ending.{p4_plain, p4_becomes}
use Rattle.templates_p.proofs.FullEnd.{partial_child, p4_one, p4_can_gather, p4_shape, same_room, line_shape, can_absorb}
use Rattle.templates_p.proofs.apply.apply_p4.Goals as goal

pub child_with-line-requires : goal.child_with-line-requires
child_with-line-requires g c = partial_child c.args.arena.now c.args.work.now c.args.node.index c.layout_law.ensures c.requires.ready
    (omega (arith, p4_one c.args.arena.now c.args.work.now c.args.node.index c.requires.stands))

pub gather-requires : goal.gather-requires
gather-requires g c = p4_can_gather c.args.arena.now c.args.work.now c.args.node.index c.requires.ready c.requires.stands

pub full_end-end-requires-clause-room : goal.full_end-end-requires-clause-room
full_end-end-requires-clause-room g c = same_room c.args.arena.now c.gather.new.arena c.args.work.now c.gather.new.work c.args.node.index c.args.node.index
    c.layout_law.ensures c.layout_law-in-Some.ensures c.requires.ready.room c.gather.ensures.treated

pub full_end-end-requires-clause-shape : goal.full_end-end-requires-clause-shape
full_end-end-requires-clause-shape g c =
    let k = p4_shape c.args.arena.now c.args.work.now c.args.node.index c.child_with-line.result.index c.requires.stands c.child_with-line.ensures.child c.child_with-line.ensures.labelled in
    (c.requires.stands.3.1.1.h, line_shape c.args.arena.now c.gather.new.arena c.args.work.now c.gather.new.work c.args.node.index c.child_with-line.result.index c.in-Some.full.index _ _ _ k c.in-Some.ensures.gathered)

pub absorb-top-requires-clause-can : goal.absorb-top-requires-clause-can
absorb-top-requires-clause-can g c =
    let k = p4_shape c.args.arena.now c.args.work.now c.args.node.index c.child_with-line.result.index c.requires.stands c.child_with-line.ensures.child c.child_with-line.ensures.labelled in
    can_absorb c.args.arena.now c.gather.new.arena c.args.work.now c.gather.new.work c.args.node.index c.child_with-line.result.index c.in-Some.full.index _ _ _
    c.layout_law.ensures c.layout_law-in-Some.ensures c.requires.ready c.gather.ensures.treated k c.child_with-line.ensures.labelled c.in-Some.ensures.gathered

pub returns-in-Some-clause-treated : goal.returns-in-Some-clause-treated
returns-in-Some-clause-treated g c = composed c.args.arena.now c.gather.new.arena c.absorb-top.new.arena c.args.work.now c.gather.new.work c.absorb-top.new.work c.args.node.index c.absorb-top.result.index
    c.layout_law.ensures c.layout_law-in-Some.ensures c.layout_law-in-Some-2.ensures c.gather.ensures.treated c.absorb-top.ensures.treated

pub returns-in-Some-clause-becomes : goal.returns-in-Some-clause-becomes
returns-in-Some-clause-becomes g c = λ ps u m s p. p4_becomes c.args.arena.now c.gather.new.arena c.absorb-top.new.arena c.args.work.now c.gather.new.work c.absorb-top.new.work
    c.args.node.index c.child_with-line.result.index c.in-Some.full.index c.full_end-end.result c.absorb-top.result.index ps u
    c.layout_law-in-Some-2.ensures m s c.child_with-line.ensures.child c.child_with-line.ensures.labelled c.in-Some.ensures.gathered c.full_end-end.ensures.end c.absorb-top.ensures.absorbed p

pub returns-in-None-clause-becomes : goal.returns-in-None-clause-becomes
returns-in-None-clause-becomes g c = λ ps u m s p. subst (λ z. StandsForTree z c.args.node.index u) (sym c.in-None.ensures.gathered.1)
    (p4_plain c.args.arena.now c.args.work.now c.args.node.index c.child_with-line.result.index ps u c.layout_law.ensures c.requires.ready.two c.requires.stands.3.0 m s
    c.child_with-line.ensures.child c.child_with-line.ensures.labelled c.in-None.ensures.gathered.0 p)
