use Rattle.std.proofs.Common.{sym, subst, arith, ◌∙◌}
use Rattle.template_model.specs.Treated.{IsTreated, StandsForPartial}
use Rattle.templates_p.proofs.Composing.{composed}
use Rattle.templates_p.proofs.Ending.{one_partial}
use Rattle.templates_p.proofs.FullEnd.{partial_child, same_room}
use Rattle.templates_p.proofs.Filling.{p5_one, p5_can_gather, p5_partial, gathered_shape, can_fill, filled_line, p5_top, p5_stays, can_lift, lift_treated, p5_lifted}
use Rattle.templates_p.proofs.apply.apply_p5.Goals as goal

pub child_with-line-requires : goal.child_with-line-requires
child_with-line-requires g c = partial_child c.args.arena.now c.args.work.now c.args.node.index c.layout_law.ensures c.requires.ready
    (omega (arith, p5_one c.args.arena.now c.args.work.now c.args.node.index c.requires.stands))

pub gather-group-requires : goal.gather-group-requires
gather-group-requires g c = p5_can_gather c.args.arena.now c.args.work.now c.args.node.index c.requires.ready c.requires.stands

pub full_end-end-requires-clause-shape : goal.full_end-end-requires-clause-shape
full_end-end-requires-clause-shape g c =
    let k = p5_partial c.args.arena.now c.args.work.now c.args.node.index c.child_with-line.result.index c.requires.stands c.child_with-line.ensures.child c.child_with-line.ensures.labelled in
    (c.requires.stands.3.1.1.h, gathered_shape c.args.arena.now c.gather-group.new.arena c.args.work.now c.gather-group.new.work c.args.node.index c.child_with-line.result.index c.gather-group.result _ _ _ k c.gather-group.ensures.gathered)

pub full_end-end-requires-clause-room : goal.full_end-end-requires-clause-room
full_end-end-requires-clause-room g c = same_room c.args.arena.now c.gather-group.new.arena c.args.work.now c.gather-group.new.work c.args.node.index c.args.node.index
    c.layout_law.ensures c.layout_law-2.ensures c.requires.ready.room c.gather-group.ensures.treated

pub fill_line-top-requires-clause-can : goal.fill_line-top-requires-clause-can
fill_line-top-requires-clause-can g c =
    let k = p5_partial c.args.arena.now c.args.work.now c.args.node.index c.child_with-line.result.index c.requires.stands c.child_with-line.ensures.child c.child_with-line.ensures.labelled in
    can_fill c.args.arena.now c.gather-group.new.arena c.args.work.now c.gather-group.new.work c.args.node.index c.child_with-line.result.index c.gather-group.result _ _ _
    c.layout_law.ensures c.layout_law-2.ensures c.requires.ready c.gather-group.ensures.treated k c.child_with-line.ensures.labelled c.gather-group.ensures.gathered

pub lift_line-requires-clause-can : goal.lift_line-requires-clause-can
lift_line-requires-clause-can g c =
    let s = p5_stays _ _ _ _ _ _ _ _ _ _ _ c.requires.stands c.child_with-line.ensures.child c.child_with-line.ensures.labelled
    c.gather-group.ensures.gathered c.full_end-end.ensures.end c.fill_line-top.ensures.filled (λ e. c.if-index.false (c.index.ensures ∙ e ∙ sym c.index-2.ensures)) in
    can_lift _ _ _ _ _ _ _ c.layout_law-3.ensures c.fill_line-top.ensures.treated.arena.one c.fill_line-top.ensures.treated.arena.two s
    (same_room _ _ _ _ _ _ c.layout_law.ensures c.layout_law-3.ensures c.requires.ready.room
    (composed _ _ _ _ _ _ _ _ c.layout_law.ensures c.layout_law-2.ensures c.layout_law-3.ensures c.gather-group.ensures.treated c.fill_line-top.ensures.treated))

pub returns-then-index-clause-treated : goal.returns-then-index-clause-treated
returns-then-index-clause-treated g c =
    composed _ _ _ _ _ _ _ _ c.layout_law.ensures c.layout_law-2.ensures c.layout_law-3.ensures c.gather-group.ensures.treated c.fill_line-top.ensures.treated

pub returns-then-index-clause-becomes : goal.returns-then-index-clause-becomes
returns-then-index-clause-becomes g c = λ ps z marked shapes five.
    let k = one_partial _ _ _ _ ps five.es five.h five.fs marked shapes five.pattern c.child_with-line.ensures.child c.child_with-line.ensures.labelled in
    let b = filled_line _ _ _ _ _ _ _ _ _ _ _ five.es five.h five.fs c.requires.stands.3.0 k c.child_with-line.ensures.labelled
    c.gather-group.ensures.gathered c.full_end-end.ensures.end c.fill_line-top.ensures.filled in
    subst (λ t. StandsForPartial c.fill_line-top.new.arena c.fill_line-top.new.work c.fill_line-top.result.index t) (sym five.becomes)
    (p5_top _ _ _ _ _ _ _ _ five.es five.h five.fs k b (sym c.index.ensures ∙ c.if-index.true ∙ c.index-2.ensures) (λ e. c.child_with-line.ensures.other (sym e)))

pub returns-clause-treated : goal.returns-clause-treated
returns-clause-treated g c =
    let s = p5_stays _ _ _ _ _ _ _ _ _ _ _ c.requires.stands c.child_with-line.ensures.child c.child_with-line.ensures.labelled
    c.gather-group.ensures.gathered c.full_end-end.ensures.end c.fill_line-top.ensures.filled (λ e. c.if-index.false (c.index.ensures ∙ e ∙ sym c.index-2.ensures)) in
    composed _ _ _ _ _ _ _ _ c.layout_law.ensures c.layout_law-3.ensures c.layout_law-4.ensures
    (subst (λ z. IsTreated c.args.arena.now c.fill_line-top.new.arena c.args.work.now c.fill_line-top.new.work c.args.node.index z) s.node
    (composed _ _ _ _ _ _ _ _ c.layout_law.ensures c.layout_law-2.ensures c.layout_law-3.ensures c.gather-group.ensures.treated c.fill_line-top.ensures.treated))
    (lift_treated _ _ _ _ _ _ _ c.layout_law-3.ensures c.fill_line-top.ensures.treated.arena.one c.fill_line-top.ensures.treated.arena.two s
    _ _ _ c.layout_law-4.ensures c.lift_line.ensures.parted)

pub returns-clause-becomes : goal.returns-clause-becomes
returns-clause-becomes g c = λ ps z marked shapes five.
    let s = p5_stays _ _ _ _ _ _ _ _ _ _ _ c.requires.stands c.child_with-line.ensures.child c.child_with-line.ensures.labelled
    c.gather-group.ensures.gathered c.full_end-end.ensures.end c.fill_line-top.ensures.filled (λ e. c.if-index.false (c.index.ensures ∙ e ∙ sym c.index-2.ensures)) in
    let k = one_partial _ _ _ _ ps five.es five.h five.fs marked shapes five.pattern c.child_with-line.ensures.child c.child_with-line.ensures.labelled in
    let b = filled_line _ _ _ _ _ _ _ _ _ _ _ five.es five.h five.fs c.requires.stands.3.0 k c.child_with-line.ensures.labelled
    c.gather-group.ensures.gathered c.full_end-end.ensures.end c.fill_line-top.ensures.filled in
    subst (λ t. StandsForPartial c.lift_line.new.arena c.lift_line.new.work c.child_with-line.result.index t) (sym five.becomes)
    (p5_lifted _ _ _ _ _ _ _ c.layout_law-3.ensures c.fill_line-top.ensures.treated.arena.one c.fill_line-top.ensures.treated.arena.two s
    _ _ _ five.es five.h five.fs c.full_end-end.ensures.small c.layout_law-4.ensures k b c.lift_line.ensures.parted)
