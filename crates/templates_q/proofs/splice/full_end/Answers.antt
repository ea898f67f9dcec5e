use Rattle.std.proofs.Common.{[], sym}
use Rattle.arena_model.specs.declared.Shape.TheVariants.{Q}
use Rattle.arena_model.specs.Layout.{children_at}
use Rattle.arena_model.proofs.Slots.{used_by}
use Rattle.templates_q.proofs.Walks.{next_is, next_room, wanted_known, stops_wanted}
use Rattle.templates_q.proofs.Splicing.{shape_gap, full_in_front, full_behind}
use Rattle.templates_q.specs.declared.walk.Wanted.TheVariants.{Fulls}
use Rattle.templates_q.proofs.splice.full_end.Goals as goal

pub look-view-requires : goal.look-view-requires
look-view-requires g c = used_by c.args.arena.now c.args.line.index Q c.requires.shape.1.is_q

pub wanted_at-requires : goal.wanted_at-requires
wanted_at-requires g c =
    let f = c.args.arena.now in let w = c.args.work.now in let n = c.args.line.index in
    next_room f w n [] (children_at f n) _ c.layout_law.ensures c.requires.room (shape_gap f w n c.requires.shape.0 c.look-view.result c.look-view.ensures.shows c.requires.shape.1)

pub returns-in-Some-clause-end : goal.returns-in-Some-clause-end
returns-in-Some-clause-end g c = λ h s.
    let f = c.args.arena.now in let w = c.args.work.now in let n = c.args.line.index in
    let gap = shape_gap f w n h c.look-view.result c.look-view.ensures.shows s in
    let k = wanted_known Fulls w _ c.in-Some.field-0 (sym c.in-Some.ensures) in
    let i = next_is f n [] (children_at f n) _ c.in-Some.field-0 c.layout_law.ensures gap k.0 in
    full_in_front f w n h s c.in-Some.field-0.index i.rest i.is k.1

pub returns-in-None-clause-end : goal.returns-in-None-clause-end
returns-in-None-clause-end g c = λ h s.
    let f = c.args.arena.now in let w = c.args.work.now in let n = c.args.line.index in
    let gap = shape_gap f w n h c.look-view.result c.look-view.ensures.shows s in
    full_behind f w n h s (stops_wanted Fulls f w n [] (children_at f n) _ c.layout_law.ensures gap (sym c.in-None.ensures))
