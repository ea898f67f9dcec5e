use Rattle.std.proofs.Common.{◌+◌, ◌≤◌, ◌++◌, ◌∷◌, [], arith}
use Rattle.arena_model.specs.Layout.{children_at}
use Rattle.arena_model.proofs.Slots.{child_used}
use Rattle.templates_q.specs.Span.{labelled_in}
use Rattle.templates_q.proofs.Stretches.{begins_empty, aside, start_made, start_few}
use Rattle.templates_q.proofs.stretch.start_of.Goals as goal

pub look-view-requires : goal.look-view-requires
look-view-requires g c = let r = c.requires.child in child_used c.args.arena.now r.0 c.args.x.index c.layout_law.ensures r.1.child

pub pass-requires-clause-place : goal.pass-requires-clause-place
pass-requires-clause-place g c = let r = c.requires.child in
    let a = aside c.args.arena.now c.args.work.now r.0 c.args.x c.look-view.result c.layout_law.ensures r.1 c.look-view.ensures.shows in
    (r.0, a.us ++ c.args.x.index ∷ [], a.vs, a.place)

pub returns-clause-start : goal.returns-clause-start
returns-clause-start g c = λ q m.
    let f = c.args.arena.now in let w = c.args.work.now in let x = c.args.x in
    let a = aside f w q x c.look-view.result c.layout_law.ensures m c.look-view.ensures.shows in
    let p = c.pass.ensures.passed q (a.us ++ x.index ∷ []) a.vs a.place in
    start_made f w q x a.us a.vs c.pass.result m.marked p (begins_empty w p.rest (c.pass.ensures.stops q ((a.us ++ x.index ∷ []) ++ p.ks) p.rest p.gap))

pub returns-clause-ticks : goal.returns-clause-ticks
returns-clause-ticks g c = λ q m.
    let f = c.args.arena.now in let w = c.args.work.now in let x = c.args.x in
    let a = aside f w q x c.look-view.result c.layout_law.ensures m c.look-view.ensures.shows in
    let p = c.pass.ensures.passed q (a.us ++ x.index ∷ []) a.vs a.place in
    let few : 1 + c.pass.result.count ≤ labelled_in w (children_at f q) = start_few f w q x a.us a.vs c.pass.result m.marked p in
    omega (arith, c.pass.ensures.ticks, c.look-view.ensures.ticks)
