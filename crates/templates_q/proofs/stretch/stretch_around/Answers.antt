use Rattle.std.proofs.Common.{◌+◌, ◌≤◌, arith}
use Rattle.arena_model.specs.Layout.{children_at}
use Rattle.templates_q.specs.Span.{labelled_in}
use Rattle.templates_q.proofs.Stretches.{span_few}
use Rattle.templates_q.proofs.stretch.stretch_around.Goals as goal

pub past_span-requires-clause-place : goal.past_span-requires-clause-place
past_span-requires-clause-place g c = let r = c.requires.child in let s = c.start_of-from.ensures.start r.0 r.1 in (r.0, s.us, s.vs, s.place)

pub returns-clause-stretch : goal.returns-clause-stretch
returns-clause-stretch g c = λ q m. let s = c.start_of-from.ensures.start q m in
    record { us = s.us; vs = s.vs; before = s.before; some = s.some; passed = c.past_span.ensures.passed q s.us s.vs s.place }

pub returns-clause-ticks : goal.returns-clause-ticks
returns-clause-ticks g c = λ q m. let s = c.start_of-from.ensures.start q m in
    let a : c.start_of-from.new.steps ≤ c.args.steps.now + labelled_in c.args.work.now (children_at c.args.arena.now q) = c.start_of-from.ensures.ticks q m in
    let few : c.past_span.result.first.count + c.past_span.result.fulls.count + c.past_span.result.last.count ≤ labelled_in c.args.work.now (children_at c.args.arena.now q) =
    span_few c.args.arena.now c.args.work.now q s.us s.vs c.past_span.result (c.past_span.ensures.passed q s.us s.vs s.place) in
    omega (arith, c.past_span.ensures.ticks)
