use Rattle.templates_q.proofs.Stretches.{span_passed}
use Rattle.templates_q.proofs.stretch.past_span.Goals as goal

pub pass-fulls-requires-clause-place : goal.pass-fulls-requires-clause-place
pass-fulls-requires-clause-place g c = let r = c.requires.place in let p = c.past_partial-first.ensures.passed r.0 r.1 r.2 r.3 in (r.0, _, p.rest, p.gap)

pub past_partial-last-requires-clause-place : goal.past_partial-last-requires-clause-place
past_partial-last-requires-clause-place g c = let r = c.requires.place in let p = c.past_partial-first.ensures.passed r.0 r.1 r.2 r.3 in
    let b = c.pass-fulls.ensures.passed r.0 _ p.rest p.gap in (r.0, _, b.rest, b.gap)

pub returns-clause-passed : goal.returns-clause-passed
returns-clause-passed g c = λ q us vs gap.
    span_passed c.args.arena.now c.args.work.now q us vs
    (record { from = c.args.from; first = c.past_partial-first.result; fulls = c.pass-fulls.result; last = c.past_partial-last.result }) gap
    c.past_partial-first.ensures.passed c.past_partial-first.ensures.stops c.past_partial-first.ensures.one
    c.pass-fulls.ensures.passed c.pass-fulls.ensures.stops
    c.past_partial-last.ensures.passed c.past_partial-last.ensures.stops c.past_partial-last.ensures.one
