use Rattle.std.proofs.Common.{◌≡◌, ℕ, ◌+◌, ◌≤◌, List, [], true, false, ◌++◌, length, sym, ap, ◌∙◌, arith, length-append}
use Rattle.arena_model.specs.Layout.{Layout}
use Rattle.bubble_pass.specs.Marks.{Marks}
use Rattle.templates_q.specs.declared.walk.Passed.{Passed}
use Rattle.templates_q.specs.Lines.{AreCounted}
use Rattle.templates_q.proofs.Walks.{PassedTwo, passed_two, next_is, next_none}
use Rattle.templates_q.proofs.Lines.{run_counted, counted_run, passed_within}
use Rattle.templates_q.proofs.q2.is_run_from.Goals as goal

pub past_partial-partial-requires-clause-place : goal.past_partial-partial-requires-clause-place
past_partial-partial-requires-clause-place g c = let r = c.requires.place in let p = c.pass-fulls.ensures.passed r.0 [] r.1 r.2 in (r.0, p.ks, p.rest, p.gap)

pub returns-in-Some-clause-run : goal.returns-in-Some-clause-run
returns-in-Some-clause-run g c = λ q ks gap counted.
    let f = c.args.arena.now in let w = c.args.work.now in
    let p = passed_two f w q [] ks c.pass-fulls.result c.past_partial-partial.result (c.pass-fulls.ensures.passed q [] ks gap) c.pass-fulls.ensures.stops
    c.past_partial-partial.ensures.passed c.past_partial-partial.ensures.stops c.past_partial-partial.ensures.one in
    let i = next_is f q p.fs (p.ps ++ p.rest) c.pass-fulls.result.gap _ c.layout_law.ensures p.first c.in-Some.is in
    let some : 1 ≤ length p.ps + length p.rest = (let e : length (p.ps ++ p.rest) ≡ 1 + length i.rest = ap length i.is ∙ omega arith in omega (arith, length-append p.ps p.rest)) in (
      (λ t. let s = c.are_counts.ensures.0 t in
          run_counted w ks p.fs p.ps p.rest c.args.counts.full c.args.counts.partial p.is p.full p.partial p.one counted some (s.0 ∙ sym p.fulls) (s.1 ∙ sym p.partials)),
      (λ run. let s = counted_run w ks p.fs p.ps p.rest c.args.counts.full c.args.counts.partial p.is p.full p.partial p.one p.no_full p.no_partial counted run in
          c.are_counts.ensures.1 (s.full ∙ p.fulls, s.partial ∙ p.partials)),
    )

pub returns-in-None-clause-run : goal.returns-in-None-clause-run
returns-in-None-clause-run g c = λ q ks gap counted.
    let f = c.args.arena.now in let w = c.args.work.now in
    let p = passed_two f w q [] ks c.pass-fulls.result c.past_partial-partial.result (c.pass-fulls.ensures.passed q [] ks gap) c.pass-fulls.ensures.stops
    c.past_partial-partial.ensures.passed c.past_partial-partial.ensures.stops c.past_partial-partial.ensures.one in
    let e : length (p.ps ++ p.rest) ≡ 0 = ap length (next_none f q p.fs (p.ps ++ p.rest) c.pass-fulls.result.gap c.layout_law.ensures p.first c.in-None.is) in (
      (λ t. absurd (let e : false ≡ true = t in cc)),
      (λ run. absurd (let s = counted_run w ks p.fs p.ps p.rest c.args.counts.full c.args.counts.partial p.is p.full p.partial p.one p.no_full p.no_partial counted run in
          let k : 1 ≤ length p.ps + length p.rest = s.some in omega (arith, length-append p.ps p.rest))),
    )

within : (f : Layout) (w : Marks) (q : ℕ) (ks : List ℕ) (a b : Passed) (full partial s t u : ℕ) → PassedTwo f w q [] ks a b → AreCounted w ks full partial → t ≡ s + a.count → u ≡ t + b.count → u ≤ s + full + partial
within f w q ks a b full partial s t u p c x y =
    let r = passed_within w ks p.fs p.ps p.rest full partial p.is p.full p.partial c in
    let r0 : length p.fs ≤ full = r.0 in let r1 : length p.ps ≤ partial = r.1 in
    let m : length p.fs ≡ a.count = p.fulls in let n : length p.ps ≡ b.count = p.partials in omega arith

pub returns-in-Some-clause-ticks : goal.returns-in-Some-clause-ticks
returns-in-Some-clause-ticks g c = let r = c.requires.place in
    within c.args.arena.now c.args.work.now r.0 r.1 c.pass-fulls.result c.past_partial-partial.result c.args.counts.full c.args.counts.partial c.args.steps.now c.pass-fulls.new.steps c.past_partial-partial.new.steps
    (passed_two c.args.arena.now c.args.work.now r.0 [] r.1 c.pass-fulls.result c.past_partial-partial.result (c.pass-fulls.ensures.passed r.0 [] r.1 r.2) c.pass-fulls.ensures.stops
    c.past_partial-partial.ensures.passed c.past_partial-partial.ensures.stops c.past_partial-partial.ensures.one) r.3 c.pass-fulls.ensures.ticks c.past_partial-partial.ensures.ticks

pub returns-in-None-clause-ticks : goal.returns-in-None-clause-ticks
returns-in-None-clause-ticks g c = let r = c.requires.place in
    within c.args.arena.now c.args.work.now r.0 r.1 c.pass-fulls.result c.past_partial-partial.result c.args.counts.full c.args.counts.partial c.args.steps.now c.pass-fulls.new.steps c.past_partial-partial.new.steps
    (passed_two c.args.arena.now c.args.work.now r.0 [] r.1 c.pass-fulls.result c.past_partial-partial.result (c.pass-fulls.ensures.passed r.0 [] r.1 r.2) c.pass-fulls.ensures.stops
    c.past_partial-partial.ensures.passed c.past_partial-partial.ensures.stops c.past_partial-partial.ensures.one) r.3 c.pass-fulls.ensures.ticks c.past_partial-partial.ensures.ticks
