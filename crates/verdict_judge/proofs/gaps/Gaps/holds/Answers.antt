use Rattle.std.proofs.Common.{◌↔◌, length, subst}
use Rattle.std.specs.Prelude.{IsTrue}
use Rattle.row_model.proofs.Ascending.{row_within}
use Rattle.row_model.specs.Positions.{IsSpan}
use Rattle.verdict_judge.specs.Gaps.{AreWithin}
use Rattle.verdict_judge.proofs.GapRows.{Spans, span_bounds, run_holds, no_run}
use Rattle.verdict_judge.proofs.gaps.Gaps.holds.Goals as goal

pub span_of-requires : goal.span_of-requires
span_of-requires g c = rw c.deref.ensures.value (row_within (length c.args.self.now.positions.items) c.args.row.now c.requires.row)

pub are_within-requires : goal.are_within-requires
are_within-requires g c =
    let t = c.requires.tree in
    rw c.deref-then-last-first.ensures.value
    (span_bounds c.args.self.now t.0 c.args.row.now t.1 c.requires.row c.in-Some.field-0
    (subst (λ ps. Spans ps c.args.row.now c.in-Some.field-0) c.deref.ensures.value c.in-Some.ensures.spans))

pub returns-then-last-first-clause-holds : goal.returns-then-last-first-clause-holds
returns-then-last-first-clause-holds g c t are =
    run_holds c.args.self.now t c.args.row.now are c.requires.row c.in-Some.field-0
    (subst (λ ps. Spans ps c.args.row.now c.in-Some.field-0) c.deref.ensures.value c.in-Some.ensures.spans) c.are_within.result
    (subst (λ ps. IsSpan ps c.args.row.now c.in-Some.field-0) c.deref.ensures.value c.in-Some.ensures.least) c.if-last-first.true
    (subst (λ gs. IsTrue c.are_within.result ↔ AreWithin gs c.in-Some.field-0.first c.in-Some.field-0.last) c.deref-then-last-first.ensures.value c.are_within.ensures.within)

pub returns-else-last-first-clause-holds : goal.returns-else-last-first-clause-holds
returns-else-last-first-clause-holds g c t are =
    no_run c.args.self.now t c.args.row.now are c.requires.row c.in-Some.field-0
    (subst (λ ps. Spans ps c.args.row.now c.in-Some.field-0) c.deref.ensures.value c.in-Some.ensures.spans)
    (subst (λ ps. IsSpan ps c.args.row.now c.in-Some.field-0) c.deref.ensures.value c.in-Some.ensures.least) c.if-last-first.false
