use Rattle.std.proofs.Common.{◌∙◌, sym, arith}
use Rattle.row_model.specs.Graph.{IsPair}
use Rattle.verdict_judge.proofs.Lines.{pair_here, each_more, least_here, marked_next, repeat_fails, repeat_passes}
use Rattle.std.proofs.lemmas.Result.{IfOk-from_err}
use Rattle.verdict_judge.proofs.repeats.first_repeat_by_table.Goals as goal

pub mark-requires-clause-row : goal.mark-requires-clause-row
mark-requires-clause-row c =
    let p : IsPair c.args.c _ = pair_here _ _ _ _ c.loop-i-test.true c.requires.pairs in (p.a_from, omega (arith, p.a_to, c.loop-i.invariant.0.rows))

pub mark-requires-clause-column : goal.mark-requires-clause-column
mark-requires-clause-column c =
    let p : IsPair c.args.c _ = pair_here _ _ _ _ c.loop-i-test.true c.requires.pairs in (p.b_from, omega (arith, p.b_to, c.loop-i.invariant.0.columns))

pub returns-then-mark : goal.returns-then-mark
returns-then-mark c =
    let p : IsPair c.args.c _ = pair_here _ _ _ _ c.loop-i-test.true c.requires.pairs in
    least_here _ _ _ c.loop-i-test.true c.loop-i.invariant.1 (repeat_fails _ _ _ _ _ c.loop-i-test.true c.loop-i.invariant.0 p (sym c.mark.ensures.before ∙ c.if-mark.true))

pub loop-i-preserved : goal.loop-i-preserved
loop-i-preserved c =
    let p : IsPair c.args.c _ = pair_here _ _ _ _ c.loop-i-test.true c.requires.pairs in (
      marked_next _ _ _ _ _ _ c.loop-i-test.true c.loop-i.invariant.0 p c.mark.ensures.after,
      each_more _ _ c.loop-i.invariant.1 (repeat_passes _ _ _ _ _ c.loop-i-test.true c.loop-i.invariant.0 p (sym c.mark.ensures.before ∙ c.if-mark.false)),
    )

pub returns-in_err-seen : goal.returns-in_err-seen
returns-in_err-seen c = IfOk-from_err c.from_residual.result _ c.from_residual.ensures.0
