use Rattle.std.proofs.Common.{◌≡◌, ◌-◌, sym, subst, arith}
use Rattle.row_model.specs.Graph.{IsPair}
use Rattle.verdict_check.specs.Complete.{pair_at}
use Rattle.verdict_check.proofs.Places.{order_pair}
use Rattle.verdict_check.proofs.Looks.{same_pairs, looks_more, looks_fail, looks_all}
use Rattle.verdict_check.proofs.every_order.goes_forward.Goals as goal

pub same-requires : goal.same-requires
same-requires c =
    let ends : c.args.start ≡ c.args.end - 1 → ⊥ = λ e. omega (arith, e) in
    let here : c.args.x ≡ c.loop-y.y → ⊥ = λ e. omega (arith, e) in (
      subst (IsPair c.args.classes.now.columns) (sym c.pair.ensures) (order_pair c.args.classes.now.columns c.args.line.now c.args.start (c.args.end - 1) c.requires.line (omega arith) (omega arith) ends),
      subst (IsPair c.args.classes.now.columns) (sym c.pair-in-loop-y.ensures) (order_pair c.args.classes.now.columns c.args.line.now c.args.x c.loop-y.y c.requires.line (omega arith) (omega arith) here),
    )

pub returns-then-not-same : goal.returns-then-not-same
returns-then-not-same c =
    looks_fail c.args.classes.now (λ R y. R (pair_at c.args.line.now c.args.start (c.args.end - 1)) (pair_at c.args.line.now c.args.x y)) c.args.next c.loop-y.y c.same.result c.args.end (omega arith) (omega arith)
    (same_pairs c.args.classes.now c.same.result c.pair.result c.pair-in-loop-y.result _ _ c.pair.ensures c.pair-in-loop-y.ensures c.same.ensures) c.if-not-same.true

pub loop-y-preserved : goal.loop-y-preserved
loop-y-preserved c =
    looks_more c.args.classes.now (λ R y. R (pair_at c.args.line.now c.args.start (c.args.end - 1)) (pair_at c.args.line.now c.args.x y)) c.args.next c.loop-y.y c.same.result c.loop-y.invariant
    (same_pairs c.args.classes.now c.same.result c.pair.result c.pair-in-loop-y.result _ _ c.pair.ensures c.pair-in-loop-y.ensures c.same.ensures) c.if-not-same.false

pub returns : goal.returns
returns c =
    looks_all c.args.classes.now (λ R y. R (pair_at c.args.line.now c.args.start (c.args.end - 1)) (pair_at c.args.line.now c.args.x y)) c.args.next c.loop-y.y c.args.end c.loop-y-test.false c.loop-y.invariant
