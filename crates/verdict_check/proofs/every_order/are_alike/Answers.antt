use Rattle.std.proofs.Common.{◌≡◌, ◌-◌, sym, inl, inr, subst, arith}
use Rattle.row_model.specs.Graph.{IsPair}
use Rattle.verdict_check.specs.Complete.{pair_at}
use Rattle.verdict_check.proofs.Places.{order_pair}
use Rattle.verdict_check.proofs.Looks.{same_pairs, looks_more, looks_fail, looks_all}
use Rattle.verdict_check.proofs.every_order.are_alike.Goals as goal

pub same-requires : goal.same-requires
same-requires c =
    let before : c.args.at - 1 ≡ c.loop-i.i → ⊥ = λ e. elim c.requires.apart [ inl u ↦ omega (arith, u, e) | inr u ↦ omega (arith, u, e) ] in
    let here : c.args.at ≡ c.loop-i.i → ⊥ = λ e. elim c.requires.apart [ inl u ↦ omega (arith, u, e) | inr u ↦ omega (arith, u, e) ] in (
      subst (IsPair c.args.classes.now.columns) (sym c.pair.ensures) (order_pair c.args.classes.now.columns c.args.line.now (c.args.at - 1) c.loop-i.i c.requires.line (omega arith) (omega arith) before),
      subst (IsPair c.args.classes.now.columns) (sym c.pair-in-loop-i.ensures) (order_pair c.args.classes.now.columns c.args.line.now c.args.at c.loop-i.i c.requires.line (omega arith) (omega arith) here),
    )

pub returns-then-not-same : goal.returns-then-not-same
returns-then-not-same c =
    looks_fail c.args.classes.now (λ R i. R (pair_at c.args.line.now (c.args.at - 1) i) (pair_at c.args.line.now c.args.at i)) c.args.from c.loop-i.i c.same.result c.args.to (omega arith) (omega arith)
    (same_pairs c.args.classes.now c.same.result c.pair.result c.pair-in-loop-i.result _ _ c.pair.ensures c.pair-in-loop-i.ensures c.same.ensures) c.if-not-same.true

pub loop-i-preserved : goal.loop-i-preserved
loop-i-preserved c =
    looks_more c.args.classes.now (λ R i. R (pair_at c.args.line.now (c.args.at - 1) i) (pair_at c.args.line.now c.args.at i)) c.args.from c.loop-i.i c.same.result c.loop-i.invariant
    (same_pairs c.args.classes.now c.same.result c.pair.result c.pair-in-loop-i.result _ _ c.pair.ensures c.pair-in-loop-i.ensures c.same.ensures) c.if-not-same.false

pub returns : goal.returns
returns c =
    looks_all c.args.classes.now (λ R i. R (pair_at c.args.line.now (c.args.at - 1) i) (pair_at c.args.line.now c.args.at i)) c.args.from c.loop-i.i c.args.to c.loop-i-test.false c.loop-i.invariant
