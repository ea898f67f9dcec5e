use Rattle.std.proofs.Common.{◌≡◌, ◌∙◌, ◌+◌, ◌-◌, ◌<◌, length, set, get_or, sym, ap, subst, arith, length-set}
use Rattle.std.proofs.lemmas.List.{get_or_default}
use Rattle.row_model.specs.declared.graph.Line.{Line}
use Rattle.row_model.specs.declared.graph.Why.TheVariants.{Flip}
use Rattle.row_model.specs.Graph.{IsPair}
use Rattle.verdict_judge.specs.Chains.{AreChains}
use Rattle.verdict_judge.proofs.Lines.{pair_here}
use Rattle.verdict_judge.proofs.ChainLaws.{chains_more, column_within}
use Rattle.verdict_judge.proofs.chains.chains_of.Goals as goal

pub loop-i-preserved : goal.loop-i-preserved
loop-i-preserved c =
    let lines = c.args.lines.now in
    let firsts = c.loop-i.firsts.items in
    let nexts = c.loop-i.nexts.items in
    let i = c.loop-i.i - 1 in
    let none : Line = record { pair = record { a = 0; b = 0 }; why = Flip } in
    let a = (get_or lines i none).pair.a in
    let before : i < length lines = omega (arith, c.loop-i-test.true, c.loop-i.invariant.within) in
    let p : IsPair c.args.c (get_or lines i none).pair = pair_here c.args.c lines i none before c.requires.pairs in
    let m : a < length firsts = omega (arith, p.a_to, c.loop-i.invariant.columns) in
    let rest : AreChains lines (i + 1) firsts nexts = subst (λ k. AreChains lines k firsts nexts) (omega (arith, c.loop-i-test.true)) c.loop-i.invariant.chains in
    let read : c.index.result.now ≡ get_or firsts a 0 = c.index.ensures ∙ get_or_default firsts a c.index.result.now 0 m in
    record {
      within = omega (arith, before);
      columns = length-set firsts a i ∙ c.loop-i.invariant.columns;
      chains = subst (λ n. AreChains lines i (set firsts a i) (set nexts i n)) (sym read)
          (chains_more lines i a firsts nexts before (λ d. ap (λ (x : Line). x.pair.a) (get_or_default lines i d none before)) m rest);
    }

pub returns-clause-chains : goal.returns-clause-chains
returns-clause-chains c = subst (λ k. AreChains c.args.lines.now k c.loop-i.firsts.items c.loop-i.nexts.items) (omega (arith, c.loop-i-test.false)) c.loop-i.invariant.chains

pub index-requires : goal.index-requires
index-requires c = column_within c.args.c (c.loop-i.i - 1) _ c.args.lines.now _ (omega (arith, c.loop-i-test.true, c.loop-i.invariant.within)) c.requires.pairs (omega (arith, c.loop-i.firsts.ok.0, c.loop-i.invariant.columns))

pub index_mut-requires : goal.index_mut-requires
index_mut-requires c = omega (arith, c.loop-i-test.true, c.loop-i.invariant.within, c.loop-i.invariant.chains.long)

pub index_mut-requires-in-loop-i : goal.index_mut-requires-in-loop-i
index_mut-requires-in-loop-i c = column_within c.args.c (c.loop-i.i - 1) _ c.args.lines.now _ (omega (arith, c.loop-i-test.true, c.loop-i.invariant.within)) c.requires.pairs (omega (arith, c.loop-i.firsts.ok.0, c.loop-i.invariant.columns))

pub overflow_cast-i : goal.overflow_cast-i
overflow_cast-i c = omega (arith, c.requires.few, c.loop-i.invariant.within)

pub bounds-lines-i : goal.bounds-lines-i
bounds-lines-i c = omega (arith, c.loop-i-test.true, c.loop-i.invariant.within)
