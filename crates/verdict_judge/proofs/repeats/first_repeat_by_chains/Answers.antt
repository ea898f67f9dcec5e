use Rattle.std.proofs.Common.{◌≡◌, ◌∙◌, ℕ, ◌+◌, ◌≤◌, ◌++◌, length, take, drop, get_or, refl, sym, ap, subst, arith}
use Rattle.std.specs.List.{All}
use Rattle.row_model.specs.Graph.{IsPair}
use Rattle.verdict_judge.specs.NoTests.{PassesRepeat}
use Rattle.verdict_judge.proofs.Lines.{pair_here}
use Rattle.verdict_judge.proofs.ChainLaws.{all_passed, given_back, zeros_low, none_tested, least_fails, tested_more}
use Rattle.std.proofs.lemmas.Result.{IfOk-from_err}
use Rattle.verdict_judge.proofs.repeats.first_repeat_by_chains.Goals as goal

pub least_in_chain-least-requires-clause-pairs : goal.least_in_chain-least-requires-clause-pairs
least_in_chain-least-requires-clause-pairs c = λ k d l.
    let p : IsPair c.args.c (get_or c.args.lines.now k d).pair = pair_here c.args.c c.args.lines.now k d l c.requires.pairs in
    omega (arith, p.b_to, c.loop-a.invariant.long, c.deref_mut.ensures.len)

pub returns-then-least-lines : goal.returns-then-least-lines
returns-then-least-lines c =
    let each : (j : ℕ) → 1 ≤ j → j ≤ c.loop-a.least → PassesRepeat c.args.lines.now j =
    all_passed c.args.c c.loop-a.least c.args.lines.now c.requires.pairs c.loop-a.invariant.bound
    (λ i d l m. c.loop-a.invariant.passed i d l (omega (arith, m, c.loop-a-test.false))) in (
      omega arith,
      omega (arith, c.if-least-lines.true),
      c.loop-a.invariant.fails (λ e. omega (arith, e, c.if-least-lines.true)),
      λ j l m. each j l (omega (arith, m)),
    )

pub returns : goal.returns
returns c = λ k l m.
    all_passed c.args.c c.loop-a.least c.args.lines.now c.requires.pairs c.loop-a.invariant.bound
    (λ i d u v. c.loop-a.invariant.passed i d u (omega (arith, v, c.loop-a-test.false))) k l (omega (arith, m, c.if-least-lines.false))

pub loop-a-init : goal.loop-a-init
loop-a-init c = record {
  bound = omega arith;
  long = omega (arith, c.in_ok-stamps.ensures.len, c.in_ok-stamps.stamps.ok.0);
  stamps = subst (All (λ stamp. stamp ≤ 0)) (sym (c.in_ok-stamps.ensures.items_if_clones_equal (λ y e. e))) (zeros_low _);
  fails = λ n. absurd (n refl);
  passed = none_tested c.args.c c.args.lines.now c.requires.pairs;
}

pub loop-a-preserved : goal.loop-a-preserved
loop-a-preserved c =
    let new = c.least_in_chain-least.new.stamps in
    let found = c.least_in_chain-least.ensures in
    let long : length new ≡ c.args.c + 1 = omega (arith, found.length, c.deref_mut.ensures.len, c.loop-a.invariant.long) in
    let back : take c.loop-a.stamps.len (new ++ drop (length new) c.loop-a.stamps.items) ≡ new = given_back _ new _ (omega (arith, c.loop-a.stamps.ok.0, long, c.loop-a.invariant.long)) in
    record {
      bound = omega (arith, found.bound, c.loop-a.invariant.bound);
      long = ap length back ∙ long;
      stamps = subst (All (λ stamp. stamp ≤ c.loop-a.a + 1)) (sym back) found.stamps;
      fails = least_fails c.loop-a.least c.least_in_chain-least.result c.args.lines.now found.fails c.loop-a.invariant.fails;
      passed = tested_more c.loop-a.a c.loop-a.least c.least_in_chain-least.result c.args.lines.now found.bound found.passed c.loop-a.invariant.passed;
    }

pub returns-in_err-stamps : goal.returns-in_err-stamps
returns-in_err-stamps c = IfOk-from_err c.from_residual-in_err-stamps.result _ c.from_residual-in_err-stamps.ensures.0

pub returns-in_err-chains : goal.returns-in_err-chains
returns-in_err-chains c = IfOk-from_err c.from_residual.result _ c.from_residual.ensures.0

pub chains_of-requires-clause-pairs : goal.chains_of-requires-clause-pairs
chains_of-requires-clause-pairs c = c.requires.pairs

pub chains_of-requires-clause-few : goal.chains_of-requires-clause-few
chains_of-requires-clause-few c = c.requires.few

pub least_in_chain-least-requires-clause-least : goal.least_in_chain-least-requires-clause-least
least_in_chain-least-requires-clause-least c = c.loop-a.invariant.bound

pub least_in_chain-least-requires-clause-chains : goal.least_in_chain-least-requires-clause-chains
least_in_chain-least-requires-clause-chains c = c.in_ok-chains.ensures.chains
