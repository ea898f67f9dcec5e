use Rattle.std.proofs.Common.{◌≡◌, ◌∙◌, ℕ, ◌+◌, ◌<◌, List, length, get_or, sym, ap, subst, arith, length-set}
use Rattle.std.proofs.lemmas.List.{get_or_default}
use Rattle.row_model.specs.declared.graph.Line.{Line}
use Rattle.row_model.specs.declared.graph.Why.TheVariants.{Flip}
use Rattle.row_model.specs.Graph.{pair}
use Rattle.row_model.proofs.Pairs.{same_pair}
use Rattle.verdict_judge.specs.Chains.{IsNextInChain, AreChains}
use Rattle.verdict_judge.proofs.ChainLaws.{stamps_more, fresh_passes, stamped_fails, passed_more}
use Rattle.verdict_judge.proofs.chains.least_in_chain.Goals as goal

-- the pair of a line of the chain of a
its_pair : (a at : ℕ) (lines : List Line) (d e : Line) → at < length lines → ((d : Line) → at < length lines → (get_or lines at d).pair.a ≡ a) →
    (get_or lines at d).pair ≡ pair a (get_or lines at e).pair.b
its_pair a at lines d e l own = same_pair (get_or lines at d).pair (pair a (get_or lines at e).pair.b) (own d l) (ap (λ (x : Line). x.pair.b) (get_or_default lines at d e l))

pub returns-then-stamps-b-clause-fails : goal.returns-then-stamps-b-clause-fails
returns-then-stamps-b-clause-fails c = λ n r.
    let lines = c.args.lines.now in
    let at = c.loop-at.at in
    let none : Line = record { pair = record { a = 0; b = 0 }; why = Flip } in
    let l : at < length lines = omega (arith, c.loop-at-test.true, c.requires.least) in
    let m : (get_or lines at none).pair.b < length c.loop-at.stamps = omega (arith, c.requires.pairs at none l, c.loop-at.invariant.long) in
    stamped_fails c.args.a (get_or lines at none).pair.b at lines c.loop-at.stamps none (its_pair c.args.a at lines none none l c.loop-at.invariant.own) m l
    c.loop-at.invariant.stamps c.if-stamps-b.true r

next_there : (a at next : ℕ) (lines : List Line) (firsts nexts : List ℕ) (d : Line) → at < length lines → (get_or lines at d).pair.a ≡ a → next ≡ get_or nexts at next →
    AreChains lines 0 firsts nexts → IsNextInChain a lines (at + 1) next
next_there a at next lines firsts nexts d l own read h =
    let there : next ≡ get_or nexts at 0 = read ∙ get_or_default nexts at next 0 (omega (arith, l, h.long)) in
    subst (λ k. IsNextInChain k lines (at + 1) next) own (subst (IsNextInChain (get_or lines at d).pair.a lines (at + 1)) (sym there) (h.next at d (omega arith) l))

pub loop-at-smaller : goal.loop-at-smaller
loop-at-smaller c =
    let lines = c.args.lines.now in
    let at = c.loop-at.at in
    let none : Line = record { pair = record { a = 0; b = 0 }; why = Flip } in
    let l : at < length lines = omega (arith, c.loop-at-test.true, c.requires.least) in
    let up : IsNextInChain c.args.a lines (at + 1) c.index-in-loop-at.result.now =
    next_there c.args.a at c.index-in-loop-at.result.now lines c.args.chains.now.firsts.items c.args.chains.now.nexts.items none l (c.loop-at.invariant.own none l) c.index-in-loop-at.ensures c.requires.chains in
    omega (arith, l, up.behind)

pub loop-at-preserved : goal.loop-at-preserved
loop-at-preserved c =
    let lines = c.args.lines.now in
    let a = c.args.a in
    let at = c.loop-at.at in
    let next = c.index-in-loop-at.result.now in
    let none : Line = record { pair = record { a = 0; b = 0 }; why = Flip } in
    let b = (get_or lines at none).pair.b in
    let l : at < length lines = omega (arith, c.loop-at-test.true, c.requires.least) in
    let m : b < length c.loop-at.stamps = omega (arith, c.requires.pairs at none l, c.loop-at.invariant.long) in
    let up : IsNextInChain a lines (at + 1) next =
    next_there a at next lines c.args.chains.now.firsts.items c.args.chains.now.nexts.items none l (c.loop-at.invariant.own none l) c.index-in-loop-at.ensures c.requires.chains in
    record {
      within = up.within;
      own = up.here;
      long = length-set c.loop-at.stamps b a ∙ c.loop-at.invariant.long;
      stamps = stamps_more a b at next lines c.loop-at.stamps (λ d. its_pair a at lines d none l c.loop-at.invariant.own) m up c.loop-at.invariant.stamps;
      passed = passed_more a at next lines c.loop-at.invariant.passed
          (fresh_passes a b at lines c.loop-at.stamps none (its_pair a at lines none none l c.loop-at.invariant.own) m l c.loop-at.invariant.stamps c.if-stamps-b.false) up;
    }
