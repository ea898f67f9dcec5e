use Rattle.std.proofs.Common.{Result, Option, Some, None, IfOk, IfSome, subst}
use Rattle.std.specs.Prelude.{IsErr}
use Rattle.std.proofs.lemmas.Result.{IfOk-from_err}
use Rattle.row_judge.specs.Costs.{Costs, IsYesWithin}
use Rattle.row_judge.specs.Judges.{IsJudged, IsJudgedInTurn}
use Rattle.row_judge.specs.declared.Judged.{Judged}
use Rattle.row_judge.proofs.short.judged_short.Goals as goal

pub returns-in_ok-shortened-in-No-clause-judged : goal.returns-in_ok-shortened-in-No-clause-judged
returns-in_ok-shortened-in-No-clause-judged g c =
    let judgement = subst (IsJudged c.args.m.now) c.in-No.is c.in_ok-tree.ensures.judged in
    (c.in_ok-shortened-in-No.ensures.cycle c.args.m.now.rows judgement.0, judgement.1)

pub returns-in_ok-shortened-in-No-clause-in_turn : goal.returns-in_ok-shortened-in-No-clause-in_turn
returns-in_ok-shortened-in-No-clause-in_turn g c = λ turn.
    let first = subst (IsJudgedInTurn c.args.m.now) c.in-No.is (c.in_ok-tree.ensures.in_turn turn) in
    record { before = first.before; order = first.order; cycle = c.in_ok-shortened-in-No.ensures.cycle _ first.cycle }

-- nothing is said of the steps of a yes where there is an error
none_within : {T E : Type 0} (costs : Option Costs) (made : Result T E) (P : Costs → T → Type 0) → IsErr made → IfSome costs (λ k. IfOk made (P k))
none_within None made P none = tt
none_within (Some k) made P none = IfOk-from_err made (P k) none

pub returns-in-Yes : goal.returns-in-Yes
returns-in-Yes g c = record {
  judged = subst (IsJudged c.args.m.now) c.in-Yes.is c.in_ok-tree.ensures.judged;
  short = tt;
  in_turn = λ turn. tt;
  asked = c.judge.ensures.asked;
  yes = subst (λ (a : Judged). IfSome g.J.Judge.costs (λ k. IsYesWithin k c.args.m.now c.args.steps.now c.judge.new.steps a)) c.in-Yes.is c.in_ok-tree.ensures.yes;
  most = c.judge.ensures.most;
}

pub returns-in_ok-shortened-in-No-clause-short : goal.returns-in_ok-shortened-in-No-clause-short
returns-in_ok-shortened-in-No-clause-short g c = c.in_ok-shortened-in-No.ensures.short

pub returns-in_ok-shortened-in-No-clause-asked : goal.returns-in_ok-shortened-in-No-clause-asked
returns-in_ok-shortened-in-No-clause-asked g c = c.judge.ensures.asked

pub returns-in_ok-shortened-in-No-clause-yes : goal.returns-in_ok-shortened-in-No-clause-yes
returns-in_ok-shortened-in-No-clause-yes g c =
    subst (λ (a : Judged). IfSome g.J.Judge.costs (λ k. IsYesWithin k c.args.m.now c.args.steps.now c.judge.new.steps a)) c.in-No.is c.in_ok-tree.ensures.yes

pub returns-in_ok-shortened-in-No-clause-most : goal.returns-in_ok-shortened-in-No-clause-most
returns-in_ok-shortened-in-No-clause-most g c = c.judge.ensures.most

pub returns-in_err-tree-clause-yes : goal.returns-in_err-tree-clause-yes
returns-in_err-tree-clause-yes g c = none_within g.J.Judge.costs c.from_residual.result _ c.from_residual.ensures.0

pub returns-in_err-shortened-in-No-clause-yes : goal.returns-in_err-shortened-in-No-clause-yes
returns-in_err-shortened-in-No-clause-yes g c =
    none_within g.J.Judge.costs c.from_residual-in_err-shortened-in-No.result _ c.from_residual-in_err-shortened-in-No.ensures.0
