use Rattle.std.proofs.Common.{◌+◌, ◌≤◌, sym, ap, subst}
use Rattle.std.proofs.lemmas.Bool.{both_ways}
use Rattle.verdict_text.specs.Value.{verdict_value, yes_value, claim_of}
use Rattle.verdict_text.specs.Verdict.{Claim, yes_claim, no_claim}
use Rattle.instance_model.specs.Value.{instance_value}
use Rattle.verdict_judge.specs.Steps.{claim_steps}
use Rattle.verdict_judge.proofs.JudgeTests.{claim_on, claimed_side, kind_fails, columns_fail, claim_found_ok}
use Rattle.verdict_judge.proofs.StepSums.{none_more}
use Rattle.verdict_judge.proofs.judge.first_failing.Goals as goal

pub returns-then-not-has_kind-clause-finds : goal.returns-then-not-has_kind-clause-finds
returns-then-not-has_kind-clause-finds g c =
    kind_fails (instance_value c.args.instance.now) (verdict_value c.args.v.now) (λ h. both_ways c.has_kind.result c.if-not-has_kind.true (c.has_kind.ensures.kind.1 h))

pub returns-then-not-has_columns-clause-finds : goal.returns-then-not-has_columns-clause-finds
returns-then-not-has_columns-clause-finds g c =
    columns_fail (instance_value c.args.instance.now) (verdict_value c.args.v.now) (c.has_kind.ensures.kind.0 c.if-not-has_kind.false)
    (λ h. both_ways c.has_columns.result c.if-not-has_columns.true (c.has_columns.ensures.1 h))

pub returns-in-Yes-clause-finds : goal.returns-in-Yes-clause-finds
returns-in-Yes-clause-finds g c =
    claim_found_ok (instance_value c.args.instance.now) (verdict_value c.args.v.now) (yes_claim (yes_value c.in-Yes.yes)) c.yes_fault.result (c.has_kind.ensures.kind.0 c.if-not-has_kind.false)
    (c.has_columns.ensures.0 c.if-not-has_columns.false) (ap claim_of c.in-Yes.is) c.yes_fault.ensures.finds

pub returns-in-No-clause-finds : goal.returns-in-No-clause-finds
returns-in-No-clause-finds g c =
    claim_found_ok (instance_value c.args.instance.now) (verdict_value c.args.v.now) (no_claim c.in-No.no.side c.in-No.no.lines) c.no_fault.result
    (c.has_kind.ensures.kind.0 c.if-not-has_kind.false) (c.has_columns.ensures.0 c.if-not-has_columns.false) (ap claim_of c.in-No.is) c.no_fault.ensures.finds

pub returns-then-not-has_columns-clause-ticks : goal.returns-then-not-has_columns-clause-ticks
returns-then-not-has_columns-clause-ticks g c = none_more _ _

pub returns-then-not-has_kind-clause-ticks : goal.returns-then-not-has_kind-clause-ticks
returns-then-not-has_kind-clause-ticks g c = none_more _ _

pub yes_fault-requires-clause-instance : goal.yes_fault-requires-clause-instance
yes_fault-requires-clause-instance g c = c.requires.instance

pub yes_fault-requires-clause-formed : goal.yes_fault-requires-clause-formed
yes_fault-requires-clause-formed g c = c.has_kind.ensures.formed

pub yes_fault-requires-clause-claim : goal.yes_fault-requires-clause-claim
yes_fault-requires-clause-claim g c = claim_on (instance_value c.args.instance.now) (verdict_value c.args.v.now) (yes_claim (yes_value c.in-Yes.yes)) (c.has_kind.ensures.kind.0 c.if-not-has_kind.false) (c.has_columns.ensures.0 c.if-not-has_columns.false) (ap claim_of c.in-Yes.is) c.requires.verdict

pub no_fault-requires-clause-instance : goal.no_fault-requires-clause-instance
no_fault-requires-clause-instance g c = c.requires.instance

pub no_fault-requires-clause-side : goal.no_fault-requires-clause-side
no_fault-requires-clause-side g c = claimed_side (instance_value c.args.instance.now) (verdict_value c.args.v.now) c.in-No.no.side c.in-No.no.lines (c.has_columns.ensures.0 c.if-not-has_columns.false) (ap claim_of c.in-No.is) c.requires.verdict

pub returns-in-Yes-clause-ticks : goal.returns-in-Yes-clause-ticks
returns-in-Yes-clause-ticks g c =
    subst (λ (claim : Claim). c.yes_fault.new.steps ≤ c.args.steps.now + claim_steps c.args.v.now.version (instance_value c.args.instance.now) claim) (sym (ap claim_of c.in-Yes.is)) c.yes_fault.ensures.ticks

pub returns-in-No-clause-ticks : goal.returns-in-No-clause-ticks
returns-in-No-clause-ticks g c =
    subst (λ (claim : Claim). c.no_fault.new.steps ≤ c.args.steps.now + claim_steps c.args.v.now.version (instance_value c.args.instance.now) claim) (sym (ap claim_of c.in-No.is)) c.no_fault.ensures.ticks
