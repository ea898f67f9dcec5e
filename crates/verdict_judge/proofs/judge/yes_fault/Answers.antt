use Rattle.std.proofs.Common.{subst}
use Rattle.verdict_text.specs.Value.{yes_value}
use Rattle.instance_model.specs.Value.{instance_value}
use Rattle.verdict_judge.specs.Tests.{sides_tests}
use Rattle.verdict_judge.specs.YesTests.{PassesYes}
use Rattle.verdict_judge.specs.Found.{Finds}
use Rattle.verdict_judge.proofs.JudgeTests.{first_order, sides_fail, added_last_ok}
use Rattle.std.proofs.lemmas.Result.{IfOk-from_err}
use Rattle.verdict_judge.proofs.judge.yes_fault.Goals as goal

pub returns-in-None-clause-finds : goal.returns-in-None-clause-finds
returns-in-None-clause-finds g c =
    let i = instance_value c.args.instance.now in
    let value = yes_value c.args.yes.now in
    added_last_ok c.args.version i value c.added_fault.result (subst (Finds (PassesYes i value) (sides_tests c.args.version i)) c.in-None.is c.in_ok-reason.ensures.finds) c.added_fault.ensures

pub returns-in_err-reason-clause-finds : goal.returns-in_err-reason-clause-finds
returns-in_err-reason-clause-finds g c = IfOk-from_err c.from_residual.result _ c.from_residual.ensures.0

pub returns-in_err-reason-clause-ticks : goal.returns-in_err-reason-clause-ticks
returns-in_err-reason-clause-ticks g c = c.in_err-reason.ensures.ticks

pub returns-in-Some-clause-ticks : goal.returns-in-Some-clause-ticks
returns-in-Some-clause-ticks g c = c.in_ok-reason.ensures.ticks

pub returns-in-None-clause-ticks : goal.returns-in-None-clause-ticks
returns-in-None-clause-ticks g c = c.in_ok-reason.ensures.ticks

pub sides_fault-requires-clause-instance : goal.sides_fault-requires-clause-instance
sides_fault-requires-clause-instance g c = c.requires.instance

pub sides_fault-requires-clause-formed : goal.sides_fault-requires-clause-formed
sides_fault-requires-clause-formed g c = c.requires.formed

pub returns-in-Some-clause-finds : goal.returns-in-Some-clause-finds
returns-in-Some-clause-finds g c =
    let i = instance_value c.args.instance.now in
    let value = yes_value c.args.yes.now in
    sides_fail c.args.version i value c.in-Some.reason (subst (Finds (PassesYes i value) (sides_tests c.args.version i)) c.in-Some.is c.in_ok-reason.ensures.finds)

pub added_fault-requires-clause-order : goal.added_fault-requires-clause-order
added_fault-requires-clause-order g c =
    let i = instance_value c.args.instance.now in
    let value = yes_value c.args.yes.now in
    first_order c.args.version i value (subst (Finds (PassesYes i value) (sides_tests c.args.version i)) c.in-None.is c.in_ok-reason.ensures.finds)
