use Rattle.std.proofs.Common.{◌+◌, length, subst, arith}
use Rattle.verdict_text.specs.Value.{yes_value}
use Rattle.instance_model.specs.Instance.{instance_columns, derived_matrix}
use Rattle.instance_model.specs.Value.{instance_value}
use Rattle.verdict_judge.specs.Tests.{side_tests}
use Rattle.verdict_judge.specs.YesTests.{PassesYes}
use Rattle.verdict_judge.specs.Found.{Finds}
use Rattle.verdict_judge.proofs.First.{finds_in_part, all_parts_more}
use Rattle.verdict_judge.proofs.StepSums.{sum_to_next}
use Rattle.verdict_judge.specs.Steps.{side_steps}
use Rattle.verdict_judge.proofs.side.sides_fault.Goals as goal

pub returns-in-Some-clause-finds : goal.returns-in-Some-clause-finds
returns-in-Some-clause-finds g c =
    let i = instance_value c.args.instance.now in
    let P = PassesYes i (yes_value c.args.yes.now) in
    finds_in_part P (λ s. side_tests c.args.version s (derived_matrix i s)) (length (instance_columns i)) c.loop-before.before c.in-Some.reason (omega (arith, c.loop-before-test.true, c.sides-before-end.ensures))
    c.loop-before.invariant.passed (subst (Finds P (side_tests c.args.version (c.loop-before.before + 1) (derived_matrix i (c.loop-before.before + 1)))) c.in-Some.is c.in_ok-reason.ensures.finds)

pub loop-before-preserved : goal.loop-before-preserved
loop-before-preserved g c =
    let i = instance_value c.args.instance.now in
    let P = PassesYes i (yes_value c.args.yes.now) in
    record {
      passed = all_parts_more P (λ s. side_tests c.args.version s (derived_matrix i s)) c.loop-before.before c.loop-before.invariant.passed
          (subst (Finds P (side_tests c.args.version (c.loop-before.before + 1) (derived_matrix i (c.loop-before.before + 1)))) c.in_default.is c.in_ok-reason.ensures.finds);
      ticks = omega (arith, c.loop-before.invariant.ticks, c.in_ok-reason.ensures.ticks, sum_to_next (λ s. side_steps c.args.version (derived_matrix i s)) c.loop-before.before);
    }
