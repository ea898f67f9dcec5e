use Rattle.std.proofs.Common.{◌∙◌, ◌+◌, ◌*◌, ◌≤◌, length, subst}
use Rattle.std.specs.Prelude.{IfOk}
use Rattle.verdict_judge.specs.Tests.{no_tests}
use Rattle.verdict_judge.specs.NoTests.{PassesNo}
use Rattle.verdict_judge.specs.Found.{Finds}
use Rattle.verdict_judge.proofs.judge.no_fault.Goals as goal

pub returns-clause-finds : goal.returns-clause-finds
returns-clause-finds g c =
    subst (λ m. IfOk c.cycle_fault.result (Finds (PassesNo m c.args.no.now.lines) (no_tests (length c.args.no.now.lines)))) (c.matrix.ensures ∙ c.in_ok-derived.ensures)
    (subst (λ lines. IfOk c.cycle_fault.result (Finds (PassesNo c.matrix.result.now lines) (no_tests (length lines)))) c.as_slice.ensures c.cycle_fault.ensures.finds)

pub returns-clause-ticks : goal.returns-clause-ticks
returns-clause-ticks g c = subst (λ lines. c.cycle_fault.new.steps ≤ c.args.steps.now + 3 * length lines) c.as_slice.ensures c.cycle_fault.ensures.ticks
