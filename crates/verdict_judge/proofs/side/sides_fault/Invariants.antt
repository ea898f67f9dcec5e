use Rattle.std.specs.Prelude.{◌+◌, ◌≤◌, sum_by, flat_map}
use Rattle.std.specs.List.{AllByRecursion}
use Rattle.verdict_text.specs.Value.{yes_value}
use Rattle.instance_model.specs.Instance.{derived_matrix}
use Rattle.instance_model.specs.Value.{instance_value}
use Rattle.verdict_judge.specs.Steps.{side_steps}
use Rattle.verdict_judge.specs.Tests.{numbers, side_tests}
use Rattle.verdict_judge.specs.YesTests.{PassesYes}
use Rattle.verdict_judge.proofs.side.sides_fault.Given as goal

-- the tests of the sides so far are passed
abbrev pub invariant-loop-before : goal.invariant-loop-before
invariant-loop-before g l = record {
  passed : AllByRecursion (PassesYes (instance_value l.instance) (yes_value l.yes)) (flat_map (λ s. side_tests l.version s (derived_matrix (instance_value l.instance) s)) (numbers l.before));
  ticks : l.steps ≤ l.fn.steps + sum_by (λ s. side_steps l.version (derived_matrix (instance_value l.instance) s)) (numbers l.before);
}
