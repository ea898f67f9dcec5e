use Rattle.std.proofs.Common.{refl}
use Rattle.std.proofs.lemmas.Bool.{iff_false}
use Rattle.instance_model.specs.Instance.{proper}
use Rattle.verdict_text.specs.Value.{yes_value}
use Rattle.verdict_judge.proofs.JudgeTests.{intervals_fail}
use Rattle.verdict_judge.proofs.intervals.intervals_fault.Goals as goal

pub returns-then-not-branch : goal.returns-then-not-branch
returns-then-not-branch c =
    intervals_fail (proper c.args.g.now) c.args.g.now (yes_value c.args.yes.now) c.intervals.result.now refl c.intervals.ensures (iff_false c.in_ok-are_proper.ensures c.if-not-branch.true)
