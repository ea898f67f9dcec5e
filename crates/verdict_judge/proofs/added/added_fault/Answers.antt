use Rattle.std.proofs.Common.{sym, ap, subst}
use Rattle.std.specs.Prelude.{IfOk}
use Rattle.verdict_text.specs.Grammar.{HasAdded}
use Rattle.verdict_text.specs.Value.{yes_value}
use Rattle.instance_model.specs.Instance.{instance_kind, instance_columns, proper}
use Rattle.instance_model.specs.Value.{instance_value}
use Rattle.verdict_judge.specs.Tests.{added_tests}
use Rattle.verdict_judge.specs.YesTests.{PassesOrder, PassesYes}
use Rattle.verdict_judge.specs.Found.{Finds}
use Rattle.verdict_judge.proofs.added.added_fault.Goals as goal

pub intervals_fault-requires : goal.intervals_fault-requires
intervals_fault-requires c =
    let value = yes_value c.args.yes.now in
    let is = ap instance_value c.in-Proper.is in
    let added : HasAdded (instance_kind (proper c.in-Proper.graph)) (instance_columns (proper c.in-Proper.graph)) value.added =
    subst (λ i. HasAdded (instance_kind i) (instance_columns i) value.added) is c.requires.added in
    record {
      order = subst (λ i. PassesOrder i value 1) is c.requires.order;
      count = cc (added.0);
    }

pub returns-in-Proper : goal.returns-in-Proper
returns-in-Proper c =
    let value = yes_value c.args.yes.now in
    subst (λ i. IfOk c.intervals_fault.result (Finds (PassesYes i value) (added_tests i))) (sym (ap instance_value c.in-Proper.is)) c.intervals_fault.ensures
