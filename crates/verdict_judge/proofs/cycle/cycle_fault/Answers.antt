use Rattle.std.proofs.Common.{◌∙◌, Some, None, length, subst, sym}
use Rattle.std.proofs.lemmas.Bool.{both_ways}
use Rattle.row_model.specs.Rows.{RowList}
use Rattle.verdict_judge.specs.Found.{IsLeastFailing}
use Rattle.verdict_judge.specs.NoTests.{PassesPair, PassesJoin}
use Rattle.verdict_judge.proofs.CycleTests.{length_fails, pair_fails, repeat_fails, joins_tested}
use Rattle.std.proofs.lemmas.Result.{IfOk-from_err}
use Rattle.verdict_judge.proofs.StepSums.{none_more}
use Rattle.verdict_judge.proofs.cycle.cycle_fault.Goals as goal

pub returns-then-not-is_odd_length-clause-finds : goal.returns-then-not-is_odd_length-clause-finds
returns-then-not-is_odd_length-clause-finds g c =
    length_fails c.args.m.now c.args.lines.now (λ h. both_ways c.is_odd_length.result c.if-not-is_odd_length.true (c.is_odd_length.ensures.1 h))

pub returns-in-Some-clause-finds : goal.returns-in-Some-clause-finds
returns-in-Some-clause-finds g c =
    pair_fails c.args.m.now c.args.lines.now c.columns.result c.in-Some.i c.columns.ensures.columns (c.is_odd_length.ensures.0 c.if-not-is_odd_length.false) c.in-Some.ensures

pub returns-in-Some-2-clause-finds : goal.returns-in-Some-2-clause-finds
returns-in-Some-2-clause-finds g c =
    repeat_fails c.args.m.now c.args.lines.now c.columns.result c.in-Some-2.i c.in_ok-i.field-0 c.columns.ensures.columns (c.is_odd_length.ensures.0 c.if-not-is_odd_length.false) c.in_default.ensures
    c.in-Some-2.is c.in_ok-i.ensures

pub returns-in-Some-first_unjoined-clause-finds : goal.returns-in-Some-first_unjoined-clause-finds
returns-in-Some-first_unjoined-clause-finds g c =
    joins_tested c.args.m.now c.args.lines.now c.columns.result c.in_ok-i.field-0 (Some c.in-Some-first_unjoined.i) c.columns.ensures.columns
    (c.is_odd_length.ensures.0 c.if-not-is_odd_length.false) c.in_default.ensures c.in_default-2.is c.in_ok-i.ensures
    (subst (λ (m : RowList). IsLeastFailing (PassesJoin m c.args.lines.now) (length c.args.lines.now) (Some c.in-Some-first_unjoined.i)) c.new.ensures c.in-Some-first_unjoined.ensures.least)

pub returns-clause-finds : goal.returns-clause-finds
returns-clause-finds g c =
    joins_tested c.args.m.now c.args.lines.now c.columns.result c.in_ok-i.field-0 None c.columns.ensures.columns
    (c.is_odd_length.ensures.0 c.if-not-is_odd_length.false) c.in_default.ensures c.in_default-2.is c.in_ok-i.ensures
    (subst (λ (m : RowList). IsLeastFailing (PassesJoin m c.args.lines.now) (length c.args.lines.now) None) c.new.ensures c.in_default-first_unjoined.ensures.least)

pub returns-in_err-i-clause-finds : goal.returns-in_err-i-clause-finds
returns-in_err-i-clause-finds g c = IfOk-from_err c.from_residual.result _ c.from_residual.ensures.0

pub returns-in-Some-2-clause-ticks : goal.returns-in-Some-2-clause-ticks
returns-in-Some-2-clause-ticks g c = none_more _ _

pub returns-in_err-i-clause-ticks : goal.returns-in_err-i-clause-ticks
returns-in_err-i-clause-ticks g c = none_more _ _

pub returns-in-Some-clause-ticks : goal.returns-in-Some-clause-ticks
returns-in-Some-clause-ticks g c = none_more _ _

pub returns-then-not-is_odd_length-clause-ticks : goal.returns-then-not-is_odd_length-clause-ticks
returns-then-not-is_odd_length-clause-ticks g c = none_more _ _

pub returns-in-Some-first_unjoined-clause-ticks : goal.returns-in-Some-first_unjoined-clause-ticks
returns-in-Some-first_unjoined-clause-ticks g c = c.in-Some-first_unjoined.ensures.ticks

pub returns-clause-ticks : goal.returns-clause-ticks
returns-clause-ticks g c = c.in_default-first_unjoined.ensures.ticks

pub first_bad_pair-requires : goal.first_bad_pair-requires
first_bad_pair-requires g c = c.requires

pub first_repeat-requires-clause-few : goal.first_repeat-requires-clause-few
first_repeat-requires-clause-few g c = c.requires

pub first_unjoined-requires : goal.first_unjoined-requires
first_unjoined-requires g c = c.requires

pub first_repeat-requires-clause-pairs : goal.first_repeat-requires-clause-pairs
first_repeat-requires-clause-pairs g c = subst (λ k. IsLeastFailing (PassesPair k c.args.lines.now) (length c.args.lines.now) None) (c.columns.ensures.columns ∙ sym c.columns-2.ensures.columns) c.in_default.ensures
