use Rattle.std.proofs.Common.{◌∙◌, length, Some, None, sym, subst}
use Rattle.std.proofs.lemmas.Bool.{both_ways}
use Rattle.verdict_judge.proofs.CoreTests.{length_fails, pair_fails, repeat_fails, joins_tested}
use Rattle.std.proofs.lemmas.Result.{IfOk-from_err}
use Rattle.core_text.specs.Cores.{AreRowNumbers}
use Rattle.verdict_judge.specs.Found.{IsLeastFailing}
use Rattle.verdict_judge.specs.NoTests.{PassesPair}
use Rattle.verdict_judge.proofs.core_check.lines_fault.Goals as goal

pub returns-then-not-is_odd_length : goal.returns-then-not-is_odd_length
returns-then-not-is_odd_length c =
    rw c.lines-lines.ensures (length_fails c.args.m.now c.args.kind c.args.t.now (λ h. both_ways c.is_odd_length.result c.if-not-is_odd_length.true (rw c.lines-lines.ensures at c.is_odd_length.ensures.1 h)))

pub returns-in-Some : goal.returns-in-Some
returns-in-Some c =
    pair_fails c.args.m.now c.args.kind c.args.t.now c.columns.result c.in-Some.i c.columns.ensures.columns (rw c.lines-lines.ensures at c.is_odd_length.ensures.0 c.if-not-is_odd_length.false)
    (rw c.lines-lines.ensures at c.in-Some.ensures)

pub returns-in-Some-2 : goal.returns-in-Some-2
returns-in-Some-2 c =
    repeat_fails c.args.m.now c.args.kind c.args.t.now c.columns.result c.in-Some-2.i c.in_ok-i.field-0 c.columns.ensures.columns (rw c.lines-lines.ensures at c.is_odd_length.ensures.0 c.if-not-is_odd_length.false)
    (rw c.lines-lines.ensures at c.in_default.ensures) c.in-Some-2.is (rw c.lines-lines.ensures at c.in_ok-i.ensures)

pub returns-in-Some-first_bad_join : goal.returns-in-Some-first_bad_join
returns-in-Some-first_bad_join c =
    joins_tested c.args.m.now c.args.kind c.args.t.now c.columns.result c.in_ok-i.field-0 (Some c.in-Some-first_bad_join.i) c.columns.ensures.columns
    (rw c.lines-lines.ensures at c.is_odd_length.ensures.0 c.if-not-is_odd_length.false) (rw c.lines-lines.ensures at c.in_default.ensures) c.in_default-2.is
    (rw c.lines-lines.ensures at c.in_ok-i.ensures) (rw (c.lines-lines.ensures, c.rows.ensures.rows) at c.in-Some-first_bad_join.ensures)

pub returns : goal.returns
returns c =
    joins_tested c.args.m.now c.args.kind c.args.t.now c.columns.result c.in_ok-i.field-0 None c.columns.ensures.columns
    (rw c.lines-lines.ensures at c.is_odd_length.ensures.0 c.if-not-is_odd_length.false) (rw c.lines-lines.ensures at c.in_default.ensures) c.in_default-2.is
    (rw c.lines-lines.ensures at c.in_ok-i.ensures) (rw (c.lines-lines.ensures, c.rows.ensures.rows) at c.in_default-first_bad_join.ensures)

pub returns-in_err-i : goal.returns-in_err-i
returns-in_err-i c = IfOk-from_err c.from_residual.result _ c.from_residual.ensures.0

pub first_bad_join-requires-clause-rows : goal.first_bad_join-requires-clause-rows
first_bad_join-requires-clause-rows c = subst (AreRowNumbers (length c.args.m.now.rows)) (sym c.rows.ensures.rows) c.requires.rows

pub first_repeat-requires-clause-pairs : goal.first_repeat-requires-clause-pairs
first_repeat-requires-clause-pairs c =
    subst (λ k. IsLeastFailing (PassesPair k c.lines-lines.result.now) (length c.lines-lines.result.now) None) (c.columns.ensures.columns ∙ sym c.columns-2.ensures.columns) c.in_default.ensures
