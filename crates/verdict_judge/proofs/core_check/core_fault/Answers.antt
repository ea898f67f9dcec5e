use Rattle.std.proofs.Common.{◌∙◌, length, map, sym, subst}
use Rattle.std.proofs.lemmas.Bool.{both_ways}
use Rattle.std.specs.Prelude.{option_map}
use Rattle.verdict_judge.specs.Found.{Finds}
use Rattle.verdict_judge.specs.Core.{PassesCore}
use Rattle.verdict_judge.specs.declared.core_outcome.CoreReason.TheVariants as reason
use Rattle.verdict_judge.proofs.CoreTests.{kind_fails, columns_fail, rows_fail, order_fails, lines_tested, numbers_read, read_numbers}
use Rattle.verdict_judge.proofs.core_check.core_fault.Goals as goal

pub returns-then-not-is_kind : goal.returns-then-not-is_kind
returns-then-not-is_kind c =
    kind_fails c.args.m.now c.args.kind c.args.t.now (λ e. both_ways c.is_kind.result c.if-not-is_kind.true (c.is_kind.ensures.1 (c.kind.ensures ∙ e)))

pub returns-then-columns : goal.returns-then-columns
returns-then-columns c =
    columns_fail c.args.m.now c.args.kind c.args.t.now (sym c.kind.ensures ∙ c.is_kind.ensures.0 c.if-not-is_kind.false)
    (λ e. c.if-columns.true (c.columns.ensures ∙ e ∙ sym c.columns-2.ensures.columns))

pub returns-then-not-are_row_numbers : goal.returns-then-not-are_row_numbers
returns-then-not-are_row_numbers c =
    rows_fail c.args.m.now c.args.kind c.args.t.now (sym c.kind.ensures ∙ c.is_kind.ensures.0 c.if-not-is_kind.false) (sym c.columns.ensures ∙ c.if-columns.false ∙ c.columns-2.ensures.columns)
    (λ h. both_ways c.are_row_numbers.result c.if-not-are_row_numbers.true
    (c.are_row_numbers.ensures.1 (numbers_read c.rows.result (length c.args.m.now.rows) c.args.t.now.parts.rows c.rows-2.result.now c.rows.ensures c.rows-2.ensures.rows h)))

pub returns-in-Some : goal.returns-in-Some
returns-in-Some c =
    order_fails c.args.m.now c.args.kind c.args.t.now c.in-Some.k (sym c.kind.ensures ∙ c.is_kind.ensures.0 c.if-not-is_kind.false) (sym c.columns.ensures ∙ c.if-columns.false ∙ c.columns-2.ensures.columns)
    (read_numbers c.rows.result (length c.args.m.now.rows) c.args.t.now.parts.rows c.rows-2.result.now c.rows.ensures c.rows-2.ensures.rows (c.are_row_numbers.ensures.0 c.if-not-are_row_numbers.false))
    (subst (λ o. Finds (PassesCore c.args.m.now c.args.kind c.args.t.now) (map reason.Order c.args.t.now.parts.rows) (option_map reason.Order o)) c.in-Some.is (c.in_ok-k.ensures c.args.kind))

pub returns : goal.returns
returns c =
    lines_tested c.args.m.now c.args.kind c.args.t.now c.lines_fault.result (sym c.kind.ensures ∙ c.is_kind.ensures.0 c.if-not-is_kind.false)
    (sym c.columns.ensures ∙ c.if-columns.false ∙ c.columns-2.ensures.columns)
    (read_numbers c.rows.result (length c.args.m.now.rows) c.args.t.now.parts.rows c.rows-2.result.now c.rows.ensures c.rows-2.ensures.rows (c.are_row_numbers.ensures.0 c.if-not-are_row_numbers.false))
    (subst (λ o. Finds (PassesCore c.args.m.now c.args.kind c.args.t.now) (map reason.Order c.args.t.now.parts.rows) (option_map reason.Order o)) c.in_default.is (c.in_ok-k.ensures c.args.kind))
    c.lines_fault.ensures
