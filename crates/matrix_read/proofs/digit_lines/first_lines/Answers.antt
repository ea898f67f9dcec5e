use Rattle.std.proofs.Common.{◌≡◌, ◌∙◌, ◌+◌, ◌++◌, ℕ, List, slice_range, length, drop, ap, sym, arith}
use Rattle.std.proofs.lemmas.Result.{IfOk-weaker}
use Rattle.text_lines.specs.Lines.{lines_of, filled_lines}
use Rattle.text_lines.proofs.WordLemmas.{to_end}
use Rattle.matrix_read.specs.DenseSteps.{read_lines}
use Rattle.matrix_read.specs.DigitsThen.{digits_then}
use Rattle.matrix_read.specs.DigitRows.{lines_then}
use Rattle.matrix_read.specs.declared.digit_rows.LinesRead.{LinesRead}
use Rattle.std.proofs.lemmas.Result.{IfOk-from_err}
use Rattle.matrix_read.proofs.digit_lines.first_lines.Goals as goal

pub front_of-requires : goal.front_of-requires
front_of-requires c = c.requires

pub new-requires : goal.new-requires
new-requires c =
    let within = rw c.in-Ok-Row.field-0-is at c.in-Ok-Row.ensures.within in
    record { range = (within.0, within.1) }

pub returns-in_err-rows-in-Ok-Row-clause-rows : goal.returns-in_err-rows-in-Ok-Row-clause-rows
returns-in_err-rows-in-Ok-Row-clause-rows c = IfOk-from_err c.from_residual.result _ c.from_residual.ensures.0

pub returns-in_err-rows-in-Ok-Row-clause-within : goal.returns-in_err-rows-in-Ok-Row-clause-within
returns-in_err-rows-in-Ok-Row-clause-within c = IfOk-from_err c.from_residual.result _ c.from_residual.ensures.0

pub returns-in-Err-clause-rows : goal.returns-in-Err-clause-rows
returns-in-Err-clause-rows c later = sym (c.in-Err.ensures.refused later)

pub returns-in-Err-clause-within : goal.returns-in-Err-clause-within
returns-in-Err-clause-within c = omega arith

pub returns-in-Ok-NoRow-clause-rows : goal.returns-in-Ok-NoRow-clause-rows
returns-in-Ok-NoRow-clause-rows c = rw c.in-Ok-NoRow.field-0-is at c.in-Ok-NoRow.ensures.front

pub returns-in-Ok-NoRow-clause-within : goal.returns-in-Ok-NoRow-clause-within
returns-in-Ok-NoRow-clause-within c = rw c.in-Ok-NoRow.field-0-is at c.in-Ok-NoRow.ensures.within

pub returns-in_ok-rows-in-Ok-Row-clause-rows : goal.returns-in_ok-rows-in-Ok-Row-clause-rows
returns-in_ok-rows-in-Ok-Row-clause-rows c =
    let text = c.args.text.now in
    let first = c.in-Ok-Row.first in
    let rows = c.in_ok-rows-in-Ok-Row.rows in
    let front = rw c.in-Ok-Row.field-0-is at c.in-Ok-Row.ensures.front in
    IfOk-weaker c.with_lines.result
    (λ (read : LinesRead). (later : List (List ℕ)) → lines_then read.passed read.rows later ≡ digits_then first.passed rows.matrix (lines_of (slice_range text first.start (length text)) ++ later))
    (λ (read : LinesRead). (later : List (List ℕ)) → lines_then read.passed read.rows later ≡ read_lines (filled_lines (c.args.passed + 1) (lines_of text ++ later)))
    (λ read made later.
    made later
    ∙ ap (λ behind. digits_then first.passed rows.matrix (lines_of behind ++ later)) (to_end text first.start)
    ∙ ap (λ matrix. digits_then first.passed matrix (lines_of (drop first.start text) ++ later)) c.in_ok-rows-in-Ok-Row.ensures
    ∙ front later)
    c.with_lines.ensures.rows
