use Rattle.std.proofs.Common.{◌++◌, ◌∙◌, ℕ, List, drop, ap, sym}
use Rattle.text_lines.specs.Lines.{lines_of}
use Rattle.text_lines.proofs.WordLemmas.{to_end}
use Rattle.matrix_read.specs.NamedRows.{named_then}
use Rattle.matrix_read.specs.RowsThen.{rows_then}
use Rattle.matrix_read.proofs.SparseLemmas.{first_refused, first_taken, then_none}
use Rattle.matrix_read.proofs.rows_reader.first_lines.Goals as goal

pub returns-in-Err : goal.returns-in-Err
returns-in-Err c later =
    let split = ap (λ lines. lines ++ later) c.in-Some.ensures.lines in
    sym (first_refused _ _ _ split c.in-Err.code c.in-Err.ensures.width)

pub returns-in_ok-with_lines-in-Ok : goal.returns-in_ok-with_lines-in-Ok
returns-in_ok-with_lines-in-Ok c later =
    let text = c.args.text.now in
    let split = ap (λ lines. lines ++ later) c.in-Some.ensures.lines in
    let rest : List (List ℕ) = lines_of (drop c.in-Some.first.next text) ++ later in
    let rows = c.in_ok-rows-in-Ok.rows in
    c.in_ok-with_lines-in-Ok.ensures later
    ∙ ap (λ behind. named_then rows (lines_of behind ++ later)) (to_end text c.in-Some.first.next)
    ∙ ap (λ passed. rows_then passed rows.matrix rest) c.in_ok-rows-in-Ok.ensures.passed
    ∙ then_none 1 rows.matrix c.in-Ok.c rest c.in_ok-rows-in-Ok.ensures.matrix
    ∙ sym (first_taken _ _ _ split c.in-Ok.c c.in-Ok.ensures.width)
