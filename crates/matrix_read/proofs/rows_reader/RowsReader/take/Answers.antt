use Rattle.std.proofs.Common.{◌++◌, ◌∙◌, drop, ap, sym}
use Rattle.text_lines.specs.Lines.{lines_of}
use Rattle.matrix_read.specs.NamedRows.{begun_then}
use Rattle.matrix_read.proofs.rows_reader.RowsReader.take.Goals as goal

pub returns-clause-rows : goal.returns-clause-rows
returns-clause-rows c rest =
    let rows = c.args.self.rows in
    let later = lines_of (drop c.in-Some.len c.args.text.now ++ rest) in
    c.in_ok-rows.ensures later
    ∙ ap (λ lines. begun_then rows (lines_of lines ++ later)) c.unmarked_part-lines.ensures.text
    ∙ ap (begun_then rows) (sym (c.in-Some.ensures.lines c.args.self.is_begun rest))
