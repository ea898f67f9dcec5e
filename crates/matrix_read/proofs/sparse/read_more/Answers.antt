use Rattle.std.proofs.Common.{[], ◌∙◌, ap, sym}
use Rattle.std.proofs.lemmas.List.{append-nil}
use Rattle.text_lines.specs.Lines.{lines_of}
use Rattle.text_lines.specs.Rows.{numbered_lines}
use Rattle.matrix_read.specs.Sparse.{named_rows}
use Rattle.matrix_read.specs.RowsThen.{rows_then}
use Rattle.matrix_read.proofs.SparseLemmas.{further_long, further_short, then_none}
use Rattle.matrix_read.proofs.sparse.read_more.Goals as goal

pub returns-then-bytes-gt-MAX_FILE_BYTES : goal.returns-then-bytes-gt-MAX_FILE_BYTES
returns-then-bytes-gt-MAX_FILE_BYTES c = c.refused.ensures ∙ sym (further_long c.args.bytes.now c.args.c c.if-bytes-gt-MAX_FILE_BYTES.true)

pub returns : goal.returns
returns c =
    let rows = c.in_ok-rows.rows in
    let text = c.without_mark.result.now in
    c.matrix_of.ensures
    ∙ c.in_ok-with_lines.ensures []
    ∙ ap (λ lines. rows_then rows.passed rows.matrix lines) (append-nil (lines_of text))
    ∙ ap (λ passed. rows_then passed rows.matrix (lines_of text)) c.in_ok-rows.ensures.passed
    ∙ then_none 0 rows.matrix c.args.c (lines_of text) c.in_ok-rows.ensures.matrix
    ∙ ap (λ t. named_rows c.args.c (numbered_lines 1 (lines_of t))) c.without_mark.ensures.text
    ∙ sym (further_short c.args.bytes.now c.args.c c.if-bytes-gt-MAX_FILE_BYTES.false)
