use Rattle.std.proofs.Common.{◌≡◌, ◌∙◌, ap, length}
use Rattle.text_lines.specs.Words.{words_of}
use Rattle.matrix_read.specs.SparseSteps.{columns_named}
use Rattle.text_lines.specs.Rows.{columns_among}
use Rattle.matrix_read.proofs.RowLemmas.{marked_is}
use Rattle.matrix_read.proofs.sparse.row_in.Goals as goal

pub returns-clause-row : goal.returns-clause-row
returns-clause-row c =
    let marks = c.mark_columns.new.marks in
    let numbers = columns_named (words_of c.args.line.now) in
    let same : length marks ≡ length c.args.marks.now = c.mark_columns.auto.marks in
    c.take_listed.ensures.columns
    ∙ marked_is marks numbers (λ j lt. c.in_ok-count.ensures.marks j (rw same at lt))
    ∙ ap (λ n. columns_among n numbers) same
