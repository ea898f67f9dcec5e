use Rattle.std.proofs.Common.{[], ◌∙◌, ◌+◌, length, ap, arith}
use Rattle.std.proofs.lemmas.Bool.{le-ltb}
use Rattle.std.proofs.lemmas.List.{append-nil}
use Rattle.row_model.specs.declared.TheConstants.{MAX_FILE_BYTES}
use Rattle.text_lines.specs.Lines.{lines_of}
use Rattle.matrix_read.specs.DigitRows.{lines_then}
use Rattle.matrix_read.proofs.dense_reader.DenseReader.finish.Goals as goal

pub returns : goal.returns
returns c =
    let self = c.args.self in
    let within = le-ltb MAX_FILE_BYTES (self.taken + length c.args.text.now) (omega arith) in
    rw within (
    c.matrix_read.ensures c.in_ok-read.read.passed
    ∙ c.in_ok-read.ensures.rows []
    ∙ ap (lines_then self.passed self.rows) (append-nil _)
    ∙ ap (λ text. lines_then self.passed self.rows (lines_of text)) c.unmarked_part-lines.ensures.text
    )
