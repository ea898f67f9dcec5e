use Rattle.std.proofs.Common.{[], ◌∙◌, ap, sym, refl}
use Rattle.std.proofs.lemmas.List.{append-nil}
use Rattle.text_lines.specs.Lines.{lines_of}
use Rattle.text_lines.proofs.FirstRefused.{numbered_none}
use Rattle.matrix_read.specs.SparseSteps.{sparse_lines}
use Rattle.matrix_read.specs.NamedRows.{begun_then}
use Rattle.matrix_read.proofs.rows_reader.RowsReader.finish.Goals as goal

pub returns-in-None : goal.returns-in-None
returns-in-None c =
    c.refused.ensures
    ∙ sym (ap sparse_lines (numbered_none 1 [] refl))
    ∙ ap (λ rows. begun_then rows []) (sym c.in-None.is)
    ∙ c.in_ok-further.ensures []
    ∙ ap (begun_then c.args.self.rows) (append-nil _)
    ∙ ap (λ text. begun_then c.args.self.rows (lines_of text)) c.unmarked_part-lines.ensures.text

pub returns-in-Some : goal.returns-in-Some
returns-in-Some c =
    c.matrix_of.ensures
    ∙ ap (λ rows. begun_then rows []) (sym c.in-Some.is)
    ∙ c.in_ok-further.ensures []
    ∙ ap (begun_then c.args.self.rows) (append-nil _)
    ∙ ap (λ text. begun_then c.args.self.rows (lines_of text)) c.unmarked_part-lines.ensures.text
