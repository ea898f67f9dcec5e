use Rattle.std.proofs.Common.{◌≡◌, ◌+◌, ◌++◌, ◌∙◌, length, drop, ap, sym, arith, length-append, length-drop}
use Rattle.text_lines.specs.Lines.{lines_of}
use Rattle.matrix_read.specs.DigitRows.{lines_then}
use Rattle.matrix_read.proofs.DenseLemmas.{same_within}
use Rattle.matrix_read.proofs.dense_reader.DenseReader.take.Goals as goal

pub returns-clause-rows : goal.returns-clause-rows
returns-clause-rows c rest =
    let text = c.args.text.now in
    let self = c.args.self in
    let len = c.in-Some.len in
    let cut = c.in-Some.ensures in
    let later = lines_of (drop len text ++ rest) in
    let size : self.taken + len + length (drop len text ++ rest) ≡ self.taken + length (text ++ rest) =
    omega (arith, length-append (drop len text) rest, length-append text rest, length-drop len text, cut.within) in
    same_within _ _ size _ _
    (c.in_ok-read.ensures.rows later
    ∙ ap (λ lines. lines_then self.passed self.rows (lines_of lines ++ later)) c.unmarked_part-lines.ensures.text
    ∙ ap (lines_then self.passed self.rows) (sym (cut.lines self.is_begun rest)))
