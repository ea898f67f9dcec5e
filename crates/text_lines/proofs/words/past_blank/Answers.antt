use Rattle.std.proofs.Common.{◌∙◌, sym}
use Rattle.text_lines.proofs.WordLemmas.{to_end}
use Rattle.text_lines.proofs.FewDigits.{words_past}
use Rattle.text_lines.proofs.words.past_blank.Goals as goal

pub returns-then-not-begins_word-clause-words : goal.returns-then-not-begins_word-clause-words
returns-then-not-begins_word-clause-words c =
    let line = c.args.line.now in
    let at = c.args.at in
    words_past line at c.if-at-line.true (rw (to_end line at) at (sym c.begins_word.ensures ∙ c.if-not-begins_word.true))
