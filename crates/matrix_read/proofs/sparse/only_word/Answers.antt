use Rattle.std.proofs.Common.{refl, sym, ap}
use Rattle.matrix_read.specs.SparseSteps.{only_word}
use Rattle.text_lines.proofs.WordLemmas.{no_word}
use Rattle.matrix_read.proofs.SparseLemmas.{one_word, more_words}
use Rattle.matrix_read.proofs.sparse.only_word.Goals as goal

pub returns-in_default-clause-word : goal.returns-in_default-clause-word
returns-in_default-clause-word c = sym (ap only_word (no_word c.args.line.now 0 (c.in_default.ensures.none.0 refl)))

pub returns-in-Some-next_word-clause-word : goal.returns-in-Some-next_word-clause-word
returns-in-Some-next_word-clause-word c =
    let word = c.in-Some.ensures in
    let later = c.in-Some-next_word.ensures in
    more_words c.args.line.now _ _ _ _ word.start word.end word.range.0 later.start later.end later.range.0

pub returns-in-None-clause-word : goal.returns-in-None-clause-word
returns-in-None-clause-word c =
    let word = c.in-Some.ensures in
    sym (ap only_word (one_word c.args.line.now _ _ word.start word.end word.range.0 (c.in-None.ensures.none.0 refl)))
