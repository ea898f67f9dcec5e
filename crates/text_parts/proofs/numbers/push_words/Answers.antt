use Rattle.text_parts.proofs.PrintLaws.{on_err, extends_after}
use Rattle.text_parts.proofs.numbers.push_words.Goals as goal

pub returns-in_err-push_word-clause-err : goal.returns-in_err-push_word-clause-err
returns-in_err-push_word-clause-err c = on_err c.from_residual.result (extends_after _ _ _ _ c.loop-n.invariant c.in_err-push_word.ensures.err)
