use Rattle.text_parts.proofs.PrintLaws.{on_err, extends_after}
use Rattle.text_parts.proofs.cycle.CycleLineLineForm.print.Goals as goal

pub returns-in_err-push_word-clause-err : goal.returns-in_err-push_word-clause-err
returns-in_err-push_word-clause-err c = on_err _ (extends_after _ _ _ _ c.in_ok-push_number.ensures.ok c.in_err-push_word.ensures.err)

pub returns-in_err-push_why-clause-err : goal.returns-in_err-push_why-clause-err
returns-in_err-push_why-clause-err c = on_err _ (extends_after _ _ _ _ c.in_ok-push_number.ensures.ok (extends_after _ _ _ _ c.in_ok-push_word.ensures.ok c.in_err-push_why.ensures.err))
