use Rattle.std.proofs.lemmas.Result.{on_ok_weaker, on_err_weaker}
use Rattle.text_parts.proofs.PrintLaws.{on_err, unchanged, extends_after}
use Rattle.core_text.proofs.PrintLaws.{five}
use Rattle.core_text.proofs.write.push_entry.Goals as goal

pub returns-clause-ok : goal.returns-clause-ok
returns-clause-ok c =
    on_ok_weaker c.push-3.result
    (λ e. five _ _ _ _ _ _ _ _ _ _ _ c.in_ok-push.ensures.ok (rw c.from.ensures at c.in_ok-push_number.ensures.ok) c.in_ok-push-2.ensures.ok c.in_ok-push_words.ensures.ok e)
    c.push-3.ensures.ok

pub returns-in_err-push_number-clause-err : goal.returns-in_err-push_number-clause-err
returns-in_err-push_number-clause-err c = on_err _ (extends_after _ _ _ _ c.in_ok-push.ensures.ok (unchanged c.in_err-push_number.ensures.err))

pub returns-in_err-push-2-clause-err : goal.returns-in_err-push-2-clause-err
returns-in_err-push-2-clause-err c = on_err _ (extends_after _ _ _ _ c.in_ok-push.ensures.ok (extends_after _ _ _ _ c.in_ok-push_number.ensures.ok (unchanged c.in_err-push-2.ensures.err)))

pub returns-in_err-push_words-clause-err : goal.returns-in_err-push_words-clause-err
returns-in_err-push_words-clause-err c = on_err _ (extends_after _ _ _ _ c.in_ok-push.ensures.ok (extends_after _ _ _ _ c.in_ok-push_number.ensures.ok (extends_after _ _ _ _ c.in_ok-push-2.ensures.ok c.in_err-push_words.ensures.err)))

pub returns-clause-err : goal.returns-clause-err
returns-clause-err c =
    on_err_weaker c.push-3.result
    (λ e. extends_after _ _ _ _ c.in_ok-push.ensures.ok (extends_after _ _ _ _ c.in_ok-push_number.ensures.ok (extends_after _ _ _ _ c.in_ok-push-2.ensures.ok (extends_after _ _ _ _ c.in_ok-push_words.ensures.ok (unchanged e)))))
    c.push-3.ensures.err
