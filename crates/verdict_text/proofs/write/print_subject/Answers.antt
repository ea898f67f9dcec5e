use Rattle.verdict_text.proofs.PrintLaws.{subject_printed}
use Rattle.std.proofs.lemmas.Result.{on_ok_weaker, on_err_weaker}
use Rattle.text_parts.proofs.PrintLaws.{on_err, unchanged, extends_after}
use Rattle.verdict_text.proofs.write.print_subject.Goals as goal

pub returns-clause-ok : goal.returns-clause-ok
returns-clause-ok c = on_ok_weaker c.push-4.result (λ e. subject_printed _ _ _ _ _ _ _ _ _ c.word_of.ensures c.in_ok-push.ensures.ok c.in_ok-push-2.ensures.ok c.in_ok-push-3.ensures.ok c.in_ok-push_columns.ensures.ok e) c.push-4.ensures.ok

pub returns-in_err-push-2-clause-err : goal.returns-in_err-push-2-clause-err
returns-in_err-push-2-clause-err c = on_err _ (extends_after _ _ _ _ c.in_ok-push.ensures.ok (unchanged c.in_err-push-2.ensures.err))

pub returns-in_err-push-3-clause-err : goal.returns-in_err-push-3-clause-err
returns-in_err-push-3-clause-err c = on_err _ (extends_after _ _ _ _ c.in_ok-push.ensures.ok (extends_after _ _ _ _ c.in_ok-push-2.ensures.ok (unchanged c.in_err-push-3.ensures.err)))

pub returns-in_err-push_columns-clause-err : goal.returns-in_err-push_columns-clause-err
returns-in_err-push_columns-clause-err c = on_err _ (extends_after _ _ _ _ c.in_ok-push.ensures.ok (extends_after _ _ _ _ c.in_ok-push-2.ensures.ok (extends_after _ _ _ _ c.in_ok-push-3.ensures.ok c.in_err-push_columns.ensures.err)))

pub returns-clause-err : goal.returns-clause-err
returns-clause-err c = on_err_weaker c.push-4.result (λ e. extends_after _ _ _ _ c.in_ok-push.ensures.ok (extends_after _ _ _ _ c.in_ok-push-2.ensures.ok (extends_after _ _ _ _ c.in_ok-push-3.ensures.ok (extends_after _ _ _ _ c.in_ok-push_columns.ensures.ok (unchanged e))))) c.push-4.ensures.err
