use Rattle.text_parts.proofs.PrintLaws.{on_err, unchanged, extends_after}
use Rattle.text_parts.proofs.cycle.push_why.Goals as goal

pub returns-in_err-push_number-in-Row-clause-err : goal.returns-in_err-push_number-in-Row-clause-err
returns-in_err-push_number-in-Row-clause-err c = on_err _ (extends_after _ _ _ _ c.in_ok-push-in-Row.ensures.ok (unchanged c.in_err-push_number-in-Row.ensures.err))

pub returns-in_err-push-in-Row-2-clause-err : goal.returns-in_err-push-in-Row-2-clause-err
returns-in_err-push-in-Row-2-clause-err c = on_err _ (extends_after _ _ _ _ c.in_ok-push-in-Row.ensures.ok (extends_after _ _ _ _ c.in_ok-push_number-in-Row.ensures.ok (unchanged c.in_err-push-in-Row-2.ensures.err)))
