use Rattle.std.proofs.lemmas.Result.{on_err_weaker}
use Rattle.unit_model.proofs.WriteLaws.{on_err, unchanged, extends_after}
use Rattle.unit_model.proofs.write.push_up_to_end.Goals as goal

pub returns-in_err-push_number-clause-err : goal.returns-in_err-push_number-clause-err
returns-in_err-push_number-clause-err c = on_err _ (extends_after _ _ _ _ c.in_ok-push.ensures.ok (unchanged c.in_err-push_number.ensures.err))

pub returns-clause-err : goal.returns-clause-err
returns-clause-err c = on_err_weaker c.push-2.result (λ e. extends_after _ _ _ _ c.in_ok-push.ensures.ok (extends_after _ _ _ _ c.in_ok-push_number.ensures.ok (unchanged e))) c.push-2.ensures.err
