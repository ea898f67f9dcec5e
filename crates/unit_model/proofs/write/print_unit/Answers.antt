use Rattle.std.proofs.lemmas.Result.{on_err_weaker}
use Rattle.unit_model.proofs.WriteLaws.{on_err, unchanged, extends_after}
use Rattle.unit_model.proofs.write.print_unit.Goals as goal

pub returns-in_err-push_lefts-clause-err : goal.returns-in_err-push_lefts-clause-err
returns-in_err-push_lefts-clause-err c = on_err _ (extends_after _ _ _ _ c.in_ok-push_head.ensures.ok c.in_err-push_lefts.ensures.err)

pub returns-clause-err : goal.returns-clause-err
returns-clause-err c = on_err_weaker c.push.result (λ e. extends_after _ _ _ _ c.in_ok-push_head.ensures.ok (extends_after _ _ _ _ c.in_ok-push_lefts.ensures.ok (unchanged e))) c.push.ensures.err
