use Rattle.std.proofs.lemmas.Result.{on_err_weaker}
use Rattle.unit_model.proofs.WriteLaws.{extends_after}
use Rattle.unit_model.proofs.write.push_left.Goals as goal

pub returns-clause-err : goal.returns-clause-err
returns-clause-err c =
    on_err_weaker c.push_up_to_end.result (λ e. extends_after _ _ _ _ c.in_ok-push.ensures.ok (extends_after _ _ _ _ c.in_ok-push_number.ensures.ok e)) c.push_up_to_end.ensures.err
