use Rattle.std.proofs.lemmas.Result.{on_ok_weaker, on_err_weaker}
use Rattle.unit_model.proofs.WriteLaws.{extends_after, head_printed}
use Rattle.unit_model.proofs.write.push_head.Goals as goal

pub returns-clause-ok : goal.returns-clause-ok
returns-clause-ok c =
    on_ok_weaker c.push_up_to_end-2.result (λ e. head_printed _ _ _ c.args.vertices c.args.length _ c.from.ensures c.in_ok-push_up_to_end.ensures.ok e) c.push_up_to_end-2.ensures.ok

pub returns-clause-err : goal.returns-clause-err
returns-clause-err c = on_err_weaker c.push_up_to_end-2.result (λ e. extends_after _ _ _ _ c.in_ok-push_up_to_end.ensures.ok e) c.push_up_to_end-2.ensures.err
