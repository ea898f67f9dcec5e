use Rattle.std.proofs.lemmas.Result.{on_ok_weaker, on_err_weaker}
use Rattle.text_parts.proofs.PrintLaws.{on_err, extends_after, joined}
use Rattle.verdict_text.proofs.PrintLaws.{and_after}
use Rattle.verdict_text.proofs.write.push_part.Goals as goal

pub returns-in_ok-push_sides-in-Yes-clause-ok : goal.returns-in_ok-push_sides-in-Yes-clause-ok
returns-in_ok-push_sides-in-Yes-clause-ok c =
    rw c.in-Yes.is (on_ok_weaker c.push_added.result (λ e. joined _ _ _ _ _ _ _ c.in_ok-push-in-Yes.ensures.ok c.in_ok-push_sides-in-Yes.ensures.ok e) c.push_added.ensures.ok)

pub returns-in_ok-push_sides-in-Yes-clause-err : goal.returns-in_ok-push_sides-in-Yes-clause-err
returns-in_ok-push_sides-in-Yes-clause-err c =
    on_err_weaker c.push_added.result (λ e. extends_after _ _ _ _ c.in_ok-push-in-Yes.ensures.ok (extends_after _ _ _ _ c.in_ok-push_sides-in-Yes.ensures.ok e)) c.push_added.ensures.err

pub returns-in_err-push_sides-in-Yes-clause-err : goal.returns-in_err-push_sides-in-Yes-clause-err
returns-in_err-push_sides-in-Yes-clause-err c = on_err _ (extends_after _ _ _ _ c.in_ok-push-in-Yes.ensures.ok c.in_err-push_sides-in-Yes.ensures.err)

pub returns-in_ok-push-in-No-clause-ok : goal.returns-in_ok-push-in-No-clause-ok
returns-in_ok-push-in-No-clause-ok c = rw c.in-No.is (on_ok_weaker c.push_no.result (λ e. and_after _ _ _ _ _ c.in_ok-push-in-No.ensures.ok e) c.push_no.ensures.ok)

pub returns-in_ok-push-in-No-clause-err : goal.returns-in_ok-push-in-No-clause-err
returns-in_ok-push-in-No-clause-err c = on_err_weaker c.push_no.result (λ e. extends_after _ _ _ _ c.in_ok-push-in-No.ensures.ok e) c.push_no.ensures.err
