use Rattle.verdict_text.specs.Text.{verdict_text}
use Rattle.std.proofs.lemmas.Result.{on_ok_weaker, on_err_weaker}
use Rattle.text_parts.proofs.PrintLaws.{on_err, unchanged, extends_after, joined}
use Rattle.verdict_text.proofs.write.print.Goals as goal

pub returns-clause-ok : goal.returns-clause-ok
unfolding verdict_text
returns-clause-ok c = on_ok_weaker c.push.result (λ e. joined _ _ _ _ _ _ _ c.in_ok-push_head.ensures.ok c.in_ok-push_part.ensures.ok e) c.push.ensures.ok

pub returns-in_err-push_part-clause-err : goal.returns-in_err-push_part-clause-err
returns-in_err-push_part-clause-err c = on_err _ (extends_after _ _ _ _ c.in_ok-push_head.ensures.ok c.in_err-push_part.ensures.err)

pub returns-clause-err : goal.returns-clause-err
returns-clause-err c = on_err_weaker c.push.result (λ e. extends_after _ _ _ _ c.in_ok-push_head.ensures.ok (extends_after _ _ _ _ c.in_ok-push_part.ensures.ok (unchanged e))) c.push.ensures.err
