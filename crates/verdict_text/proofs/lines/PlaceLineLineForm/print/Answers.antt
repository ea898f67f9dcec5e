use Rattle.std.proofs.lemmas.Result.{on_err_weaker}
use Rattle.text_parts.proofs.PrintLaws.{on_err, unchanged, extends_after}
use Rattle.verdict_text.proofs.lines.PlaceLineLineForm.print.Goals as goal

pub returns-in_err-push_number-clause-err : goal.returns-in_err-push_number-clause-err
returns-in_err-push_number-clause-err c = on_err _ (extends_after _ _ _ _ c.in_ok-push.ensures.ok (unchanged c.in_err-push_number.ensures.err))

pub returns-clause-err : goal.returns-clause-err
returns-clause-err c = on_err_weaker c.push_place_ends.result (λ e. extends_after _ _ _ _ c.in_ok-push.ensures.ok (extends_after _ _ _ _ c.in_ok-push_number.ensures.ok e)) c.push_place_ends.ensures.err
