use Rattle.std.proofs.Common.{◌≡◌, ◌∙◌, ap}
use Rattle.std.proofs.lemmas.Result.{on_ok_weaker, on_err_weaker}
use Rattle.text_parts.specs.Text.{kind_word}
use Rattle.core_text.proofs.PrintLaws.{five}
use Rattle.text_parts.proofs.PrintLaws.{on_err, unchanged, extends_after}
use Rattle.core_text.proofs.write.push_head.Goals as goal

pub returns-clause-ok : goal.returns-clause-ok
returns-clause-ok c =
    let word : c.word_of.result.now ≡ kind_word c.args.t.now.kind = c.word_of.ensures ∙ ap (λ v. kind_word v.kind) c.t.view_is in
    let columns : c.t.inside.columns ≡ c.args.t.now.columns = ap (λ v. v.columns) c.t.view_is in
    let number : c.from.result ≡ c.args.t.now.columns = c.from.ensures ∙ columns in
    on_ok_weaker c.push-4.result
    (λ e. five _ _ _ _ _ _ _ _ _ _ _ c.in_ok-push.ensures.ok (rw word at c.in_ok-push-2.ensures.ok) c.in_ok-push-3.ensures.ok (rw number at c.in_ok-push_word.ensures.ok) e)
    c.push-4.ensures.ok

pub returns-clause-err : goal.returns-clause-err
returns-clause-err c =
    on_err_weaker c.push-4.result
    (λ e. extends_after _ _ _ _ c.in_ok-push.ensures.ok (extends_after _ _ _ _ c.in_ok-push-2.ensures.ok (extends_after _ _ _ _ c.in_ok-push-3.ensures.ok (extends_after _ _ _ _ c.in_ok-push_word.ensures.ok (unchanged e)))))
    c.push-4.ensures.err

pub returns-in_err-push_word-clause-err : goal.returns-in_err-push_word-clause-err
returns-in_err-push_word-clause-err c = on_err _ (extends_after _ _ _ _ c.in_ok-push.ensures.ok (extends_after _ _ _ _ c.in_ok-push-2.ensures.ok (extends_after _ _ _ _ c.in_ok-push-3.ensures.ok c.in_err-push_word.ensures.err)))

pub returns-in_err-push-3-clause-err : goal.returns-in_err-push-3-clause-err
returns-in_err-push-3-clause-err c = on_err _ (extends_after _ _ _ _ c.in_ok-push.ensures.ok (extends_after _ _ _ _ c.in_ok-push-2.ensures.ok (unchanged c.in_err-push-3.ensures.err)))

pub returns-in_err-push-2-clause-err : goal.returns-in_err-push-2-clause-err
returns-in_err-push-2-clause-err c = on_err _ (extends_after _ _ _ _ c.in_ok-push.ensures.ok (unchanged c.in_err-push-2.ensures.err))
