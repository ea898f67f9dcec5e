use Rattle.std.proofs.lemmas.Result.{on_err_weaker}
use Rattle.text_parts.proofs.PrintLaws.{extends_after}
use Rattle.verdict_text.proofs.write.push_head.Goals as goal

pub returns-clause-err : goal.returns-clause-err
returns-clause-err c = on_err_weaker c.print_subject.result (λ e. extends_after _ _ _ _ c.in_ok-push.ensures.ok e) c.print_subject.ensures.err
