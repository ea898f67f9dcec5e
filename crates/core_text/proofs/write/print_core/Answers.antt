use Rattle.std.proofs.Common.{◌∙◌, ◌++◌, ap}
use Rattle.std.proofs.lemmas.Result.{on_ok_weaker, on_err_weaker}
use Rattle.core_text.proofs.PrintLaws.{four, whole_text}
use Rattle.text_parts.proofs.PrintLaws.{on_err, unchanged, extends_after}
use Rattle.core_text.proofs.write.print_core.Goals as goal

pub returns-clause-ok : goal.returns-clause-ok
returns-clause-ok c =
    on_ok_weaker c.push.result
    (λ e. four _ _ _ _ _ _ _ _ _ c.in_ok-push_head.ensures.ok c.in_ok-push_entries.ensures.ok (rw c.lines.ensures at c.in_ok-print_cycle.ensures.ok) e
    ∙ ap (λ t. c.args.text.now.items ++ t) (whole_text c.args.t.now))
    c.push.ensures.ok

pub returns-in_err-push_entries-clause-err : goal.returns-in_err-push_entries-clause-err
returns-in_err-push_entries-clause-err c = on_err _ (extends_after _ _ _ _ c.in_ok-push_head.ensures.ok c.in_err-push_entries.ensures.err)

pub returns-in_err-print_cycle-clause-err : goal.returns-in_err-print_cycle-clause-err
returns-in_err-print_cycle-clause-err c = on_err _ (extends_after _ _ _ _ c.in_ok-push_head.ensures.ok (extends_after _ _ _ _ c.in_ok-push_entries.ensures.ok c.in_err-print_cycle.ensures.err))

pub returns-clause-err : goal.returns-clause-err
returns-clause-err c = on_err_weaker c.push.result (λ e. extends_after _ _ _ _ c.in_ok-push_head.ensures.ok (extends_after _ _ _ _ c.in_ok-push_entries.ensures.ok (extends_after _ _ _ _ c.in_ok-print_cycle.ensures.ok (unchanged e)))) c.push.ensures.err
