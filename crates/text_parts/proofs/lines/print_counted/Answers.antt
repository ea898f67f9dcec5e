use Rattle.text_parts.proofs.PrintLaws.{on_err, unchanged, extends_after}
use Rattle.text_parts.proofs.lines.print_counted.Goals as goal

pub returns-in_err-push_number-clause-err : goal.returns-in_err-push_number-clause-err
returns-in_err-push_number-clause-err g c = on_err _ (extends_after _ _ _ _ c.in_ok-push.ensures.ok (unchanged c.in_err-push_number.ensures.err))

pub returns-in_err-push-2-clause-err : goal.returns-in_err-push-2-clause-err
returns-in_err-push-2-clause-err g c = on_err _ (extends_after _ _ _ _ c.in_ok-push.ensures.ok (extends_after _ _ _ _ c.in_ok-push_number.ensures.ok (unchanged c.in_err-push-2.ensures.err)))

pub returns-in_err-print_lines-clause-err : goal.returns-in_err-print_lines-clause-err
returns-in_err-print_lines-clause-err g c = on_err _ (extends_after _ _ _ _ c.in_ok-push.ensures.ok (extends_after _ _ _ _ c.in_ok-push_number.ensures.ok (extends_after _ _ _ _ c.in_ok-push-2.ensures.ok c.in_err-print_lines.ensures.err)))
