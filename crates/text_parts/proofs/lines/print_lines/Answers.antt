use Rattle.text_parts.proofs.PrintLaws.{numbered_more, on_err, extends_after}
use Rattle.text_parts.proofs.lines.print_lines.Goals as goal

pub loop-i-preserved : goal.loop-i-preserved
loop-i-preserved g c = numbered_more g.F.LineForm.line_text _ _ _ _ _ c.index-items-i.result _ c.loop-i-test.true c.index-items-i.is c.loop-i.invariant c.in_ok-print.ensures.ok

pub returns-in_err-print-clause-err : goal.returns-in_err-print-clause-err
returns-in_err-print-clause-err g c = on_err c.from_residual.result (extends_after _ _ _ _ c.loop-i.invariant c.in_err-print.ensures.err)
