use Rattle.unit_model.proofs.WriteLaws.{lines_more, on_err, extends_after}
use Rattle.unit_model.proofs.write.push_lefts.Goals as goal

pub loop-i-preserved : goal.loop-i-preserved
loop-i-preserved c = lines_more _ _ _ _ _ c.loop-i-test.true c.loop-i.invariant c.in_ok-push_left.ensures.ok

pub returns-in_err-push_left-clause-err : goal.returns-in_err-push_left-clause-err
returns-in_err-push_left-clause-err c = on_err c.from_residual.result (extends_after _ _ _ _ c.loop-i.invariant c.in_err-push_left.ensures.err)
