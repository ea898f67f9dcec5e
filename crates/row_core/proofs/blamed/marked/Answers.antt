use Rattle.std.proofs.Common.{◌∙◌, ap}
use Rattle.row_core.proofs.Marks.{row_taken, row_passed}
use Rattle.row_core.proofs.blamed.marked.Goals.{then-marks-i+in_ok-push, else-marks-i}
use Rattle.row_core.proofs.blamed.marked.Goals as goal

pub loop-i-preserved : goal.loop-i-preserved
loop-i-preserved c = elim c.if-marks-i.branch [
  | then-marks-i+in_ok-push w ↦ row_taken _ _ _ _ _ _ _ _ c.requires.marks c.loop-i-test.true w.if-marks-i.true (ap (λ v. v.items) w.rows-is ∙ w.in_ok-push.ensures.items) c.loop-i.invariant
  | else-marks-i w ↦ row_passed _ _ _ _ _ _ _ c.requires.marks c.loop-i-test.true w.if-marks-i.false (ap (λ v. v.items) w.rows-is) c.loop-i.invariant
]
