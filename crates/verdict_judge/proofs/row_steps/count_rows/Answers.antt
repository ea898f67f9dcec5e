use Rattle.std.proofs.Common.{arith}
use Rattle.verdict_judge.proofs.StepSums.{ones_with_row}
use Rattle.verdict_judge.proofs.row_steps.count_rows.Goals as goal

pub loop-k-preserved : goal.loop-k-preserved
loop-k-preserved g c = omega (arith, c.loop-k.invariant, c.count_row.ensures, ones_with_row c.args.m.now.rows c.loop-k.k c.row.result.now c.row.ensures.row)
