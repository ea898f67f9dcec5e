use Rattle.std.proofs.Common.{arith}
use Rattle.verdict_judge.proofs.row_steps.count_row.Goals as goal

pub returns : goal.returns
returns g c = omega arith
