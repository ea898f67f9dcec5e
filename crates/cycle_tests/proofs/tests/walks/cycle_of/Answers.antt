use Rattle.std.proofs.Common.{arith}
use Rattle.row_model.proofs.CycleLaws.{closed_more}
use Rattle.cycle_tests.proofs.tests.walks.cycle_of.Goals as goal

pub simple_cycle-requires : goal.simple_cycle-requires
simple_cycle-requires c =
    let walk = rw c.in-Some.is at c.in_ok-walk.ensures in
    closed_more c.args.m.now.columns c.args.m.now.rows c.rows.result c.in-Some.walk (omega arith) walk.closed
