use Rattle.std.proofs.Common.{◌-◌, length}
use Rattle.bubble_pass.specs.Tables.{KnownFrom}
use Rattle.bubble_pass.proofs.tables.Tables.clear.Given as goal

abbrev pub invariant-loop-i : goal.invariant-loop-i
invariant-loop-i l = KnownFrom l.self (length l.fn.self.climber.stages.items) l.i

abbrev pub decreases-loop-i : goal.decreases-loop-i
decreases-loop-i l = l.self.climber.tail - l.i
