use Rattle.std.proofs.Common.{arith}
use Rattle.short_cycles.proofs.quick.near_cycle.Goals as goal

pub met_at_borders-requires : goal.met_at_borders-requires
met_at_borders-requires g c = c.requires.columns

pub checked_cycle-requires : goal.checked_cycle-requires
checked_cycle-requires g c = c.requires.row

pub returns-clause-ticks : goal.returns-clause-ticks
returns-clause-ticks g c = omega (arith, c.lines_at_half.ensures.ticks, c.checked_cycle.ensures.ticks, c.checked_cycle.ensures.less)

pub returns-in_err-met-clause-ticks : goal.returns-in_err-met-clause-ticks
returns-in_err-met-clause-ticks g c = omega arith

pub returns-in_err-lines-clause-ticks : goal.returns-in_err-lines-clause-ticks
returns-in_err-lines-clause-ticks g c = c.lines_at_half.ensures.ticks
