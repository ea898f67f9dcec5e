use Rattle.std.proofs.Common.{arith}
use Rattle.short_cycles.proofs.shorter.cycle_among.Goals as goal

pub checked_cycle-requires : goal.checked_cycle-requires
checked_cycle-requires g c = c.requires.rows

pub returns-clause-ticks : goal.returns-clause-ticks
returns-clause-ticks g c = omega (arith, c.lines_among.ensures.ticks, c.checked_cycle.ensures.ticks)

pub returns-in_err-add_lines-clause-ticks : goal.returns-in_err-add_lines-clause-ticks
returns-in_err-add_lines-clause-ticks g c = omega arith

pub returns-in_err-found-clause-ticks : goal.returns-in_err-found-clause-ticks
returns-in_err-found-clause-ticks g c = omega (arith, c.lines_among.ensures.ticks)
