use Rattle.std.proofs.Common.{arith}
use Rattle.short_cycles.proofs.quick.far_cycle.Goals as goal

pub odd_links-requires : goal.odd_links-requires
odd_links-requires g c = record { order = c.requires.columns; few = c.requires.few }

pub walk_around-requires : goal.walk_around-requires
walk_around-requires g c = c.requires.columns

pub checked_cycle-requires : goal.checked_cycle-requires
checked_cycle-requires g c = c.requires.row

pub returns : goal.returns
returns g c = record {
  found = c.checked_cycle.ensures.cycle;
  short = c.checked_cycle.ensures.short;
  ticks = omega (arith, c.odd_links.ensures.ticks, c.walk_around.ensures.ticks, c.checked_cycle.ensures.ticks);
}

pub returns-in_err-links-clause-ticks : goal.returns-in_err-links-clause-ticks
returns-in_err-links-clause-ticks g c = omega (arith, c.odd_links.ensures.ticks)

pub returns-in_err-walk-clause-ticks : goal.returns-in_err-walk-clause-ticks
returns-in_err-walk-clause-ticks g c = omega (arith, c.odd_links.ensures.ticks, c.walk_around.ensures.ticks)

pub returns-in_err-lines-clause-ticks : goal.returns-in_err-lines-clause-ticks
returns-in_err-lines-clause-ticks g c = omega (arith, c.odd_links.ensures.ticks, c.walk_around.ensures.ticks)
