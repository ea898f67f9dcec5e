use Rattle.std.proofs.Common.{inl, inr, take, subst, sym}
use Rattle.row_model.specs.Cycles.{IsOddCycle}
use Rattle.odd_cycle.specs.Short.{IsShort}
use Rattle.short_cycles.proofs.shorter.shorter_cycle.Goals as goal

pub returns-clause-cycle : goal.returns-clause-cycle
returns-clause-cycle g c = elim c.shorter_of.ensures.which [
  | inl e ↦ subst (IsOddCycle c.args.m.now.columns (take c.args.rows c.args.m.now.rows)) (sym e) c.requires.cycle
  | inr e ↦ rw e at c.in_ok-found.ensures.cycle
]

pub returns-clause-short : goal.returns-clause-short
returns-clause-short g c short = elim c.shorter_of.ensures.which [
  | inl e ↦ subst (IsShort c.args.m.now.columns) (sym e) short
  | inr e ↦ rw e at c.in_ok-found.ensures.short
]

pub returns-clause-length : goal.returns-clause-length
returns-clause-length g c = c.shorter_of.ensures.length

pub returns-clause-ticks : goal.returns-clause-ticks
returns-clause-ticks g c = c.cycle_among.ensures.ticks

pub returns-in_err-found-clause-ticks : goal.returns-in_err-found-clause-ticks
returns-in_err-found-clause-ticks g c = c.cycle_among.ensures.ticks

pub cycle_among-requires-clause-rows : goal.cycle_among-requires-clause-rows
cycle_among-requires-clause-rows g c = c.requires.rows
