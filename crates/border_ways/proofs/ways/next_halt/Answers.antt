use Rattle.std.proofs.Common.{refl, arith}
use Rattle.std.proofs.lemmas.Option.{MatchOption-from_none}
use Rattle.border_ways.proofs.ways.next_halt.Goals as goal

pub returns-then-not-is_pair : goal.returns-then-not-is_pair
returns-then-not-is_pair g c = record { ticks = refl; less = tt; rest = omega arith; costs = tt }

pub returns-in_err-line-in-None : goal.returns-in_err-line-in-None
returns-in_err-line-in-None g c = record { ticks = refl; less = MatchOption-from_none c.from_residual.result _ c.from_residual.ensures; rest = omega arith; costs = MatchOption-from_none c.from_residual.result _ c.from_residual.ensures }

pub returns-in_err-row : goal.returns-in_err-row
returns-in_err-row g c = record { ticks = refl; less = MatchOption-from_none c.from_residual-in_err-row.result _ c.from_residual-in_err-row.ensures; rest = omega arith; costs = MatchOption-from_none c.from_residual-in_err-row.result _ c.from_residual-in_err-row.ensures }

pub returns-in_err-ends : goal.returns-in_err-ends
returns-in_err-ends g c = record { ticks = c.ends_of.ensures.ticks; less = MatchOption-from_none c.from_residual-in_err-ends.result _ c.from_residual-in_err-ends.ensures; rest = c.ends_of.ensures.rest; costs = MatchOption-from_none c.from_residual-in_err-ends.result _ c.from_residual-in_err-ends.ensures }

pub returns-then-is_first : goal.returns-then-is_first
returns-then-is_first g c = record { ticks = c.ends_of.ensures.ticks; less = c.in_ok-ends.ensures.less; rest = c.ends_of.ensures.rest; costs = omega (arith, c.in_ok-ends.ensures.turns) }

pub returns-else-is_first : goal.returns-else-is_first
returns-else-is_first g c = record { ticks = c.ends_of.ensures.ticks; less = c.in_ok-ends.ensures.less; rest = c.ends_of.ensures.rest; costs = omega (arith, c.in_ok-ends.ensures.turns) }
