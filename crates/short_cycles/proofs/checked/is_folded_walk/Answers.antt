use Rattle.std.proofs.Common.{arith}
use Rattle.std.proofs.lemmas.Bool.{false≢true}
use Rattle.std.proofs.lemmas.Result.{IfOk-weaker}
use Rattle.short_cycles.proofs.checked.is_folded_walk.Goals as goal

pub returns-then-not-is_odd_walk : goal.returns-then-not-is_odd_walk
returns-then-not-is_odd_walk g c = record {
  walk = λ t. absurd (false≢true t);
  folded = λ t. absurd (false≢true t);
  ticks = omega (arith, c.is_odd_walk.ensures.ticks, c.if-count-left.false);
  less = omega arith;
  turns = λ t. absurd (false≢true t);
}

pub returns-then-count-lt3 : goal.returns-then-count-lt3
returns-then-count-lt3 g c = record { walk = λ t. absurd (false≢true t); folded = λ t. absurd (false≢true t); ticks = omega arith; less = omega arith; turns = λ t. absurd (false≢true t) }

pub is_odd_walk-requires : goal.is_odd_walk-requires
is_odd_walk-requires g c = c.requires

pub returns-clause-walk : goal.returns-clause-walk
returns-clause-walk g c = IfOk-weaker c.is_folded.result _ _ (λ yes folded t. c.is_odd_walk.ensures.walk c.if-not-is_odd_walk.false) c.is_folded.ensures

pub returns-clause-turns : goal.returns-clause-turns
returns-clause-turns g c = IfOk-weaker c.is_folded.result _ _ (λ yes folded t. c.is_odd_walk.ensures.turns c.if-not-is_odd_walk.false) c.is_folded.ensures

pub returns-clause-ticks : goal.returns-clause-ticks
returns-clause-ticks g c = omega (arith, c.is_odd_walk.ensures.ticks, c.if-count-left.false)

pub returns-clause-less : goal.returns-clause-less
returns-clause-less g c = omega arith

pub returns-clause-folded : goal.returns-clause-folded
returns-clause-folded g c = c.is_folded.ensures
