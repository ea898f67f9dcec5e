use Rattle.std.proofs.Common.{refl, arith}
use Rattle.std.proofs.lemmas.Option.{MatchOption-from_none}
use Rattle.border_ways.proofs.ways.ends_of.Goals as goal

pub loop-i-preserved : goal.loop-i-preserved
loop-i-preserved g c = omega (arith, c.loop-i.invariant, c.member_counted-column.ensures.ticks)

pub returns-then-row-eq0 : goal.returns-then-row-eq0
returns-then-row-eq0 g c = record { ticks = refl; less = tt; rest = omega arith; turns = tt }

pub returns-in_err-left : goal.returns-in_err-left
returns-in_err-left g c = record { ticks = refl; less = MatchOption-from_none c.from_residual.result _ c.from_residual.ensures; rest = omega arith; turns = MatchOption-from_none c.from_residual.result _ c.from_residual.ensures }

pub returns-in_err-left-2 : goal.returns-in_err-left-2
returns-in_err-left-2 g c = record {
  ticks = omega (arith, c.in_ok-left.ensures, c.len_counted-count.ensures.ticks);
  less = MatchOption-from_none c.from_residual-in_err-left-2.result _ c.from_residual-in_err-left-2.ensures;
  rest = omega (arith, c.in_ok-left.ensures);
  turns = MatchOption-from_none c.from_residual-in_err-left-2.result _ c.from_residual-in_err-left-2.ensures;
}

pub returns : goal.returns
returns g c = record {
  ticks = omega (arith, c.loop-i.invariant, c.in_ok-left.ensures, c.in_ok-left-2.ensures, c.from.ensures, c.loop-i-test.false, c.loop-i.auto.i-end);
  less = omega (arith, c.in_ok-left.ensures, c.in_ok-left-2.ensures);
  rest = omega (arith, c.in_ok-left.ensures, c.in_ok-left-2.ensures);
  turns = omega (arith, c.loop-i.invariant, c.loop-i-test.false, c.len_counted-count.ensures.len);
}

pub loop-i-init : goal.loop-i-init
loop-i-init g c = omega (arith, c.len_counted-count.ensures.ticks)
