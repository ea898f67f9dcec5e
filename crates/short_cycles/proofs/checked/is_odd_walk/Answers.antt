use Rattle.std.proofs.Common.{◌≡◌, ◌%◌, Some, length, take, get_or, slice_get, ap, arith}
use Rattle.std.proofs.lemmas.List.{take_all}
use Rattle.std.proofs.lemmas.Bool.{eqb-true}
use Rattle.std.proofs.lemmas.Option.{slice_get-get_or}
use Rattle.row_model.specs.declared.graph.Line.{Line}
use Rattle.row_model.specs.declared.graph.Why.TheVariants.{Flip}
use Rattle.row_model.specs.Graph.{pair}
use Rattle.odd_cycle.specs.Short.{flips}
use Rattle.short_cycles.proofs.CheckedLaws.{led_more, led_all, flips_more}
use Rattle.short_cycles.proofs.checked.is_odd_walk.Goals as goal

pub loop-i-preserved : goal.loop-i-preserved
loop-i-preserved g c =
    let lines = c.args.lines.now in
    let past : Line = record { pair = pair 0 0; why = Flip } in
    let line : Line = get_or lines c.loop-i.i past in
    let at : slice_get lines c.loop-i.i ≡ Some line = slice_get-get_or lines c.loop-i.i past c.loop-i-test.true in
    record {
      led = led_more c.args.m.now.columns (take c.args.rows c.args.m.now.rows) lines c.loop-i.i line c.pair_behind.result at c.loop-i.invariant.led c.pair_behind.ensures (c.leads_to.ensures.joined c.if-not-leads_to.false);
      ticks = omega (arith, c.loop-i.invariant.ticks, c.leads_to.ensures.ticks);
      turns = omega (arith, c.loop-i.invariant.turns, c.leads_to.ensures.turns c.if-not-leads_to.false, flips_more lines c.loop-i.i line at);
    }

pub returns-clause-walk : goal.returns-clause-walk
returns-clause-walk g c t =
    record {
      closed = led_all c.args.m.now.columns (take c.args.rows c.args.m.now.rows) c.args.lines.now c.loop-i.i c.loop-i-test.false c.loop-i.invariant.led;
      odd = eqb-true (length c.args.lines.now % 2) 1 t;
    }

pub returns-clause-turns : goal.returns-clause-turns
returns-clause-turns g c t =
    let lines = c.args.lines.now in
    let all : take c.loop-i.i lines ≡ lines = take_all c.loop-i.i lines c.loop-i-test.false in
    omega (arith, ap flips all, c.loop-i.invariant.turns, c.loop-i-test.false)

pub returns-clause-ticks : goal.returns-clause-ticks
returns-clause-ticks g c = omega (arith, c.loop-i.invariant.ticks)

pub returns-then-not-leads_to-clause-ticks : goal.returns-then-not-leads_to-clause-ticks
returns-then-not-leads_to-clause-ticks g c = omega (arith, c.loop-i.invariant.ticks, c.leads_to.ensures.ticks, c.loop-i-test.true)
