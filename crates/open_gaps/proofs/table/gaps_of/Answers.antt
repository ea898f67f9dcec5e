use Rattle.std.proofs.Common.{◌∙◌, ◌+◌, ◌-◌, [], length, sym, arith}
use Rattle.std.proofs.lemmas.Option.{slice_get-get_or}
use Rattle.column_order.proofs.Counts.{order_length}
use Rattle.row_model.specs.Graph.{row_at}
use Rattle.open_gaps.proofs.RowSteps.{fresh_gaps, gaps_next, span_within, order_here, in_order, ones_next}
use Rattle.open_gaps.proofs.table.gaps_of.Goals as goal

pub loop-k-init : goal.loop-k-init
loop-k-init g c =
    let begun = fresh_gaps c.columns.result c.columns-2.result c.args.m.now.columns c.uncovered.result c.in_ok-gaps.gaps.items (c.in_ok-gaps.ensures.items_if_clones_equal (λ y e. e)) c.uncovered.ensures
    c.columns.ensures.columns c.columns-2.ensures.columns in
    record {
      len = begun.0;
      gaps = λ o valid are. begun.1 o valid.order;
      ticks = omega arith;
    }

pub span_counted-span-requires-clause-positions : goal.span_counted-span-requires-clause-positions
span_counted-span-requires-clause-positions g c = c.requires.order.2.columns ∙ order_length c.args.m.now.columns c.requires.order.0 c.requires.order.1.order

pub take_row-requires : goal.take_row-requires
take_row-requires g c =
    let row = row_at c.args.m.now.rows (c.loop-k.k + 1) in
    let span = c.span_counted-span in
    record {
      within = span_within (length c.loop-k.gaps.items) c.requires.order.0 row span.result (order_length c.args.m.now.columns c.requires.order.0 c.requires.order.1.order ∙ sym c.loop-k.invariant.len)
          (in_order (length c.args.positions.now) c.requires.order.0 c.args.positions.now row span.result (order_here c.args.m.now.columns c.requires.order.0 c.args.positions.now c.requires.order.1.order c.requires.order.2) c.requires.order.2
          span.ensures.least span.ensures.spans);
    }

pub loop-k-preserved : goal.loop-k-preserved
loop-k-preserved g c =
    let rows = c.args.m.now.rows in
    let k = c.loop-k.k in
    let row = row_at rows (k + 1) in
    let span = c.span_counted-span in
    let there = slice_get-get_or rows (k + 1 - 1) [] (omega (arith, c.loop-k-test.true, c.requires.rows)) in
    record {
      len = c.take_row.ensures.len ∙ c.loop-k.invariant.len;
      gaps = λ o valid are.
          gaps_next rows c.args.rows k c.args.m.now.columns o row valid c.loop-k-test.true c.requires.rows there span.result c.loop-k.gaps.items c.take_row.new.gaps.items
          (in_order (length c.args.positions.now) o c.args.positions.now row span.result (order_here c.args.m.now.columns o c.args.positions.now valid.order are) are span.ensures.least span.ensures.spans)
          c.take_row.ensures.none c.take_row.ensures.inside c.take_row.ensures.outside (c.loop-k.invariant.gaps o valid are);
      ticks = omega (arith, c.loop-k.invariant.ticks, span.ensures.ticks, ones_next rows k row (omega (arith, c.loop-k-test.true, c.requires.rows)) there);
    }
