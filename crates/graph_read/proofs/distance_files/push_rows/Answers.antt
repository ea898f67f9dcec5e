use Rattle.std.proofs.Common.{◌∙◌, sym, arith}
use Rattle.graph_read.proofs.DistanceLemmas.{table_stop, table_step, table_whole, table_short}
use Rattle.graph_read.proofs.distance_files.push_rows.Goals as goal

pub returns-in-Some-2-clause-refused : goal.returns-in-Some-2-clause-refused
returns-in-Some-2-clause-refused c =
    let refused = rw c.in-Some-2.is at c.in_ok-code.ensures.refused in
    sym c.loop-line.invariant.so_far ∙ table_stop c.args.n c.loop-line.x c.loop-line.values.items _ _ _ c.in-Some.ensures.line c.in-Some-2.code refused

pub loop-line-preserved : goal.loop-line-preserved
loop-line-preserved c =
    let taken = rw c.in-None.is at c.in_ok-code.ensures.taken in
    let len = rw c.in-None.is at c.in_ok-code.ensures.len in
    record {
      within = c.in-Some.ensures.further.1;
      few = c.in-Some.ensures.number;
      rows = omega (arith, len.0);
      whole = len.1;
      so_far = table_step c.args.n c.loop-line.x c.loop-line.values.items _ _ _ c.in-Some.ensures.line c.push_row.new.values.items taken ∙ c.loop-line.invariant.so_far;
    }

pub returns-then-x-n-clause-refused : goal.returns-then-x-n-clause-refused
returns-then-x-n-clause-refused c = sym c.loop-line.invariant.so_far ∙ table_short c.args.n c.loop-line.x c.loop-line.values.items _ c.in_default.ensures.none c.if-x-n.true

pub returns-clause-table : goal.returns-clause-table
returns-clause-table c = sym c.loop-line.invariant.so_far ∙ table_whole c.args.n c.loop-line.x c.loop-line.values.items _ c.in_default.ensures.none c.if-x-n.false
