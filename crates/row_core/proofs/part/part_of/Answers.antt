use Rattle.std.proofs.Common.{length, take, ap, arith}
use Rattle.std.proofs.lemmas.List.{length-map, length-take-le}
use Rattle.row_model.specs.Graph.{row_at}
use Rattle.row_core.proofs.Parts.{part_more}
use Rattle.row_core.proofs.part.part_of.Goals as goal

pub row-requires : goal.row-requires
row-requires c = c.requires.within c.loop-k.k-index 0 c.loop-k-test.true

pub push_row-requires-clause-room : goal.push_row-requires-clause-room
push_row-requires-clause-room c =
    let taken = take c.loop-k.k-index c.args.list.now in
    omega (
      arith,
      c.loop-k-test.true,
      ap length c.loop-k.invariant.rows,
      length-map taken (row_at c.args.m.now.rows),
      length-take-le c.loop-k.k-index c.args.list.now (omega (arith, c.loop-k-test.true)),
      c.requires.few,
      c.columns.ensures.few_rows,
    )

pub loop-k-preserved : goal.loop-k-preserved
loop-k-preserved c =
    let more = part_more _ _ _ _ _ _ _ c.in_ok-push_row.ensures.ok c.loop-k.invariant.columns c.loop-k.invariant.rows c.loop-k-test.true c.row.ensures.row in
    record { columns = more.0; rows = more.1 }
