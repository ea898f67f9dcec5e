use Rattle.std.proofs.Common.{◌+◌, length, arith}
use Rattle.std.proofs.lemmas.List.Sums.{sum_by-take-le}
use Rattle.row_model.specs.Graph.{row_at}
use Rattle.pq_tree.specs.PqTree.{outline}
use Rattle.verdict_judge.specs.YesTests.{AllKeep}
use Rattle.verdict_judge.proofs.GapNew.{row_fits}
use Rattle.verdict_judge.proofs.Lines.{each_more, least_here}
use Rattle.verdict_judge.proofs.SideTests.{row_kept, row_broken}
use Rattle.verdict_judge.proofs.StepSums.{ones_with_row}
use Rattle.verdict_judge.proofs.side.first_broken_row.Goals as goal

pub holds-requires : goal.holds-requires
holds-requires g c = record { tree = (outline c.args.tree.now, c.in_ok-gaps.ensures); row = row_fits c.args.tree.now c.in_ok-gaps.gaps c.args.m.now.columns c.row.result.now c.in_ok-gaps.ensures c.requires c.row.ensures.ascending }

pub returns-then-not-holds-clause-least : goal.returns-then-not-holds-clause-least
returns-then-not-holds-clause-least g c =
    least_here (λ k. AllKeep (outline c.args.tree.now) (row_at c.args.m.now.rows k)) (length c.args.m.now.rows) c.loop-k.k (omega arith) c.loop-k.invariant.kept
    (row_broken (AllKeep (outline c.args.tree.now)) c.args.m.now.rows (c.loop-k.k + 1) c.row.result.now c.holds.result c.row.ensures.row
    (c.holds.ensures.holds (outline c.args.tree.now) c.in_ok-gaps.ensures) c.if-not-holds.true)

pub returns-then-not-holds-clause-ticks : goal.returns-then-not-holds-clause-ticks
returns-then-not-holds-clause-ticks g c =
    omega (
      arith,
      c.loop-k.invariant.ticks,
      c.holds.ensures.ticks,
      c.loop-k-test.true,
      c.rows-k-end.ensures,
      ones_with_row c.args.m.now.rows c.loop-k.k c.row.result.now c.row.ensures.row,
      sum_by-take-le length c.args.m.now.rows (c.loop-k.k + 1),
    )

pub loop-k-preserved : goal.loop-k-preserved
loop-k-preserved g c =
    record {
      kept = each_more (λ k. AllKeep (outline c.args.tree.now) (row_at c.args.m.now.rows k)) c.loop-k.k c.loop-k.invariant.kept
          (row_kept (AllKeep (outline c.args.tree.now)) c.args.m.now.rows (c.loop-k.k + 1) c.row.result.now c.holds.result c.row.ensures.row
          (c.holds.ensures.holds (outline c.args.tree.now) c.in_ok-gaps.ensures) c.if-not-holds.false);
      ticks = omega (arith, c.loop-k.invariant.ticks, c.holds.ensures.ticks, ones_with_row c.args.m.now.rows c.loop-k.k c.row.result.now c.row.ensures.row);
    }

pub returns-clause-least : goal.returns-clause-least
returns-clause-least g c = λ k l u. c.loop-k.invariant.kept k l (omega arith)
