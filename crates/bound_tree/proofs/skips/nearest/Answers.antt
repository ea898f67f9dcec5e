use Rattle.std.proofs.Common.{arith}
use Rattle.bound_tree.specs.Sides.{IsPassed}
use Rattle.bound_tree.proofs.Passing.{passed_more}
use Rattle.bound_tree.proofs.skips.nearest.Goals as goal

pub loop-side-preserved : goal.loop-side-preserved
loop-side-preserved g c =
    let was = c.loop-side.invariant in
    let down = was.down c.loop-side.p (c.is_passed.ensures.some c.loop-side-test.true) (omega (arith, was.long, was.range, c.requires.range)) in
    record {
      long = c.step-p.ensures.table.0;
      down = c.step-p.ensures.table.1;
      range = omega (arith, c.step-p.ensures.before, down, was.range);
      passed = λ rows are skips.
          passed_more (IsPassed c.args.side rows c.args.gaps.now.order c.args.at) c.loop-side.before c.args.from c.loop-side.p c.step-p.result
          (omega (arith, was.long, was.range, c.requires.range)) c.step-p.ensures.before (was.skips rows are skips)
          ((c.is_passed.ensures.passed rows are).0 c.loop-side-test.true) (was.passed rows are skips);
      skips = λ rows are skips. c.step-p.ensures.skips rows are (was.skips rows are skips);
      ticks = omega (arith, was.ticks, c.is_passed.ensures.ticks, c.step-p.ensures.ticks, c.step-p.ensures.before, down);
    }
