use Rattle.std.proofs.Common.{refl, arith, slice_index, ℕ}
use Rattle.bound_tree.specs.Sides.{IsPassed}
use Rattle.bound_tree.proofs.Passing.{shorter_skips}
use Rattle.bound_tree.proofs.skips.step.Goals as goal

pub returns-then-is_passed-clause-skips : goal.returns-then-is_passed-clause-skips
returns-then-is_passed-clause-skips g c =
    λ rows are.
    let q : ℕ = slice_index c.args.before.now c.args.p in
    shorter_skips c.args.before.now c.args.p q (omega (arith, c.requires.table.0, c.requires.range)) refl (IsPassed c.args.side rows c.args.gaps.now.order c.args.at)
    (c.requires.table.1 c.args.p (omega (arith, c.requires.range)) (omega (arith, c.requires.table.0, c.requires.range)))
    ((c.is_passed.ensures.passed rows are).0 c.if-is_passed.true)
