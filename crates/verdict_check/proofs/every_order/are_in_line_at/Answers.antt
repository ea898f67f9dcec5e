use Rattle.std.proofs.Common.{◌+◌, ◌-◌, arith}
use Rattle.verdict_check.specs.Complete.{pair_at}
use Rattle.verdict_check.proofs.Places.{stands_long}
use Rattle.verdict_check.proofs.Children.{columns_of, child_long, next_at, next_within}
use Rattle.verdict_check.proofs.Together.{forward_more, forward_fails, forward_all}
use Rattle.verdict_check.proofs.every_order.are_in_line_at.Goals as goal

pub leaf_count-requires : goal.leaf_count-requires
leaf_count-requires c = omega (arith, c.leaf_counts.ensures, child_long c.args.children.now c.loop-child.child-index c.child-item.result c.loop-child-test.true c.child-item.is)

pub overflow_add-next : goal.overflow_add-next
overflow_add-next c =
    omega (
      arith,
      c.leaf_count.ensures,
      next_within c.args.line.now c.args.children.now c.args.start c.loop-child.child-index c.loop-child.at c.child-item.result c.loop-child-test.true c.child-item.is c.requires.place c.loop-child.invariant.at_is,
      stands_long c.args.line.now (columns_of c.args.children.now) c.args.start c.requires.place,
    )

pub go_forward-requires-clause-place : goal.go_forward-requires-clause-place
go_forward-requires-clause-place c = (
  omega (arith, c.loop-child.invariant.at_is),
  omega (
    arith,
    c.leaf_count.ensures,
    c.leaf_counts.ensures,
    next_within c.args.line.now c.args.children.now c.args.start c.loop-child.child-index c.loop-child.at c.child-item.result c.loop-child-test.true c.child-item.is c.requires.place c.loop-child.invariant.at_is,
  ),
  omega (arith, c.leaf_counts.ensures, stands_long c.args.line.now (columns_of c.args.children.now) c.args.start c.requires.place),
)

pub returns-then-not-go_forward : goal.returns-then-not-go_forward
returns-then-not-go_forward c =
    forward_fails c.args.classes.now c.args.line.now c.args.children.now c.args.start c.loop-child.child-index c.loop-child.at (c.args.start + c.leaf_counts.result) c.child-item.result c.loop-child-test.true c.child-item.is
    c.requires.place c.loop-child.invariant.at_is (omega (arith, c.leaf_counts.ensures)) c.go_forward.result (rw c.leaf_count.ensures at c.go_forward.ensures) c.if-not-go_forward.true

pub loop-child-preserved : goal.loop-child-preserved
loop-child-preserved c =
    record {
      at_is = omega (arith, c.leaf_count.ensures, next_at c.args.line.now c.args.children.now c.args.start c.loop-child.child-index c.loop-child.at c.child-item.result c.loop-child-test.true c.child-item.is c.requires.place c.loop-child.invariant.at_is);
      rest = forward_more c.args.classes.now c.args.line.now c.args.children.now c.args.start c.loop-child.child-index c.loop-child.at (c.args.start + c.leaf_counts.result) c.child-item.result c.loop-child-test.true c.child-item.is
          c.requires.place c.loop-child.invariant.at_is (omega (arith, c.leaf_counts.ensures)) c.go_forward.result c.loop-child.invariant.rest (rw c.leaf_count.ensures at c.go_forward.ensures) c.if-not-go_forward.false;
    }

pub returns : goal.returns
returns c =
    forward_all c.args.classes.now c.args.line.now c.args.children.now c.loop-child.child-index (pair_at c.args.line.now c.args.start (c.args.start + c.leaf_counts.result - 1)) c.loop-child-test.false c.loop-child.invariant.rest
