use Rattle.std.proofs.Common.{◌≡◌, ◌+◌, length, map, take, drop}
use Rattle.pq_tree.specs.Proper.{outline_of, forest}
use Rattle.verdict_check.specs.Complete.{InRows, AreComplete}
use Rattle.verdict_check.proofs.Alike.{AlikeUpTo}
use Rattle.verdict_check.proofs.Children.{columns_of}
use Rattle.verdict_check.proofs.every_order.+complete.Given as goal

abbrev pub invariant-are_together_at-loop-child : goal.invariant-are_together_at-loop-child
invariant-are_together_at-loop-child l = record {
  at_is : l.at ≡ l.start + length (columns_of (take l.child-index l.children));
  alike : InRows l.classes (λ R. AlikeUpTo R l.line l.start l.end l.at);
  rest : InRows l.classes (λ R. AreComplete R l.line (forest (map outline_of (drop l.child-index l.children))) → AreComplete R l.line (forest (map outline_of l.children)));
}
