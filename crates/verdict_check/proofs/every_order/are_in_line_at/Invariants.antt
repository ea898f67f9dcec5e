use Rattle.std.proofs.Common.{◌≡◌, ◌+◌, ◌-◌, length, map, take, drop}
use Rattle.row_model.specs.declared.graph.Pair.{Pair}
use Rattle.pq_tree.specs.Proper.{outline_of, forest}
use Rattle.tree_theory.specs.Tied.{IsForward}
use Rattle.verdict_check.specs.Complete.{InRows, pair_at}
use Rattle.verdict_check.proofs.Children.{columns_of}
use Rattle.verdict_check.proofs.every_order.are_in_line_at.Given as goal

abbrev pub invariant-loop-child : goal.invariant-loop-child
invariant-loop-child l = record {
  at_is : l.at ≡ l.start + length (columns_of (take l.child-index l.children));
  rest : InRows l.classes (λ R.
      ((v : Pair) → IsForward (forest (map outline_of (drop l.child-index l.children))) v → R (pair_at l.line l.start (l.end - 1)) v) →
      (v : Pair) → IsForward (forest (map outline_of l.children)) v → R (pair_at l.line l.start (l.end - 1)) v);
}
