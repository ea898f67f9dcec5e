use Rattle.std.proofs.Common.{◌≡◌, ◌++◌, take, map}
use Rattle.pq_tree.specs.Proper.{outline_of, forest}
use Rattle.verdict_judge.specs.Gaps.{gaps_of}
use Rattle.verdict_judge.proofs.GapPush.{gap_before}
use Rattle.verdict_judge.proofs.gaps.+gaps.Given as goal

abbrev pub invariant-push_all_gaps-loop-child : goal.invariant-push_all_gaps-loop-child
invariant-push_all_gaps-loop-child l = record {
  gap : l.gap ≡ gap_before l.child-index l.fn.first l.between;
  all : l.all.items ≡ l.initial.all.items ++ gaps_of l.fn.first l.between l.depth (forest (map outline_of (take l.child-index l.children)));
}
