use Rattle.std.proofs.Common.{◌≤◌, map, drop}
use Rattle.pq_tree.specs.Proper.{outline_of, forest}
use Rattle.verdict_judge.specs.HoldsWalk.{IsSum}
use Rattle.verdict_judge.proofs.holds.+share.Given as goal

abbrev pub invariant-all_shares-loop-child : goal.invariant-all_shares-loop-child
invariant-all_shares-loop-child l = record {
  sum : IsSum l.row (forest (map outline_of l.children)) (forest (map outline_of (drop l.child-index l.children))) l.all;
  few : l.all.meeting ≤ l.child-index;
}
