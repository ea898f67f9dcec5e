use Rattle.std.proofs.Common.{◌+◌, subst, arith, map, drop}
use Rattle.pq_tree.specs.Proper.{outline_of, forest}
use Rattle.pq_tree.proofs.Shown.{outline_of-Leaf}
use Rattle.verdict_judge.specs.HoldsWalk.{IsSum}
use Rattle.pq_tree.proofs.Shown.{rest_at}
use Rattle.verdict_judge.proofs.HoldsSteps.{share_over_P, share_over_Q, sum_start, sum_end}
use Rattle.verdict_judge.proofs.holds.+share.Goals as goal

pub tree_share-returns-in-Leaf : goal.tree_share-returns-in-Leaf
tree_share-returns-in-Leaf t c = rw (c.in-Leaf.is, outline_of-Leaf) c.leaf_share.ensures

pub tree_share-returns-in-P : goal.tree_share-returns-in-P
tree_share-returns-in-P t c =
    share_over_P c.args.row.now c.args.tree.now c.in-P.children c.deref.result.now c.over_p.result c.in-P.is c.deref.ensures.value
    (c.over_p.ensures c.args.row.now (forest (map outline_of c.deref.result.now)) c.all_shares.ensures)

pub tree_share-returns-in-Q : goal.tree_share-returns-in-Q
tree_share-returns-in-Q t c =
    share_over_Q c.args.row.now c.args.tree.now c.in-Q.children c.deref-in-Q.result.now c.over_q.result c.in-Q.is c.deref-in-Q.ensures.value
    (c.over_q.ensures c.args.row.now (forest (map outline_of c.deref-in-Q.result.now)) c.all_shares-in-Q.ensures)

pub all_shares-loop-child-init : goal.all_shares-loop-child-init
all_shares-loop-child-init t c = record { sum = sum_start c.args.row.now (forest (map outline_of c.args.children.now)); few = omega arith }

pub all_shares-loop-child-preserved : goal.all_shares-loop-child-preserved
all_shares-loop-child-preserved t c =
    record {
      sum =
          c.with-all.ensures.sum c.args.row.now _ (forest (map outline_of (drop (c.loop-child.child-index + 1) c.args.children.now))) (outline_of c.child-item.result) c.tree_share.ensures
          (subst (λ ts. IsSum c.args.row.now (forest (map outline_of c.args.children.now)) ts c.loop-child.all) (rest_at _ _ _ c.loop-child-test.true c.child-item.is) c.loop-child.invariant.sum);
      few = omega (arith, c.with-all.ensures.count, c.loop-child.invariant.few);
    }

pub all_shares-returns : goal.all_shares-returns
all_shares-returns t c = sum_end _ _ _ _ _ c.loop-child-test.false c.loop-child.invariant.sum
