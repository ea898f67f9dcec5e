use Rattle.std.proofs.Common.{rules}
use Rattle.pq_tree.specs.declared.Tree.TheViews.{the_lemmas}
use Rattle.pq_tree.proofs.Shown.{outline_of-Leaf}
use Rattle.verdict_judge.proofs.GapPush.{push_gaps_step, gap_before_next, child_of, node_children_P, node_children_Q, depth_of, over_P, over_Q}
use Rattle.verdict_judge.proofs.gaps.+gaps.Goals as goal

pub push_all_gaps-push_gaps-requires : goal.push_all_gaps-push_gaps-requires
push_all_gaps-push_gaps-requires t c =
    (search (rules, the_lemmas), child_of c.args.children.now c.loop-child.child-index c.child-item.result c.args.depth c.loop-child-test.true c.child-item.is c.requires.many c.requires.proper c.requires.shallow)

pub push_all_gaps-loop-child-preserved : goal.push_all_gaps-loop-child-preserved
push_all_gaps-loop-child-preserved t c =
    record {
      gap = gap_before_next c.loop-child.child-index c.args.first c.args.between;
      all = push_gaps_step _ _ _ c.args.first c.args.between c.loop-child.gap c.args.depth c.args.children.now c.loop-child.child-index c.child-item.result c.loop-child-test.true c.child-item.is
          c.loop-child.invariant.gap c.loop-child.invariant.all c.in_ok-push_gaps.ensures;
    }

pub push_gaps-overflow_add-depth : goal.push_gaps-overflow_add-depth
push_gaps-overflow_add-depth t c = search (rules, depth_of c.args.tree.now c.args.depth c.requires.proper c.requires.shallow)

pub push_gaps-push_all_gaps-requires : goal.push_gaps-push_all_gaps-requires
push_gaps-push_all_gaps-requires t c =
    (search (rules, the_lemmas), node_children_P c.args.tree.now c.in-P.children c.deref.result.now c.args.depth c.in-P.is c.deref.ensures.value c.requires.proper c.requires.shallow)

pub push_gaps-overflow_add-depth-in-Q : goal.push_gaps-overflow_add-depth-in-Q
push_gaps-overflow_add-depth-in-Q t c = search (rules, depth_of c.args.tree.now c.args.depth c.requires.proper c.requires.shallow)

pub push_gaps-push_all_gaps-requires-in-Q : goal.push_gaps-push_all_gaps-requires-in-Q
push_gaps-push_all_gaps-requires-in-Q t c =
    (search (rules, the_lemmas), node_children_Q c.args.tree.now c.in-Q.children c.deref-in-Q.result.now c.args.depth c.in-Q.is c.deref-in-Q.ensures.value c.requires.proper c.requires.shallow)

pub push_gaps-returns-in_ok-push-in-Leaf : goal.push_gaps-returns-in_ok-push-in-Leaf
push_gaps-returns-in_ok-push-in-Leaf t c = rw (c.in-Leaf.is, outline_of-Leaf) c.in_ok-push-in-Leaf.ensures.items

pub push_gaps-returns-in-P : goal.push_gaps-returns-in-P
push_gaps-returns-in-P t c = over_P c.args.tree.now c.in-P.children c.deref.result.now c.args.first c.args.depth _ _ c.push_all_gaps.result c.in-P.is c.deref.ensures.value c.push_all_gaps.ensures

pub push_gaps-returns-in-Q : goal.push_gaps-returns-in-Q
push_gaps-returns-in-Q t c = over_Q c.args.tree.now c.in-Q.children c.deref-in-Q.result.now c.args.first c.args.depth _ _ c.push_all_gaps-in-Q.result c.in-Q.is c.deref-in-Q.ensures.value c.push_all_gaps-in-Q.ensures
