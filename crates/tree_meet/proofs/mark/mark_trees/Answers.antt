use Rattle.std.proofs.Common.{◌≡◌, ◌∙◌, length, map, take, subst, sym, ap, arith}
use Rattle.pq_tree.specs.Proper.{outline_of, forest}
use Rattle.tree_meet.specs.Marks.{AreMarkedByTree}
use Rattle.tree_meet.proofs.Fronts.{child_has, outlines_more, front_once, front_length}
use Rattle.tree_meet.proofs.Marked.{marked_more}
use Rattle.tree_meet.proofs.mark.mark_trees.Goals as goal

pub mark_tree-requires : goal.mark_tree-requires
mark_tree-requires c a h =
    omega (arith, c.requires.within a (child_has c.args.trees.now c.loop-i.i c.index-trees-i.result c.loop-i-test.true c.index-trees-i.is a h), c.loop-i.auto.marks)

pub loop-i-preserved : goal.loop-i-preserved
loop-i-preserved c =
    let ts = c.args.trees.now in
    let i = c.loop-i.i in
    let x = c.index-trees-i.result in
    let n : length (map outline_of (take i ts)) ≡ i = front_length ts i c.loop-i-test.true in
    subst (AreMarkedByTree c.mark_tree.new.marks 0) (sym (ap forest (outlines_more ts i x c.loop-i-test.true c.index-trees-i.is)))
    (marked_more (map outline_of (take i ts)) (outline_of x) 0 c.loop-i.marks c.mark_tree.new.marks c.loop-i.invariant
    (λ a h. c.mark_tree.ensures.own a h ∙ omega (arith, n))
    c.mark_tree.ensures.others
    (front_once ts i x c.loop-i-test.true c.index-trees-i.is c.requires.once))
