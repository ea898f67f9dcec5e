use Rattle.std.proofs.Common.{◌≡◌, ◌∙◌, arith, ap, sym}
use Rattle.pq_tree.specs.Proper.{universal}
use Rattle.pq_tree.proofs.Shown.{outline_of-Leaf, outline_of-P, leaf_more}
use Rattle.pq_tree.proofs.AllOrders.{one_order, many_orders}
use Rattle.pq_tree.proofs.Universal.{whole_one, whole_all, universal_many}
use Rattle.pq_tree.proofs.PqTree.universal.Goals as goal

pub invariant_of-result : goal.invariant_of-result
invariant_of-result c = record { proper = rw outline_of-Leaf whole_one }

pub returns-then-c-eq1-clause-tree : goal.returns-then-c-eq1-clause-tree
returns-then-c-eq1-clause-tree c = outline_of-Leaf 1 ∙ ap universal (sym c.if-c-eq1.true)

pub loop-i-preserved : goal.loop-i-preserved
loop-i-preserved c = leaf_more _ _ _ c.loop-i.invariant c.in_ok-push.ensures.items

pub invariant_of-result-2 : goal.invariant_of-result-2
invariant_of-result-2 c =
    let n : c.loop-i.i ≡ c.args.c = omega arith in
    record { proper = rw (outline_of-P, c.loop-i.invariant, n) (whole_all c.args.c (omega arith)) }

pub returns-clause-tree : goal.returns-clause-tree
returns-clause-tree c =
    let n : c.loop-i.i ≡ c.args.c = omega arith in
    rw (outline_of-P, c.loop-i.invariant, n) (sym (universal_many c.args.c (omega arith)))

pub returns-then-c-eq1-clause-frontiers : goal.returns-then-c-eq1-clause-frontiers
returns-then-c-eq1-clause-frontiers c o = rw (outline_of-Leaf, c.if-c-eq1.true) (one_order o)

pub returns-clause-frontiers : goal.returns-clause-frontiers
returns-clause-frontiers c o =
    let n : c.loop-i.i ≡ c.args.c = omega arith in
    rw (outline_of-P, c.loop-i.invariant, n) (many_orders c.args.c o)
