use Rattle.std.proofs.Common.{◌-◌, ◌<◌, map, length, ap, arith}
use Rattle.std.proofs.lemmas.List.{length-map}
use Rattle.pq_tree.specs.Proper.{outline_of}
use Rattle.order_list.specs.Weights.{walk_weight}
use Rattle.order_list.proofs.Children.{p_counts, q_counts, child_arities, child_weight, least_child, least_children, least_ends}
use Rattle.order_list.proofs.search.+next_first.Goals as goal

pub next_first-requires : goal.next_first-requires
next_first-requires t c =
    let u = outline_of c.args.tree.now in
    let ts = c.in-P.children.now in
    let i = c.loop-child.child-index in
    let child = c.child-item.result in
    let counts = p_counts u (map outline_of ts) c.in-P.ensures.outline c.requires in (
      omega (arith, child_weight u ts i child (ap walk_weight c.in-P.ensures.outline) c.loop-child-test.true c.child-item.is, c.decreases),
      child_arities ts i child counts.1 c.loop-child-test.true c.child-item.is,
    )

pub loop-child-preserved : goal.loop-child-preserved
loop-child-preserved t c =
    least_child c.in-P.children.now c.loop-child.child-index c.args.from c.child-item.result c.loop-child.least c.next_first.result c.lower-least.result c.loop-child-test.true c.child-item.is
    c.lower-least.ensures c.loop-child.invariant c.next_first.ensures

pub next_first-last-requires : goal.next_first-last-requires
next_first-last-requires t c =
    let u = outline_of c.args.tree.now in
    let ts = c.in-Q.children.now in
    let i = length ts - 1 in
    let child = c.index-children-children.result in
    let counts = q_counts u (map outline_of ts) c.in-Q.ensures.outline c.requires in
    let inside : i < length ts = omega (arith, counts.0, length-map ts outline_of) in (
      omega (arith, child_weight u ts i child (ap walk_weight c.in-Q.ensures.outline) inside c.index-children-children.is, c.decreases),
      child_arities ts i child counts.1 inside c.index-children-children.is,
    )

pub returns-after-loop-child : goal.returns-after-loop-child
returns-after-loop-child t c =
    least_children (outline_of c.args.tree.now) c.in-P.children.now c.loop-child.child-index c.args.from c.loop-child.least c.in-P.ensures.outline c.requires
    (omega (arith, c.loop-child-test.false, c.loop-child.auto.child-index-end)) c.loop-child.invariant

pub returns-in-Q : goal.returns-in-Q
returns-in-Q t c =
    least_ends (outline_of c.args.tree.now) c.in-Q.children.now c.args.from c.index-children-0.result c.index-children-children.result c.next_first-first.result c.next_first-last.result c.lower.result
    c.in-Q.ensures.outline c.requires c.index-children-0.is c.index-children-children.is c.lower.ensures c.next_first-first.ensures c.next_first-last.ensures
