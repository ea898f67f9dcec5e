use Rattle.std.proofs.Common.{◌-◌, map, length, ap, subst, inr, arith}
use Rattle.std.proofs.lemmas.List.{length-map}
use Rattle.pq_tree.specs.Proper.{outline_of}
use Rattle.order_list.specs.Ways.{IsWay}
use Rattle.order_list.specs.Weights.{walk_weight}
use Rattle.order_list.proofs.Begins.{outline_at}
use Rattle.order_list.proofs.Children.{p_counts, child_arities, child_weight, last_of_q}
use Rattle.order_list.proofs.Ways.{none_more, none_p, none_q, p_pushed, q_pushed}
use Rattle.order_list.proofs.search.+find_way.Goals as goal

pub find_way-requires : goal.find_way-requires
find_way-requires t c =
    let u = outline_of c.args.tree.now in
    let ts = c.in-P.children.now in
    let i = c.loop-place.place in
    let child = c.index-children-place.result in
    let counts = p_counts u (map outline_of ts) c.in-P.ensures.outline c.requires.arities in (
      omega (arith, child_weight u ts i child (ap walk_weight c.in-P.ensures.outline) c.loop-place-test.true c.index-children-place.is, c.decreases),
      (child_arities ts i child counts.1 c.loop-place-test.true c.index-children-place.is, c.loop-place.invariant.empty),
    )

pub returns-then-branch : goal.returns-then-branch
returns-then-branch t c =
    let ts = c.in-P.children.now in
    let i = c.loop-place.place in
    let child = c.index-children-place.result in
    p_pushed (outline_of c.args.tree.now) (outline_of child) (map outline_of ts) i c.find_way.new.way.items c.push.new.self.items c.args.column
    (outline_at ts i child c.loop-place-test.true c.index-children-place.is) c.in_ok-push-in-P.ensures.items
    (subst (λ b. IsWay (outline_of child) c.args.column b c.find_way.new.way.items) c.if-branch.true c.in_ok-find_way-in-P.ensures)
    c.in-P.ensures.outline (omega (arith, c.loop-place-test.true, length-map ts outline_of))

pub loop-place-preserved : goal.loop-place-preserved
loop-place-preserved t c =
    let u = outline_of c.args.tree.now in
    let ts = c.in-P.children.now in
    let child = c.index-children-place.result in
    let not = subst (λ b. IsWay (outline_of child) c.args.column b c.find_way.new.way.items) c.if-branch.false c.in_ok-find_way-in-P.ensures in
    record {
      empty = not.0;
      none = none_more u ts c.args.column c.requires.arities c.loop-place.place child c.loop-place-test.true c.index-children-place.is c.loop-place.invariant.none not.1;
    }

pub returns-after-loop-place : goal.returns-after-loop-place
returns-after-loop-place t c =
    let u = outline_of c.args.tree.now in (
      c.loop-place.invariant.empty,
      none_p u c.in-P.children.now c.args.column c.requires.arities c.in-P.ensures.outline c.loop-place.place (omega (arith, c.loop-place-test.false)) c.loop-place.invariant.none,
    )

pub find_way-requires-in-Q-2 : goal.find_way-requires-in-Q-2
find_way-requires-in-Q-2 t c =
    let u = outline_of c.args.tree.now in
    let ts = c.in-Q.children.now in
    let child = c.index-children-last.result in
    let last = last_of_q u ts child c.in-Q.ensures.outline c.requires.arities c.index-children-last.is in
    let not = subst (λ b. IsWay (outline_of c.index-children-0.result) c.args.column b c.find_way-in-Q.new.way.items) c.if-branch-2.false c.in_ok-find_way-in-Q.ensures in (
      omega (arith, child_weight u ts (length ts - 1) child (ap walk_weight c.in-Q.ensures.outline) last.inside c.index-children-last.is, c.decreases),
      (last.arities, not.0),
    )

pub returns-then-branch-3 : goal.returns-then-branch-3
returns-then-branch-3 t c =
    let u = outline_of c.args.tree.now in
    let ts = c.in-Q.children.now in
    let child = c.index-children-last.result in
    let last = last_of_q u ts child c.in-Q.ensures.outline c.requires.arities c.index-children-last.is in
    q_pushed u (outline_of child) (map outline_of ts) (length ts - 1) c.find_way-in-Q-2.new.way.items c.push-then-branch-3.new.self.items c.args.column
    last.outline c.in_ok-push-in-Q-2.ensures.items
    (subst (λ b. IsWay (outline_of child) c.args.column b c.find_way-in-Q-2.new.way.items) c.if-branch-3.true c.in_ok-find_way-in-Q-2.ensures)
    c.in-Q.ensures.outline (inr last.place)

pub returns-else-branch-3 : goal.returns-else-branch-3
returns-else-branch-3 t c =
    let u = outline_of c.args.tree.now in
    let ts = c.in-Q.children.now in
    let first = c.index-children-0.result in
    let last = c.index-children-last.result in
    let not = subst (λ b. IsWay (outline_of first) c.args.column b c.find_way-in-Q.new.way.items) c.if-branch-2.false c.in_ok-find_way-in-Q.ensures in
    let nor = subst (λ b. IsWay (outline_of last) c.args.column b c.find_way-in-Q-2.new.way.items) c.if-branch-3.false c.in_ok-find_way-in-Q-2.ensures in (
      nor.0,
      none_q u ts c.args.column c.requires.arities c.in-Q.ensures.outline first last c.index-children-0.is c.index-children-last.is not.1 nor.1,
    )
