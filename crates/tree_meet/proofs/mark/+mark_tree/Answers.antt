use Rattle.std.proofs.Common.{rules, ◌≡◌, ◌∙◌, ℕ, ◌+◌, ◌<◌, List, [], length, map, take, set, IsTrue, subst, sym, ap, arith}
use Rattle.std.proofs.lemmas.List.{take_all}
use Rattle.column_order.specs.Orders.{has}
use Rattle.column_order.proofs.Lists.{has_head}
use Rattle.pq_tree.specs.Outline.{leaves, leaves_of}
use Rattle.pq_tree.specs.Proper.{outline_of, forest}
use Rattle.pq_tree.specs.declared.Tree.{Tree}
use Rattle.pq_tree.specs.declared.Tree.TheViews.{the_lemmas}
use Rattle.tree_meet.proofs.Fronts.{leaf_leaves, node_leaves, child_has, leaves_more}
use Rattle.tree_meet.proofs.Marked.{IsMarkedTo, marked_on, marked_leaf}
use Rattle.tree_meet.proofs.mark.+mark_tree.Goals as goal

pub bounds-marks-column : goal.bounds-marks-column
bounds-marks-column t c =
    c.requires c.in-Leaf.column (subst (λ (l : List ℕ). IsTrue (has l c.in-Leaf.column)) (sym (leaf_leaves c.args.tree.now c.in-Leaf.column c.in-Leaf.is)) (has_head c.in-Leaf.column []))

pub mark_tree-requires : goal.mark_tree-requires
mark_tree-requires t c = (
  search (rules, the_lemmas),
  λ a h. omega (
    arith,
    c.requires a (
        subst (λ (l : List ℕ). IsTrue (has l a)) (sym (node_leaves c.args.tree.now c.in-P.children c.deref-child-items.result.now c.in-P.is c.deref-child-items.ensures.value))
        (child_has c.deref-child-items.result.now c.loop-child.child-index c.child-item.result c.loop-child-test.true c.child-item.is a h)
        ),
    c.loop-child.auto.marks,
  ),
)

pub loop-child-preserved : goal.loop-child-preserved
loop-child-preserved t c =
    let k : IsMarkedTo (leaves (outline_of c.child-item.result)) c.args.mark c.loop-child.marks c.mark_tree.new.marks = record { own = c.mark_tree.ensures.own; others = c.mark_tree.ensures.others } in
    let ts = c.deref-child-items.result.now in
    marked_on (leaves_of (forest (map outline_of (take c.loop-child.child-index ts)))) (leaves (outline_of c.child-item.result))
    (leaves_of (forest (map outline_of (take (c.loop-child.child-index + 1) ts)))) c.args.mark c.args.marks.now c.loop-child.marks c.mark_tree.new.marks
    (leaves_more ts c.loop-child.child-index c.child-item.result c.loop-child-test.true c.child-item.is) c.loop-child.invariant k

pub returns-in-Leaf : goal.returns-in-Leaf
returns-in-Leaf t c =
    let h : c.in-Leaf.column < length c.args.marks.now =
    c.requires c.in-Leaf.column (subst (λ (l : List ℕ). IsTrue (has l c.in-Leaf.column)) (sym (leaf_leaves c.args.tree.now c.in-Leaf.column c.in-Leaf.is)) (has_head c.in-Leaf.column [])) in
    let k : IsMarkedTo (leaves (outline_of c.args.tree.now)) c.args.mark c.args.marks.now (set c.args.marks.now c.in-Leaf.column c.args.mark) =
    subst (λ (l : List ℕ). IsMarkedTo l c.args.mark c.args.marks.now (set c.args.marks.now c.in-Leaf.column c.args.mark)) (sym (leaf_leaves c.args.tree.now c.in-Leaf.column c.in-Leaf.is))
    (marked_leaf c.in-Leaf.column c.args.mark c.args.marks.now h) in
    record { own = k.own; others = k.others }

pub returns-after-loop-child : goal.returns-after-loop-child
returns-after-loop-child t c =
    let ts = c.deref-child-items.result.now in
    let e : leaves_of (forest (map outline_of (take c.loop-child.child-index ts))) ≡ leaves (outline_of c.args.tree.now) =
    ap (λ (xs : List Tree). leaves_of (forest (map outline_of xs))) (take_all c.loop-child.child-index ts c.loop-child-test.false) ∙
    sym (node_leaves c.args.tree.now c.in-P.children ts c.in-P.is c.deref-child-items.ensures.value) in
    let k : IsMarkedTo (leaves (outline_of c.args.tree.now)) c.args.mark c.args.marks.now c.loop-child.marks =
    subst (λ (l : List ℕ). IsMarkedTo l c.args.mark c.args.marks.now c.loop-child.marks) e c.loop-child.invariant in
    record { own = k.own; others = k.others }
