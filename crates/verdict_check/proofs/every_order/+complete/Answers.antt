use Rattle.std.proofs.Common.{◌≡◌, ◌∙◌, ◌+◌, List, map, refl, sym, ap, subst, arith, rules}
use Rattle.std.proofs.lemmas.Bool.{both_ways}
use Rattle.column_order.proofs.Counts.{order_once}
use Rattle.pq_tree.specs.declared.Tree.TheViews.{the_lemmas}
use Rattle.pq_tree.specs.Outline.{leaves, p_node, q_node}
use Rattle.pq_tree.specs.declared.Tree.{Tree}
use Rattle.tree_theory.specs.Tied.{IsInLine}
use Rattle.pq_tree.specs.Proper.{outline_of, forest, HasArities}
use Rattle.pq_tree.proofs.Shown.{outline_of-Leaf}
use Rattle.row_model.specs.Graph.{Evenly}
use Rattle.verdict_check.specs.Complete.{IsComplete, RunsFrom}
use Rattle.pq_tree.proofs.Forests.{leaves_some}
use Rattle.verdict_check.proofs.Places.{stands_long}
use Rattle.verdict_check.proofs.Alike.{evenly_sorts}
use Rattle.pq_tree.proofs.Shown.{outline_p, outline_q}
use Rattle.verdict_check.proofs.Children.{columns_of, child_long, child_arities, child_stands, next_at, next_within}
use Rattle.verdict_check.proofs.CompleteNodes.{leaf_complete, p_complete, q_complete}
use Rattle.verdict_check.proofs.Together.{together_more, rest_more, apart_fails, child_fails, together_all}
use Rattle.verdict_check.proofs.every_order.+complete.Goals as goal

pub are_together_at-is_joined_at-requires-clause-place : goal.are_together_at-is_joined_at-requires-clause-place
are_together_at-is_joined_at-requires-clause-place t c = (
  omega (arith, c.loop-child.invariant.at_is),
  omega (
    arith,
    c.leaf_counts.ensures,
    leaves_some (outline_of c.child-item.result) (child_arities c.args.children.now c.loop-child.child-index c.child-item.result c.loop-child-test.true c.child-item.is c.requires.proper),
    next_within c.args.line.now c.args.children.now c.args.start c.loop-child.child-index c.loop-child.at c.child-item.result c.loop-child-test.true c.child-item.is c.requires.place c.loop-child.invariant.at_is,
  ),
  omega (arith, c.leaf_counts.ensures, stands_long c.args.line.now (columns_of c.args.children.now) c.args.start c.requires.place),
)

pub are_together_at-returns-then-not-is_joined_at : goal.are_together_at-returns-then-not-is_joined_at
are_together_at-returns-then-not-is_joined_at t c =
    apart_fails c.args.classes.now c.args.line.now c.args.children.now c.args.start c.loop-child.child-index c.loop-child.at (c.args.start + c.leaf_counts.result) c.child-item.result c.loop-child-test.true c.child-item.is
    c.requires.place c.loop-child.invariant.at_is (omega (arith, c.leaf_counts.ensures)) c.is_joined_at.result
    (omega (
      arith,
      c.leaf_counts.ensures,
      leaves_some (outline_of c.child-item.result) (child_arities c.args.children.now c.loop-child.child-index c.child-item.result c.loop-child-test.true c.child-item.is c.requires.proper),
      next_within c.args.line.now c.args.children.now c.args.start c.loop-child.child-index c.loop-child.at c.child-item.result c.loop-child-test.true c.child-item.is c.requires.place c.loop-child.invariant.at_is,
    ))
    (order_once c.args.classes.now.columns c.args.line.now c.requires.line) c.is_joined_at.ensures c.if-not-is_joined_at.true

pub are_together_at-is_complete_at-requires : goal.are_together_at-is_complete_at-requires
are_together_at-is_complete_at-requires t c = (
  search (rules, the_lemmas),
  (
    child_arities c.args.children.now c.loop-child.child-index c.child-item.result c.loop-child-test.true c.child-item.is c.requires.proper,
    (
      c.requires.line,
      child_stands c.args.line.now c.args.children.now c.args.start c.loop-child.child-index c.loop-child.at c.child-item.result c.loop-child-test.true c.child-item.is c.requires.place c.loop-child.invariant.at_is,
    ),
  ),
)

pub are_together_at-returns-then-not-is_complete_at : goal.are_together_at-returns-then-not-is_complete_at
are_together_at-returns-then-not-is_complete_at t c =
    child_fails c.args.classes.now c.args.line.now c.args.children.now c.args.start c.loop-child.child-index c.loop-child.at (c.args.start + c.leaf_counts.result) c.child-item.result c.loop-child-test.true c.child-item.is
    c.requires.place c.loop-child.invariant.at_is (omega (arith, c.leaf_counts.ensures)) c.is_complete_at.result c.is_complete_at.ensures c.if-not-is_complete_at.true

pub are_together_at-leaf_count-at-requires : goal.are_together_at-leaf_count-at-requires
are_together_at-leaf_count-at-requires t c = omega (arith, c.leaf_counts.ensures, child_long c.args.children.now c.loop-child.child-index c.child-item.result c.loop-child-test.true c.child-item.is)

pub are_together_at-overflow_add-at : goal.are_together_at-overflow_add-at
are_together_at-overflow_add-at t c =
    omega (
      arith,
      c.leaf_count-at.ensures,
      next_within c.args.line.now c.args.children.now c.args.start c.loop-child.child-index c.loop-child.at c.child-item.result c.loop-child-test.true c.child-item.is c.requires.place c.loop-child.invariant.at_is,
      stands_long c.args.line.now (columns_of c.args.children.now) c.args.start c.requires.place,
    )

pub are_together_at-loop-child-preserved : goal.are_together_at-loop-child-preserved
are_together_at-loop-child-preserved t c =
    record {
      at_is = omega (
        arith,
        c.leaf_count-at.ensures,
        next_at c.args.line.now c.args.children.now c.args.start c.loop-child.child-index c.loop-child.at c.child-item.result c.loop-child-test.true c.child-item.is c.requires.place c.loop-child.invariant.at_is,
      );
      alike =
          rw c.leaf_count-at.ensures
          (together_more c.args.classes.now c.args.line.now c.args.children.now c.args.start c.loop-child.child-index c.loop-child.at (c.args.start + c.leaf_counts.result) c.child-item.result c.loop-child-test.true c.child-item.is
          c.requires.place c.loop-child.invariant.at_is (omega (arith, c.leaf_counts.ensures)) c.is_joined_at.result c.is_complete_at.result
          (child_arities c.args.children.now c.loop-child.child-index c.child-item.result c.loop-child-test.true c.child-item.is c.requires.proper)
          (order_once c.args.classes.now.columns c.args.line.now c.requires.line) c.loop-child.invariant.alike c.is_joined_at.ensures c.if-not-is_joined_at.false c.is_complete_at.ensures c.if-not-is_complete_at.false);
      rest =
          rest_more c.args.classes.now c.args.line.now c.args.children.now c.args.start c.loop-child.child-index c.loop-child.at (c.args.start + c.leaf_counts.result) c.child-item.result c.loop-child-test.true c.child-item.is
          c.requires.place c.loop-child.invariant.at_is (omega (arith, c.leaf_counts.ensures)) c.is_complete_at.result c.loop-child.invariant.rest c.is_complete_at.ensures c.if-not-is_complete_at.false;
    }

pub are_together_at-returns : goal.are_together_at-returns
are_together_at-returns t c =
    together_all c.args.classes.now c.args.line.now c.args.children.now c.args.start c.loop-child.child-index c.loop-child.at (c.args.start + c.leaf_counts.result) c.loop-child-test.false c.requires.place
    c.loop-child.invariant.at_is (omega (arith, c.leaf_counts.ensures)) c.loop-child.invariant.alike c.loop-child.invariant.rest

pub is_complete_at-are_together_at-requires : goal.is_complete_at-are_together_at-requires
is_complete_at-are_together_at-requires t c =
    let same = outline_p c.args.tree.now c.in-P.children c.deref.result.now c.in-P.is c.deref.ensures.value in
    let proper : HasArities (p_node (forest (map outline_of c.deref.result.now))) = subst HasArities same c.requires.proper in
    (search (rules, the_lemmas), (proper.1, (c.requires.line, subst (λ o. RunsFrom c.args.line.now c.args.start (leaves o)) same c.requires.place)))

pub is_complete_at-are_together_at-requires-in-Q : goal.is_complete_at-are_together_at-requires-in-Q
is_complete_at-are_together_at-requires-in-Q t c =
    let same = outline_q c.args.tree.now c.in-Q.children c.deref-in-Q.result.now c.in-Q.is c.deref-in-Q.ensures.value in
    let proper : HasArities (q_node (forest (map outline_of c.deref-in-Q.result.now))) = subst HasArities same c.requires.proper in
    (search (rules, the_lemmas), (proper.1, (c.requires.line, subst (λ o. RunsFrom c.args.line.now c.args.start (leaves o)) same c.requires.place)))

pub is_complete_at-are_in_line_at-requires-clause-place : goal.is_complete_at-are_in_line_at-requires-clause-place
is_complete_at-are_in_line_at-requires-clause-place t c =
    let same = outline_q c.args.tree.now c.in-Q.children c.deref-then-are_together_at.result.now c.in-Q.is c.deref-then-are_together_at.ensures.value in
    subst (λ o. RunsFrom c.args.line.now c.args.start (leaves o)) same c.requires.place

pub is_complete_at-returns-in-Leaf : goal.is_complete_at-returns-in-Leaf
is_complete_at-returns-in-Leaf t c = λ k rows tells. (
  λ x. subst (IsComplete (Evenly k rows) c.args.line.now) (sym (ap outline_of c.in-Leaf.is ∙ outline_of-Leaf c.in-Leaf.field-0)) (leaf_complete (Evenly k rows) c.args.line.now (evenly_sorts k rows) c.in-Leaf.field-0),
  λ x. refl,
)

pub is_complete_at-returns-in-P : goal.is_complete_at-returns-in-P
is_complete_at-returns-in-P t c = λ k rows tells.
    let same = outline_p c.args.tree.now c.in-P.children c.deref.result.now c.in-P.is c.deref.ensures.value in
    let R = Evenly k rows in
    let both = p_complete R c.args.line.now (forest (map outline_of c.deref.result.now)) in
    let told = c.are_together_at.ensures k rows tells in
    (λ x. subst (IsComplete R c.args.line.now) (sym same) (both.0 (told.0 x)), λ h. told.1 (both.1 (subst (IsComplete R c.args.line.now) same h)))

pub is_complete_at-returns-then-are_together_at : goal.is_complete_at-returns-then-are_together_at
is_complete_at-returns-then-are_together_at t c = λ k rows tells.
    let same = outline_q c.args.tree.now c.in-Q.children c.deref-in-Q.result.now c.in-Q.is c.deref-in-Q.ensures.value in
    let again : c.deref-then-are_together_at.result.now ≡ c.deref-in-Q.result.now = c.deref-then-are_together_at.ensures.value ∙ sym c.deref-in-Q.ensures.value in
    let R = Evenly k rows in
    let both = q_complete R c.args.line.now (forest (map outline_of c.deref-in-Q.result.now)) in
    let told = c.are_together_at-in-Q.ensures k rows tells in
    let line = c.are_in_line_at.ensures k rows tells in
    let carry = λ (z : List Tree). IsInLine R (forest (map outline_of z)) in (
      λ x. subst (IsComplete R c.args.line.now) (sym same) (both.0 (told.0 c.if-are_together_at.true, subst carry again (line.0 x))),
      λ h. line.1 (subst carry (sym again) (both.1 (subst (IsComplete R c.args.line.now) same h)).1),
    )

pub is_complete_at-returns-else-are_together_at : goal.is_complete_at-returns-else-are_together_at
is_complete_at-returns-else-are_together_at t c = λ k rows tells.
    let same = outline_q c.args.tree.now c.in-Q.children c.deref-in-Q.result.now c.in-Q.is c.deref-in-Q.ensures.value in
    let R = Evenly k rows in
    let both = q_complete R c.args.line.now (forest (map outline_of c.deref-in-Q.result.now)) in
    let told = c.are_together_at-in-Q.ensures k rows tells in
    (λ x. absurd (both_ways c.are_together_at-in-Q.result c.if-are_together_at.false x), λ h. told.1 (both.1 (subst (IsComplete R c.args.line.now) same h)).0)
