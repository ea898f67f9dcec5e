use Rattle.std.proofs.Common.{◌≡◌, ◌∙◌, ◌+◌, ◌-◌, ℕ, List, [], get_or, sym, ap, subst, arith, below_more}
use Rattle.std.proofs.lemmas.List.{get_or_default}
use Rattle.std.proofs.lemmas.Option.{get_or_from_slice_get}
use Rattle.column_order.specs.Orders.{Keeps}
use Rattle.pq_tree.specs.Outline.{IsFrontier, leaves}
use Rattle.pq_tree.specs.PqTree.{outline}
use Rattle.pq_tree.proofs.Frontiers.{leaves_are_frontier}
use Rattle.every_order_tests.proofs.tests.small.holds_rows.Goals as goal

pub loop-before-preserved : goal.loop-before-preserved
loop-before-preserved c =
    let rows = c.args.m.now.rows in
    let k = c.loop-before.before in
    let at : k + 1 - 1 ≡ k = omega arith in
    let row : c.row.result.now ≡ get_or rows k [] = sym (get_or_from_slice_get rows (k + 1 - 1) c.row.result.now [] c.row.ensures.row) ∙ ap (λ i. get_or rows i []) at in
    below_more (λ (i : ℕ). (f : List ℕ) → IsFrontier (outline c.args.tree.now) f → Keeps f (get_or rows i [])) k c.loop-before.invariant
    (λ f h. subst (Keeps f) row (c.tree_holds.ensures.0 c.if-not-tree_holds.false f h))

pub returns : goal.returns
returns c = λ t i d l.
    let all = leaves (outline c.args.tree.now) in
    subst (Keeps all) (get_or_default c.args.m.now.rows i [] d l) (c.loop-before.invariant i (omega arith) all (leaves_are_frontier (outline c.args.tree.now)))
