use Rattle.std.proofs.Common.{◌≡◌, ◌∙◌, ℕ, ◌+◌, ◌++◌, ◌∷◌, [], List, length, cond, sym, ap, subst, arith, length-append, IsTrue}
use Rattle.std.proofs.lemmas.Result.{IfOk-from_err}
use Rattle.column_order.specs.Orders.{has}
use Rattle.column_order.proofs.Counts.{order_has}
use Rattle.row_model.proofs.Filtered.{filtered_more}
use Rattle.pq_tree.specs.Outline.{leaves}
use Rattle.pq_tree.specs.Proper.{IsProper}
use Rattle.pq_tree.specs.PqTree.{column_count, outline}
use Rattle.tree_meet.specs.TreeRows.{row_of_group}
use Rattle.tree_meet.proofs.rows.all_columns.Goals as goal

pub loop-i-preserved : goal.loop-i-preserved
loop-i-preserved c =
    let t = outline c.args.tree.now in
    let i = c.loop-i.i in
    let proper : IsProper (column_count c.args.tree.now) t = c.args.tree.now.proper in
    let there : IsTrue (has (leaves t) (i + 1)) = order_has (column_count c.args.tree.now) (leaves t) proper.1 (i + 1) (omega arith) (omega (arith, c.columns-i-end.ensures, c.loop-i-test.true)) in
    let more : row_of_group (i + 1) (leaves t) ≡ row_of_group i (leaves t) ++ (i + 1) ∷ [] =
    filtered_more (has (leaves t)) i ∙ ap (λ b. row_of_group i (leaves t) ++ cond b ((i + 1) ∷ []) []) there in
    record {
      row = c.in_ok-push.ensures.items ∙ ap (λ (l : List ℕ). l ++ (i + 1) ∷ []) c.loop-i.invariant.row ∙ sym more;
      count = omega (arith, ap (λ (l : List ℕ). length l) c.in_ok-push.ensures.items, length-append c.loop-i.columns.items ((i + 1) ∷ []), c.loop-i.invariant.count);
    }

pub returns-in_err-columns-clause-row : goal.returns-in_err-columns-clause-row
returns-in_err-columns-clause-row c = IfOk-from_err c.from_residual.result _ c.from_residual.ensures.0

pub returns-in_err-columns-clause-count : goal.returns-in_err-columns-clause-count
returns-in_err-columns-clause-count c = IfOk-from_err c.from_residual.result _ c.from_residual.ensures.0

pub returns-in_err-push-clause-row : goal.returns-in_err-push-clause-row
returns-in_err-push-clause-row c = IfOk-from_err c.from_residual-in_err-push.result _ c.from_residual-in_err-push.ensures.0

pub returns-in_err-push-clause-count : goal.returns-in_err-push-clause-count
returns-in_err-push-clause-count c = IfOk-from_err c.from_residual-in_err-push.result _ c.from_residual-in_err-push.ensures.0

pub loop-i-init : goal.loop-i-init
loop-i-init c =
    record { row = c.in_ok-columns.ensures.items; count = ap (λ (l : List ℕ). length l) c.in_ok-columns.ensures.items }

pub returns-clause-row : goal.returns-clause-row
returns-clause-row c =
    let all : c.loop-i.i ≡ column_count c.args.tree.now = omega (arith, c.loop-i-test.false, c.loop-i.auto.i-end, c.columns-i-end.ensures) in
    subst (λ k. c.loop-i.columns.items ≡ row_of_group k (leaves (outline c.args.tree.now))) all c.loop-i.invariant.row

pub returns-clause-count : goal.returns-clause-count
returns-clause-count c =
    omega (arith, c.loop-i-test.false, c.loop-i.auto.i-end, c.columns-i-end.ensures, c.loop-i.invariant.count)
