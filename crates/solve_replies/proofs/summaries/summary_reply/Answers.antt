use Rattle.std.proofs.Common.{◌≡◌, ◌∙◌, ◌+◌, ◌≤◌, ℕ, refl, sym, ap, subst, arith}
use Rattle.std.proofs.lemmas.Result.{IfOk-from_err, IfOk-weaker}
use Rattle.column_order.proofs.Counts.{order_length}
use Rattle.pq_tree.specs.Outline.{Outline, leaves}
use Rattle.pq_tree.specs.Proper.{outline_of, IsProper}
use Rattle.pq_tree.specs.PqTree.{outline}
use Rattle.row_model.specs.Rows.{RowList}
use Rattle.verdict_replies.specs.declared.reply.Reply.{Reply}
use Rattle.c1p_solve.specs.Answers.{HasAllOrders}
use Rattle.solve_replies.specs.Generated.{generated}
use Rattle.solve_replies.specs.Summaries.{inner_sum, IsCounted, IsTreeOf, IsSummary, summary_text}
use Rattle.solve_replies.proofs.Drawn.{drawn_count}
use Rattle.solve_replies.proofs.Counted.{few_nodes}
use Rattle.solve_replies.proofs.Within.{made_of_matrix}
use Rattle.solve_replies.proofs.summaries.summary_reply.Given as given
use Rattle.solve_replies.proofs.summaries.summary_reply.Goals as goal
use Rattle.solve_replies.proofs.summaries.summary_reply.Goals.{After-root}

-- the tree has fewer nodes that are no leaves than columns
few : (g : given.Over) (c : After-root g) → inner_sum 1 0 (outline_of c.root.result.now) + inner_sum 0 1 (outline_of c.root.result.now) + 1 ≤ c.args.columns
few g c =
    let tree = c.in_ok-tree.field-0.tree in
    let all : HasAllOrders (generated c.args.seed c.args.columns c.args.rows) tree = c.in_ok-tree.ensures.tree in
    let proper : IsProper tree.columns (outline_of c.root.result.now) = subst (IsProper tree.columns) (sym c.root.ensures) tree.proper in
    omega (arith, few_nodes (outline_of c.root.result.now) proper.0, order_length tree.columns (leaves (outline_of c.root.result.now)) proper.1, all.columns)

pub count_nodes-requires-clause-p : goal.count_nodes-requires-clause-p
count_nodes-requires-clause-p g c = omega (arith, few g (goal.at.count_nodes-requires-clause-p g c).After-root, c.requires.columns)

pub count_nodes-requires-clause-q : goal.count_nodes-requires-clause-q
count_nodes-requires-clause-q g c = omega (arith, few g (goal.at.count_nodes-requires-clause-q g c).After-root, c.requires.columns)

from_zero : (n : ℕ) → 0 + n ≡ n
from_zero n = omega arith

pub returns-clause-summary : goal.returns-clause-summary
returns-clause-summary g c =
    let m = generated c.args.seed c.args.columns c.args.rows in
    let tree = c.in_ok-tree.field-0.tree in
    let t = outline tree in
    let all : HasAllOrders m tree = c.in_ok-tree.ensures.tree in
    let counted : IsCounted m t c.args.columns c.args.rows c.in_ok-tree.field-0.ones c.count_nodes.new.nodes.p c.count_nodes.new.nodes.q = record {
      columns = refl;
      rows = sym (drawn_count c.args.rows _ _);
      ones = c.in_ok-tree.ensures.ones;
      p = c.count_nodes.ensures.p ∙ from_zero (inner_sum 1 0 (outline_of c.root.result.now)) ∙ ap (inner_sum 1 0) c.root.ensures;
      q = c.count_nodes.ensures.q ∙ from_zero (inner_sum 0 1 (outline_of c.root.result.now)) ∙ ap (inner_sum 0 1) c.root.ensures;
    } in
    let shows : IsTreeOf m t = record { proper = subst (λ n. IsProper n t) all.columns tree.proper; canonical = all.canonical; orders = all.orders } in
    IfOk-weaker c.summary.result (λ (reply : Reply). (n : RowList) (u : Outline) → IsCounted n u c.args.columns c.args.rows c.in_ok-tree.field-0.ones c.count_nodes.new.nodes.p c.count_nodes.new.nodes.q → reply.text.items ≡ summary_text n u)
    (λ (reply : Reply). IsSummary c.args.seed c.args.columns c.args.rows reply.text.items) (λ reply told. record { tree = t; shows = shows; text_is = told m t counted }) c.summary.ensures.text

pub returns-in_err-tree-clause-steps : goal.returns-in_err-tree-clause-steps
returns-in_err-tree-clause-steps g c =
    made_of_matrix (λ (reply : Reply). reply.status) c.from_residual.result (generated c.args.seed c.args.columns c.args.rows) 6 c.args.steps.now c.grow.new.steps
    (IfOk-from_err c.from_residual.result _ c.from_residual.ensures.0) c.in_err-tree.ensures.steps

pub returns-clause-steps : goal.returns-clause-steps
returns-clause-steps g c =
    made_of_matrix (λ (reply : Reply). reply.status) c.summary.result (generated c.args.seed c.args.columns c.args.rows) 0 c.args.steps.now c.grow.new.steps c.summary.ensures.status c.in_ok-tree.ensures.steps
