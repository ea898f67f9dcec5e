use Rattle.std.proofs.Common.{refl, subst}
use Rattle.column_order.specs.Orders.{HasValidOrder}
use Rattle.c1p_solve.specs.Answers.{HasAllOrders}
use Rattle.instance_model.specs.Value.{instance_value}
use Rattle.pq_tree.specs.Outline.{leaves}
use Rattle.pq_tree.specs.Proper.{IsProper}
use Rattle.pq_tree.specs.PqTree.{outline}
use Rattle.verdict_replies.specs.Verdicts.{IsVerdictReply}
use Rattle.solve_replies.proofs.Cores.{yes_reply}
use Rattle.solve_replies.proofs.core_rows.yes_reply.Goals as goal

pub yes_on-requires : goal.yes_on-requires
yes_on-requires c =
    let m = c.args.m.now in
    let t = c.args.tree in
    let o = c.requires.orders in
    let is = c.requires.matrix.1 in
    let proper : IsProper m.columns (outline t) = subst (λ n. IsProper n (outline t)) o.columns t.proper in
    let all : HasAllOrders m t = record {
      columns = o.columns;
      canonical = o.canonical;
      tied = c.exact_law.ensures m.columns m.rows (outline t) proper o.orders;
      orders = o.orders;
    } in
    let valid : HasValidOrder m.columns m.rows = (leaves (outline t), (o.orders (leaves (outline t))).0 (c.leaves_law.ensures (outline t))) in
    record {
      judged = c.requires.within;
      sides = rw is refl;
      orders = rw is (all, valid);
    }

pub returns-clause-text : goal.returns-clause-text
returns-clause-text c kind e =
    let t = c.args.tree in
    let o = c.requires.orders in
    let valid : HasValidOrder c.args.m.now.columns c.args.m.now.rows = (leaves (outline t), (o.orders (leaves (outline t))).0 (c.leaves_law.ensures (outline t))) in
    let reply = c.in_ok-text.ensures.reply (instance_value c.args.instance.now) c.in_ok-verdict.ensures.holds in
    yes_reply kind c.args.m.now c.in_ok-text.field-0.status c.in_ok-text.field-0.text.items valid (subst (λ i. IsVerdictReply i c.in_ok-text.field-0.status c.in_ok-text.field-0.text.items) e reply)

pub returns-clause-status : goal.returns-clause-status
returns-clause-status c = refl
