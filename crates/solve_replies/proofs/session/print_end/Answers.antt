use Rattle.std.proofs.Common.{ap, ◌∙◌, ◌++◌, codes, append_assoc}
use Rattle.std.proofs.lemmas.Result.{on_ok_weaker}
use Rattle.pq_tree.specs.PqTree.{outline}
use Rattle.verdict_text.specs.Text.{side_text}
use Rattle.solve_replies.proofs.Sessions.{shows_all}
use Rattle.solve_replies.proofs.session.print_end.Goals as goal

pub returns : goal.returns
returns c =
    let tree = c.in_ok-tree.tree in
    let order = c.in_ok-order.order.items in
    let old = c.args.text.now.items in
    on_ok_weaker c.push.result
    (λ e. record {
      side = record { tree = outline tree; order = order };
      shows = shows_all c.args.session.now.matrix tree order c.in_ok-tree.ensures.all_orders c.in_ok-order.ensures.leaves;
      text_is = e ∙ ap (λ t. t ++ codes "end\n") (c.in_ok-print_side.ensures.ok ∙ ap (λ o. old ++ side_text (record { tree = outline tree; order = o })) c.deref.ensures.value)
          ∙ append_assoc old (side_text (record { tree = outline tree; order = order })) (codes "end\n");
    })
    c.push.ensures.ok
