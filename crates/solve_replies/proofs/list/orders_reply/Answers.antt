use Rattle.solve_replies.proofs.Lists.{frontiers_listed}
use Rattle.solve_replies.proofs.list.orders_reply.Goals as goal

pub returns-clause-reply : goal.returns-clause-reply
returns-clause-reply c =
    frontiers_listed c.args.kind c.args.count c.args.tree.now c.in_ok-found.found.orders c.in_ok-found.found.more c.columns.result c.in_ok-text.text.items c.in_ok-found.ensures.first c.in_ok-found.ensures.more
    c.columns.ensures c.in_ok-text.ensures
