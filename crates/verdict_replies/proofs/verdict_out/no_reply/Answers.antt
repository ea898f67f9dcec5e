use Rattle.verdict_replies.proofs.NoOrders.{no_reply}
use Rattle.verdict_replies.proofs.verdict_out.no_reply.Goals as goal

pub returns-clause-reply : goal.returns-clause-reply
returns-clause-reply c =
    no_reply c.args.kind c.args.columns c.no.result.side c.no.result.lines c.args.cycle c.in_ok-text.text.items c.no.ensures.side c.no.ensures.lines
    c.in_ok-text.ensures c.requires.0
