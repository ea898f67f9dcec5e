use Rattle.verdict_replies.proofs.ShownOrders.{shown_order}
use Rattle.verdict_replies.proofs.verdict_laws.shown_law.Goals as goal

pub returns : goal.returns
returns c = shown_order
