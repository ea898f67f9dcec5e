use Rattle.std.proofs.Common.{arith}
use Rattle.solve_replies.proofs.Units.{shown_valid}
use Rattle.solve_replies.proofs.unit.reply_by.Goals as goal

pub model_text-requires-clause-order : goal.model_text-requires-clause-order
model_text-requires-clause-order c =
    let claim = rw c.in-Yes.is at c.requires.holds.claim in
    shown_valid c.shown_law.ensures c.args.graph.now _ c.order.result.now (claim.0.each 1 (omega arith, omega arith)) c.order.ensures
