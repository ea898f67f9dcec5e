use Rattle.pq_cli.proofs.Answered as laws
use Rattle.pq_cli.proofs.replies.promise.answer_law.Goals as goal

pub returns : goal.returns
returns c = laws.answer_law c.promise_law.ensures
