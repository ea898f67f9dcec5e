use Rattle.solve_replies.proofs.Sessions.{same_count}
use Rattle.solve_replies.proofs.outcomes_law.Goals as goal

pub returns : goal.returns
returns c = same_count
