use Rattle.solve_replies.proofs.Drawn.{generated_law}
use Rattle.solve_replies.proofs.draws.generated_law.Goals as goal

pub returns : goal.returns
returns c = generated_law
