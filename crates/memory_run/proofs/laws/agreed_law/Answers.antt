use Rattle.memory_run.proofs.Agreeing.{agreed}
use Rattle.memory_run.proofs.laws.agreed_law.Goals as goal

pub returns : goal.returns
returns c = agreed c.solved_law.ensures.agreed
