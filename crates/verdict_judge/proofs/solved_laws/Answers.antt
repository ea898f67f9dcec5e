use Rattle.verdict_judge.proofs.True.{yes_law, no_law}
use Rattle.verdict_judge.proofs.solved_laws.Goals as goal

pub returns-clause-yes : goal.returns-clause-yes
returns-clause-yes c = yes_law

pub returns-clause-no : goal.returns-clause-no
returns-clause-no c = no_law
