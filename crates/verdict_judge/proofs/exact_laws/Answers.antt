use Rattle.verdict_judge.proofs.Exact.{true_yes_law, complete_law}
use Rattle.verdict_judge.proofs.exact_laws.Goals as goal

pub returns-clause-true_yes : goal.returns-clause-true_yes
returns-clause-true_yes c = true_yes_law c.textbook_law.ensures.derived c.exact_law.ensures

pub returns-clause-complete : goal.returns-clause-complete
returns-clause-complete c = complete_law c.textbook_law.ensures.derived c.tied_law.ensures c.exact_law.ensures
