use Rattle.verdict_judge.proofs.True as laws
use Rattle.verdict_judge.proofs.true_law.Goals as goal

pub returns : goal.returns
returns c = laws.true_law c.textbook_law.ensures.valid c.textbook_law.ensures.derived c.textbook_law.ensures.exists c.tied_law.ensures
