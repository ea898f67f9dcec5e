use Rattle.verdict_judge.proofs.CoreTests.{names_core, told_core}
use Rattle.verdict_judge.proofs.core_check.core_laws.Goals as goal

pub returns-clause-names : goal.returns-clause-names
returns-clause-names c = names_core c.blame_law.ensures

pub returns-clause-told : goal.returns-clause-told
returns-clause-told c = told_core
