use Rattle.row_judge.proofs.Blamed.{last_row_law, first_conflict_law}
use Rattle.row_judge.proofs.laws.last_row_laws.Goals as goal

pub returns-clause-last : goal.returns-clause-last
returns-clause-last c = last_row_law

pub returns-clause-first : goal.returns-clause-first
returns-clause-first c = first_conflict_law
