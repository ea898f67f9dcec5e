use Rattle.open_gaps.proofs.Labels.{gap_law}
use Rattle.open_gaps.proofs.laws.gap_law.Goals as goal

pub returns : goal.returns
returns c = gap_law
