use Rattle.pq_cli.proofs.RealLaws.{told_fits}
use Rattle.pq_cli.proofs.real.told_law.Goals as goal

pub returns : goal.returns
returns c = told_fits
