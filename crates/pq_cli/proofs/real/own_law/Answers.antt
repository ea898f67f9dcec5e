use Rattle.pq_cli.proofs.RealLaws.{own_fits}
use Rattle.pq_cli.proofs.real.own_law.Goals as goal

pub returns : goal.returns
returns c = own_fits
