use Rattle.proper_interval.proofs.UmbrellaLaws.{umbrella_exactly}
use Rattle.proper_interval.proofs.laws.umbrella_law.Goals as goal

pub returns : goal.returns
returns c = umbrella_exactly
