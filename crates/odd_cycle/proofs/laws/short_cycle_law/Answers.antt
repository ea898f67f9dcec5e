use Rattle.odd_cycle.proofs.ShortLaws.{short_cycle_law}
use Rattle.odd_cycle.proofs.laws.short_cycle_law.Goals as goal

pub returns : goal.returns
returns c = short_cycle_law
