use Rattle.core_size.proofs.Sizes.{core_size}
use Rattle.core_size.proofs.core_size_law.Goals as goal

pub returns : goal.returns
returns c = core_size c.narrows_law.ensures c.universal_law.ensures c.reduce_law.ensures.kept c.reduce_law.ensures.exists c.tied_law.ensures c.equivalent_law.ensures.same_frontiers
