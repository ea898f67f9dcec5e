use Rattle.pq_arena.proofs.Arities.{two_each}
use Rattle.pq_arena.proofs.arena.Arena.arities_law.Goals as goal

pub returns : goal.returns
returns c = two_each c.args.self.now c.layout_law.ensures c.requires.one c.requires.proper.0
