use Rattle.std.proofs.Common.{arith}
use Rattle.std.proofs.lemmas.Grind.{common_steps}
use Rattle.pq_arena.proofs.arena.Arena.has_two_each.Goals as goal

pub overflow_cast-n-end : goal.overflow_cast-n-end
overflow_cast-n-end c = grind (arith, common_steps)

pub has_two-requires : goal.has_two-requires
has_two-requires c = grind (arith, common_steps)

pub returns : goal.returns
returns c = grind (arith, common_steps)
