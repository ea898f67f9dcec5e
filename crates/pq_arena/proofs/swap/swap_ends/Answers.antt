use Rattle.std.proofs.Common.{arith}
use Rattle.std.proofs.lemmas.Grind.{common_steps}
use Rattle.pq_arena.proofs.swap.swap_ends.Goals as goal

pub head_at-head-requires : goal.head_at-head-requires
head_at-head-requires c = grind (arith, common_steps)

pub set_head-requires : goal.set_head-requires
set_head-requires c = grind (arith, common_steps)
