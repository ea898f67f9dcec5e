use Rattle.std.proofs.Common.{arith}
use Rattle.std.proofs.lemmas.Grind.{common_steps}
use Rattle.pq_arena.proofs.ring.seat_first.Goals as goal

pub set_link-requires : goal.set_link-requires
set_link-requires c = grind (arith, common_steps)

pub link_at-back-requires : goal.link_at-back-requires
link_at-back-requires c = grind (arith, common_steps)

pub set_near0-requires : goal.set_near0-requires
set_near0-requires c = grind (arith, common_steps)

pub set_near1-requires : goal.set_near1-requires
set_near1-requires c = grind (arith, common_steps)

pub set_link-requires-else-over-eq0 : goal.set_link-requires-else-over-eq0
set_link-requires-else-over-eq0 c = grind (arith, common_steps)
