use Rattle.std.proofs.Common.{arith}
use Rattle.std.proofs.lemmas.Grind.{common_steps}
use Rattle.pq_arena.proofs.run.relink_if.Goals as goal

pub link_at-link-requires : goal.link_at-link-requires
link_at-link-requires c = grind (arith, common_steps)

pub set_link-requires : goal.set_link-requires
set_link-requires c = grind (arith, common_steps)
