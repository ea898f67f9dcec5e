use Rattle.std.proofs.Common.{refl}
use Rattle.pq_arena.proofs.Sizes.{size_of_links, size_kept}
use Rattle.pq_arena.proofs.ring.enter_ring.Goals as goal

pub set_head-requires : goal.set_head-requires
set_head-requires c = rw (size_kept c.seat_first.new.nodes.items c.args.nodes.now.items c.seat_first.ensures.heads, ← size_of_links c.args.nodes.now.items) c.requires.p_in

pub returns-clause-links : goal.returns-clause-links
returns-clause-links c = rw (c.set_head.ensures.links, c.seat_first.ensures.links, c.head_at-head.ensures) refl

pub returns-clause-heads : goal.returns-clause-heads
returns-clause-heads c = rw (c.set_head.ensures.heads, c.seat_first.ensures.heads, c.head_at-head.ensures) refl
