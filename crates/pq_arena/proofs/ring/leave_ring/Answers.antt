use Rattle.std.proofs.Common.{◌∙◌, refl, arith}
use Rattle.std.proofs.lemmas.Grind.{common_steps}
use Rattle.pq_arena.proofs.Sizes.{size_of_links, size_kept}
use Rattle.pq_arena.proofs.ring.leave_ring.Goals as goal

pub set_near1-requires : goal.set_near1-requires
set_near1-requires c =
    rw (size_kept c.set_near0.new.nodes.items c.args.nodes.now.items c.set_near0.ensures.heads, ← size_of_links c.args.nodes.now.items, c.link_at-link.ensures) c.requires.near0_in

pub set_link-requires : goal.set_link-requires
set_link-requires c =
    rw (size_kept c.set_near1.new.nodes.items c.args.nodes.now.items (c.set_near1.ensures.heads ∙ c.set_near0.ensures.heads), ← size_of_links c.args.nodes.now.items) c.requires.n_in

pub set_head-requires : goal.set_head-requires
set_head-requires c =
    rw (size_kept c.set_link.new.nodes.items c.args.nodes.now.items (c.set_link.ensures.heads ∙ c.set_near1.ensures.heads ∙ c.set_near0.ensures.heads), ← size_of_links c.args.nodes.now.items, c.link_at-link.ensures) c.requires.parent_in

pub overflow_sub-head : goal.overflow_sub-head
overflow_sub-head c = rw (c.head_at-head.ensures, c.link_at-link.ensures) c.requires.some

pub returns-clause-links : goal.returns-clause-links
returns-clause-links c = rw (c.set_head.ensures.links, c.set_link.ensures.links, c.set_near1.ensures.links, c.set_near0.ensures.links, c.link_at-link.ensures) refl

pub returns-clause-heads : goal.returns-clause-heads
returns-clause-heads c =
    rw (c.set_head.ensures.heads, c.set_link.ensures.heads, c.set_near1.ensures.heads, c.set_near0.ensures.heads, c.first_left-first.ensures, c.head_at-head.ensures, c.link_at-link.ensures) refl

pub link_at-link-requires : goal.link_at-link-requires
link_at-link-requires c = grind (arith, common_steps)

pub head_at-head-requires : goal.head_at-head-requires
head_at-head-requires c = grind (arith, common_steps)

pub set_near0-requires : goal.set_near0-requires
set_near0-requires c = grind (arith, common_steps)
