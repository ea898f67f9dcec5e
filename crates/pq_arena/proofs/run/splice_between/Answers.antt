use Rattle.std.proofs.Common.{◌∙◌, refl}
use Rattle.pq_arena.proofs.Sizes.{size_of_links, size_kept, links_kept, heads_size}
use Rattle.pq_arena.proofs.run.splice_between.Goals as goal

pub join-requires-2 : goal.join-requires-2
join-requires-2 c = rw (links_kept c.join.new.nodes.items c.args.nodes.now.items c.join.ensures.heads) (record { n = c.requires.far_in; e = c.requires.g_in })

pub set_link-requires : goal.set_link-requires
set_link-requires c =
    rw (size_kept c.join-2.new.nodes.items c.args.nodes.now.items (c.join-2.ensures.heads ∙ c.join.ensures.heads), ← size_of_links c.args.nodes.now.items) c.requires.child_in

pub set_ends-requires : goal.set_ends-requires
set_ends-requires c =
    rw (heads_size c.set_link.new.nodes.items c.args.nodes.now.items (c.set_link.ensures.heads ∙ c.join-2.ensures.heads ∙ c.join.ensures.heads)) c.requires.q_in

pub returns-clause-links : goal.returns-clause-links
returns-clause-links c = rw (c.set_ends.ensures.links, c.set_link.ensures.links, c.join-2.ensures.links, c.join.ensures.links) refl

pub returns-clause-heads : goal.returns-clause-heads
returns-clause-heads c = rw (c.set_ends.ensures.heads, c.set_link.ensures.heads, c.join-2.ensures.heads, c.join.ensures.heads) refl
