use Rattle.std.proofs.Common.{length, sym, subst, refl, ◌∙◌}
use Rattle.pq_arena.specs.declared.node.Link.{Link}
use Rattle.pq_arena.specs.Wiring.{links, IsNone}
use Rattle.pq_arena.proofs.Sizes.{size_of_links, size_kept, links_kept, heads_size}
use Rattle.pq_arena.proofs.swap.swap_nodes.Goals as goal

pub relink_if-requires : goal.relink_if-requires
relink_if-requires c = subst (λ (k : Link). IsNone (length (links c.args.nodes.now.items)) k.near0) (sym c.link_at-link.ensures) c.requires.near0_in

pub relink_if-requires-2 : goal.relink_if-requires-2
relink_if-requires-2 c =
    rw (links_kept c.relink_if.new.nodes.items c.args.nodes.now.items c.relink_if.ensures.heads, c.link_at-link.ensures) c.requires.near1_in

pub link_at-place-requires : goal.link_at-place-requires
link_at-place-requires c =
    rw (size_kept c.relink_if-2.new.nodes.items c.args.nodes.now.items (c.relink_if-2.ensures.heads ∙ c.relink_if.ensures.heads), ← size_of_links c.args.nodes.now.items) c.requires.old_in

pub set_link-requires : goal.set_link-requires
set_link-requires c =
    rw (size_kept c.relink_if-2.new.nodes.items c.args.nodes.now.items (c.relink_if-2.ensures.heads ∙ c.relink_if.ensures.heads), ← size_of_links c.args.nodes.now.items) c.requires.new_in

pub set_link-requires-2 : goal.set_link-requires-2
set_link-requires-2 c =
    rw (size_kept c.set_link.new.nodes.items c.args.nodes.now.items (c.set_link.ensures.heads ∙ c.relink_if-2.ensures.heads ∙ c.relink_if.ensures.heads), ← size_of_links c.args.nodes.now.items) c.requires.old_in

pub swap_ends-requires : goal.swap_ends-requires
swap_ends-requires c =
    rw (heads_size c.set_link-2.new.nodes.items c.args.nodes.now.items (c.set_link-2.ensures.heads ∙ c.set_link.ensures.heads ∙ c.relink_if-2.ensures.heads ∙ c.relink_if.ensures.heads), c.link_at-link.ensures) c.requires.parent_in

pub returns-clause-links : goal.returns-clause-links
returns-clause-links c =
    rw (c.swap_ends.ensures.links, c.set_link-2.ensures.links, c.set_link.ensures.links, c.link_at-place.ensures, c.relink_if-2.ensures.links, c.relink_if.ensures.links, c.link_at-link.ensures) refl

pub returns-clause-heads : goal.returns-clause-heads
returns-clause-heads c =
    rw (c.swap_ends.ensures.heads, c.set_link-2.ensures.heads, c.set_link.ensures.heads, c.relink_if-2.ensures.heads, c.relink_if.ensures.heads, c.link_at-link.ensures) refl
