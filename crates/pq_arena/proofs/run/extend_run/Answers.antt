use Rattle.std.proofs.Common.{◌∙◌, refl}
use Rattle.pq_arena.proofs.Sizes.{size_of_links, size_kept}
use Rattle.pq_arena.proofs.run.extend_run.Goals as goal

pub set_link-requires : goal.set_link-requires
set_link-requires c = rw (size_kept c.stand_beside.new.nodes.items c.args.nodes.now.items c.stand_beside.ensures.heads, ← size_of_links c.args.nodes.now.items) c.requires.n_in

pub set_head-requires : goal.set_head-requires
set_head-requires c =
    rw (size_kept c.set_link.new.nodes.items c.args.nodes.now.items (c.set_link.ensures.heads ∙ c.stand_beside.ensures.heads), ← size_of_links c.args.nodes.now.items) c.requires.q_in

pub returns-clause-links : goal.returns-clause-links
returns-clause-links c = rw (c.set_head.ensures.links, c.set_link.ensures.links, c.stand_beside.ensures.links, c.fore_of-former.ensures, c.head_at-head.ensures) refl

pub returns-clause-heads : goal.returns-clause-heads
returns-clause-heads c = rw (c.set_head.ensures.heads, c.set_link.ensures.heads, c.stand_beside.ensures.heads, c.extend_ends.ensures, c.head_at-head.ensures) refl
