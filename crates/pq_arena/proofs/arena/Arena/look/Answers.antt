use Rattle.std.proofs.Common.{◌<◌, sym, subst, ◌∙◌}
use Rattle.std.proofs.lemmas.List.{length-map}
use Rattle.arena_model.proofs.Slots.{in_range}
use Rattle.pq_arena.proofs.Closing.{opened}
use Rattle.pq_arena.proofs.Look.{shown}
use Rattle.pq_arena.proofs.arena.Arena.look.Goals as goal

pub head_at-head-requires : goal.head_at-head-requires
head_at-head-requires g c = let h = opened c.self.inside c.args.self.now c.self.view_is c.self.invariant in
    subst (λ m. c.args.n.index < m) (sym h.links_few ∙ length-map c.self.inside.nodes.items _) (in_range c.args.self.now c.args.n.index c.requires)

pub link_at-link-requires : goal.link_at-link-requires
link_at-link-requires g c = let h = opened c.self.inside c.args.self.now c.self.view_is c.self.invariant in
    subst (λ m. c.args.n.index < m) (sym h.links_few ∙ length-map c.self.inside.nodes.items _) (in_range c.args.self.now c.args.n.index c.requires)

pub returns-clause-shows : goal.returns-clause-shows
returns-clause-shows g c = let h = opened c.self.inside c.args.self.now c.self.view_is c.self.invariant in
    rw (c.named.ensures, c.named-2.ensures, c.named-3.ensures, c.named-4.ensures, c.named-5.ensures, c.link_at-link.ensures, c.head_at-head.ensures)
    (shown _ _ _ _ _ _ c.args.self.now c.args.n.index c.shape_of.result h (h.shapes c.args.n.index ∙ c.shape_of.ensures.shape))
