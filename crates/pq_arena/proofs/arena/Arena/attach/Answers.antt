use Rattle.std.proofs.Common.{◌∷◌}
use Rattle.arena_model.specs.Layout.{children_at, with_children}
use Rattle.pq_arena.proofs.Attach.{attach_stands, enter_bounds}
use Rattle.pq_arena.proofs.Closing.{opened, kept_by, layout_by}
use Rattle.pq_arena.specs.StandsFor.{StandsFor}
use Rattle.pq_arena.specs.Wiring.{links, heads, head, ringed, more}
use Rattle.pq_arena.proofs.arena.Arena.attach.Goals as goal

pub enter_ring-requires : goal.enter_ring-requires
enter_ring-requires g c =
    enter_bounds _ _ _ _ _ _ c.args.self.now c.args.p.index c.args.n.index
    (opened c.self.inside c.args.self.now c.self.view_is c.self.invariant) c.requires.p c.requires.n

stands : (g : _) (c : goal.After-enter_ring g) →
    StandsFor (ringed (links c.self.inside.nodes.items) (head (heads c.self.inside.nodes.items) c.args.p.index) c.args.p.index c.args.n.index)
    (more (heads c.self.inside.nodes.items) c.args.p.index c.args.n.index) c.self.inside.root c.self.inside.spare c.self.inside.count c.self.inside.columns
    (with_children c.args.self.now c.args.p.index (c.args.n.index ∷ children_at c.args.self.now c.args.p.index))
stands g c = attach_stands _ _ _ _ _ _ c.args.self.now c.args.p.index c.args.n.index
    (opened c.self.inside c.args.self.now c.self.view_is c.self.invariant) c.requires.p c.requires.n c.requires.apart

pub invariant_of-self : goal.invariant_of-self
invariant_of-self g c = kept_by _ _ _ _ c.enter_ring.ensures.links c.enter_ring.ensures.heads (stands g c)

pub returns-clause-changed : goal.returns-clause-changed
returns-clause-changed g c = layout_by
    (record { nodes = c.enter_ring.new.nodes; root = c.self.inside.root; spare = c.self.inside.spare; count = c.self.inside.count; columns = c.self.inside.columns })
    _ _ _ c.enter_ring.ensures.links c.enter_ring.ensures.heads (stands g c)
