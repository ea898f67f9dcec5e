use Rattle.std.proofs.Common.{set}
use Rattle.arena_model.specs.ChildLists.{put_on}
use Rattle.arena_model.specs.Layout.{children_at, with_children}
use Rattle.pq_arena.specs.StandsFor.{StandsFor}
use Rattle.pq_arena.specs.Wiring.{links, heads, head, fore, extended, extended_ends}
use Rattle.pq_arena.proofs.Closing.{opened, kept_by, layout_by}
use Rattle.pq_arena.proofs.PutEnd.{put_end_stands, extend_bounds}
use Rattle.pq_arena.proofs.arena.Arena.put_end.Goals as goal

pub extend_run-requires : goal.extend_run-requires
extend_run-requires g c =
    extend_bounds _ _ _ _ _ _ c.args.self.now c.args.q.index c.args.n.index c.args.end
    (opened c.self.inside c.args.self.now c.self.view_is c.self.invariant) c.requires.q c.requires.n

stands : (g : _) (c : goal.After-extend_run g) →
    StandsFor (extended (links c.self.inside.nodes.items) (fore (head (heads c.self.inside.nodes.items) c.args.q.index) c.args.end) c.args.q.index c.args.n.index)
    (set (heads c.self.inside.nodes.items) c.args.q.index (extended_ends (head (heads c.self.inside.nodes.items) c.args.q.index) c.args.end c.args.n.index))
    c.self.inside.root c.self.inside.spare c.self.inside.count c.self.inside.columns
    (with_children c.args.self.now c.args.q.index (put_on c.args.end c.args.n.index (children_at c.args.self.now c.args.q.index)))
stands g c = put_end_stands _ _ _ _ _ _ c.args.self.now c.args.q.index c.args.n.index c.args.end
    (opened c.self.inside c.args.self.now c.self.view_is c.self.invariant) c.requires.end c.requires.q c.requires.n c.requires.apart

pub returns-clause-changed : goal.returns-clause-changed
returns-clause-changed g c = layout_by
    (record { nodes = c.extend_run.new.nodes; root = c.self.inside.root; spare = c.self.inside.spare; count = c.self.inside.count; columns = c.self.inside.columns })
    _ _ _ c.extend_run.ensures.links c.extend_run.ensures.heads (stands g c)

pub invariant_of-self : goal.invariant_of-self
invariant_of-self g c = kept_by _ _ _ _ c.extend_run.ensures.links c.extend_run.ensures.heads (stands g c)
