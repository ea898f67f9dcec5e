use Rattle.std.proofs.Common.{◌≡◌, ℕ, ◌≤◌, Some, sym, subst}
use Rattle.pq_arena.specs.declared.arena.Arena.TheInside.{Inside}
use Rattle.arena_model.specs.ChildLists.{without}
use Rattle.arena_model.specs.Layout.{Layout, shape_at, children_at, with_children}
use Rattle.column_order.specs.Orders.{occurs}
use Rattle.pq_arena.proofs.Closing.{opened, is_kept, is_layout}
use Rattle.pq_arena.proofs.Detach.{detach_stands, ring_bounds}
use Rattle.pq_arena.specs.StandsFor.{StandsFor}
use Rattle.pq_arena.specs.Wiring.{links, heads, unringed}
use Rattle.arena_model.specs.declared.Shape.TheVariants.{P}
use Rattle.pq_arena.proofs.arena.Arena.detach.Goals as goal

pub leave_ring-requires : goal.leave_ring-requires
leave_ring-requires g c = let r = c.requires in
    ring_bounds _ _ _ _ _ _ c.args.self.now r.0 c.args.n.index (opened c.self.inside c.args.self.now c.self.view_is c.self.invariant) r.1 r.2

inside_after : (g : _) → goal.After-leave_ring g → Inside
inside_after g c = record { nodes = c.leave_ring.new.nodes; root = c.self.inside.root; spare = c.self.inside.spare; count = c.self.inside.count; columns = c.self.inside.columns }

stands_after : (g : _) (c : goal.After-leave_ring g) (p : ℕ) → shape_at c.args.self.now p ≡ Some P → 1 ≤ occurs (children_at c.args.self.now p) c.args.n.index →
    StandsFor (links c.leave_ring.new.nodes.items) (heads c.leave_ring.new.nodes.items) c.self.inside.root c.self.inside.spare c.self.inside.count c.self.inside.columns
    (with_children c.args.self.now p (without (children_at c.args.self.now p) c.args.n.index))
stands_after g c p sh o =
    let f : Layout = with_children c.args.self.now p (without (children_at c.args.self.now p) c.args.n.index) in
    subst (λ ls. StandsFor ls (heads c.leave_ring.new.nodes.items) c.self.inside.root c.self.inside.spare c.self.inside.count c.self.inside.columns f)
    (sym c.leave_ring.ensures.links)
    (subst (λ hs. StandsFor (unringed (links c.self.inside.nodes.items) c.args.n.index) hs c.self.inside.root c.self.inside.spare c.self.inside.count c.self.inside.columns f)
    (sym c.leave_ring.ensures.heads)
    (detach_stands _ _ _ _ _ _ c.args.self.now p c.args.n.index (opened c.self.inside c.args.self.now c.self.view_is c.self.invariant) sh o))

pub invariant_of-self : goal.invariant_of-self
invariant_of-self g c = let r = c.requires in is_kept _ _ (stands_after g c r.0 r.1 r.2)

pub returns-clause-changed : goal.returns-clause-changed
unfolding inside_after
returns-clause-changed g c = λ p sh o. is_layout (inside_after g c) _ (stands_after g c p sh o)
