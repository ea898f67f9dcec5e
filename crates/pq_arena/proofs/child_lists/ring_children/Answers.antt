use Rattle.std.proofs.Common.{ap}
use Rattle.pq_arena.specs.declared.node.Link.{Link}
use Rattle.pq_arena.specs.Wiring.{links}
use Rattle.pq_arena.proofs.Listed.{ring_at, ring_next}
use Rattle.pq_arena.proofs.child_lists.ring_children.Goals as goal

pub link_at-child-requires : goal.link_at-child-requires
link_at-child-requires c = c.requires c.loop.child
    (ring_at (links c.args.nodes.now.items) c.args.count c.args.first c.loop.children.items c.loop.child c.loop.counter c.loop.invariant c.loop-test.true)

pub loop-preserved : goal.loop-preserved
loop-preserved c =
    ring_next (links c.args.nodes.now.items) c.args.count c.args.first c.loop.children.items c.push.new.self.items c.loop.child c.link_at-child.result.near0 c.loop.counter
    c.loop.invariant c.loop-test.true c.in_ok-push.ensures.items (ap (λ (l : Link). l.near0) c.link_at-child.ensures)
