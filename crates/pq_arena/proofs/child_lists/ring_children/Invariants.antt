use Rattle.pq_arena.specs.Wiring.{links}
use Rattle.pq_arena.proofs.Listed.{IsRingListed}
use Rattle.pq_arena.proofs.child_lists.ring_children.Given as goal

abbrev pub invariant-loop : goal.invariant-loop
invariant-loop l = IsRingListed (links l.nodes.items) l.count l.first l.children.items l.child l.counter
