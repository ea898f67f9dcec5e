use Rattle.std.proofs.Common.{length}
use Rattle.pq_arena.specs.Wiring.{links}
use Rattle.pq_arena.proofs.Listed.{IsRunListed}
use Rattle.pq_arena.proofs.child_lists.run_children.Given as goal

abbrev pub invariant-loop : goal.invariant-loop
invariant-loop l = IsRunListed (links l.nodes.items) (length l.nodes.items) l.first l.children.items l.before l.child l.counter
