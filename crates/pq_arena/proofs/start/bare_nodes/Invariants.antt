use Rattle.std.proofs.Common.{◌≡◌, map}
use Rattle.pq_arena.specs.Start.{numbers, first_head}
use Rattle.pq_arena.specs.Wiring.{links, heads, no_link}
use Rattle.pq_arena.proofs.start.bare_nodes.Given as goal

abbrev pub invariant-loop-i : goal.invariant-loop-i
invariant-loop-i l = (links l.nodes.items ≡ map (λ i. no_link) (numbers l.i)) × (heads l.nodes.items ≡ map (first_head l.c l.used) (numbers l.i))
