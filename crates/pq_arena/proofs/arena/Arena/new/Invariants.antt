use Rattle.std.proofs.Common.{◌+◌, ◌-◌}
use Rattle.pq_arena.specs.Start.{size}
use Rattle.pq_arena.specs.StandsFor.{StandsFor}
use Rattle.pq_arena.specs.Wiring.{links, heads}
use Rattle.pq_arena.proofs.Starting.{grown_layout}
use Rattle.pq_arena.proofs.arena.Arena.new.Given as goal

abbrev pub invariant-loop-i : goal.invariant-loop-i
invariant-loop-i l = StandsFor (links l.nodes.items) (heads l.nodes.items) l.c (l.c + 1) (size l.c - (l.c + 1)) l.c (grown_layout l.c l.i)
