use Rattle.std.proofs.Common.{◌≡◌}
use Rattle.proper_interval.specs.Umbrellas.{closed_to}
use Rattle.proper_interval.proofs.rows.closed_rows.Given as goal

abbrev pub invariant-loop-before : goal.invariant-loop-before
invariant-loop-before l = l.rows ≡ record { columns = l.g.vertices; rows = closed_to l.g l.before }
