use Rattle.std.proofs.Common.{ℕ, ◌+◌, ◌*◌, ◌≤◌, List, ◌∷◌}
use Rattle.full_pass.specs.Tallies.{full_in, hits_in}
use Rattle.full_pass.specs.Passing.{AreCounted, Pass}
use Rattle.full_pass.proofs.count.climb.Given as goal

abbrev pub invariant-loop-settled : goal.invariant-loop-settled
invariant-loop-settled g l = record {
  counted : AreCounted l.arena l.labels l.tallies l.fn.stamp;
  pass : (row waiting : List ℕ) → Pass l.arena row (full_in l.fn.labels l.fn.stamp) (hits_in l.fn.tallies l.fn.stamp) (l.fn.x.index ∷ waiting) l.fn.parts →
      Pass l.arena row (full_in l.labels l.fn.stamp) (hits_in l.tallies l.fn.stamp) (l.x.index ∷ waiting) l.parts;
  ticks : l.steps + 2 * l.parts ≤ l.fn.steps + 2 * l.fn.parts;
}

abbrev pub decreases-loop-settled : goal.decreases-loop-settled
decreases-loop-settled g l = l.parts
