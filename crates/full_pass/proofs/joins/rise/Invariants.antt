use Rattle.std.proofs.Common.{ℕ, ◌+◌, ◌*◌, ◌≤◌, List, ◌∷◌}
use Rattle.full_pass.specs.Entries.{is_full, hits}
use Rattle.full_pass.specs.Passing.{AreLinked, Pass}
use Rattle.full_pass.proofs.joins.rise.Given as goal

abbrev pub invariant-loop-added : goal.invariant-loop-added
invariant-loop-added g l = record {
  linked : AreLinked l.arena l.entries;
  pass : (row waiting : List ℕ) → Pass l.arena row (is_full l.fn.entries) (hits l.fn.entries) (l.fn.x.index ∷ waiting) l.fn.parts →
      Pass l.arena row (is_full l.entries) (hits l.entries) (l.x.index ∷ waiting) l.parts;
  ticks : l.steps + 2 * l.parts ≤ l.fn.steps + 2 * l.fn.parts;
}

abbrev pub decreases-loop-added : goal.decreases-loop-added
decreases-loop-added g l = l.parts
