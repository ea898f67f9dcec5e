use Rattle.std.proofs.Common.{sum_by}
use Rattle.bubble_pass.specs.Roots.{Descent}
use Rattle.bubble_pass.proofs.chains.Chains.descend.Given as goal

abbrev pub invariant-loop-self : goal.invariant-loop-self
invariant-loop-self g l = Descent l.arena g.leaves l.climber l.fn.self l.self l.fn.top.index l.r.index

abbrev pub decreases-loop-self : goal.decreases-loop-self
decreases-loop-self g l = sum_by (λ n. n) l.self.count.items
