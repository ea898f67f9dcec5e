use Rattle.std.proofs.Common.{◌≤◌, inl, inr, arith}
use Rattle.std.proofs.lemmas.Grind.{common_steps}
use Rattle.open_gaps.proofs.gap.cover.Goals as goal

pub returns-clause-outside : goal.returns-clause-outside
returns-clause-outside c =
    λ q d h.
    elim h [
      | inl l ↦ c.loop-q.invariant.outside q d (inl l)
      | inr r ↦
          let upper : c.loop-q.q ≤ q = omega (arith, r, c.loop-q.auto.q-end, c.requires.0) in
          c.loop-q.invariant.outside q d (inr upper)
    ]

pub loop-q-preserved : goal.loop-q-preserved
loop-q-preserved c = grind (arith, common_steps)
