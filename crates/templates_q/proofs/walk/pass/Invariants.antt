use Rattle.std.proofs.Common.{◌≡◌, ℕ, ◌+◌, ◌-◌, List, length}
use Rattle.templates_q.specs.Walk.{IsChildGap, IsPassed}
use Rattle.templates_q.proofs.walk.pass.Given as goal

abbrev pub invariant-loop-x : goal.invariant-loop-x
invariant-loop-x g l =
    (l.steps ≡ l.initial.steps + l.count) ×
    ((q : ℕ) (us vs : List ℕ) → IsChildGap l.arena q us vs l.fn.from → IsPassed l.wanted l.arena l.work q us vs (record { count = l.count; gap = l.gap }))

abbrev pub decreases-loop-x : goal.decreases-loop-x
decreases-loop-x g l = length l.arena.slots - l.count
