use Rattle.std.proofs.Common.{◌≡◌, ◌≤◌, ◌<◌, ◌⊎◌, ℕ, Some, length}
use Rattle.arena_model.specs.declared.Shape.TheVariants.{P, Q}
use Rattle.arena_model.specs.Layout.{shape_at, children_at}
use Rattle.pq_arena.proofs.arena.Arena.has_two_each.Given as goal

abbrev pub invariant-loop-n : goal.invariant-loop-n
invariant-loop-n l = (k : ℕ) → k < l.n → (shape_at l.self k ≡ Some P) ⊎ (shape_at l.self k ≡ Some Q) → 2 ≤ length (children_at l.self k)
