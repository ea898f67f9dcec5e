use Rattle.std.proofs.Common.{ℕ, ◌<◌}
use Rattle.arena_model.specs.Layout.{StandsAlone}
use Rattle.pq_arena.proofs.arena.Arena.is_one_tree.Given as goal

abbrev pub invariant-loop-n : goal.invariant-loop-n
invariant-loop-n l = (k : ℕ) → k < l.n → StandsAlone l.self k → ⊥
