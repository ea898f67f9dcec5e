use Rattle.std.proofs.Common.{◌≡◌, ◌+◌, ◌*◌}
use Rattle.arena_model.specs.NamedTree.{IsOneTree, HasTwoEach}
use Rattle.bubble_pass.specs.Marks.{size_of}
use Rattle.bubble_bench.proofs.answers_of.Given as goal

abbrev pub invariant-loop : goal.invariant-loop
invariant-loop g l =
    IsOneTree l.arena ×
    HasTwoEach l.arena ×
    (l.arena ≡ l.initial.arena) ×
    (size_of l.work ≡ 2 * l.arena.columns + 4)
