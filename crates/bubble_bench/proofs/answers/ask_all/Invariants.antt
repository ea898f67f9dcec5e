use Rattle.std.proofs.Common.{◌≡◌, ◌+◌, ◌≤◌}
use Rattle.bubble_pass.specs.Marks.{size_of}
use Rattle.bubble_bench.proofs.answers.ask_all.Given as goal

abbrev pub invariant-loop-before : goal.invariant-loop-before
invariant-loop-before g l =
    (l.arena ≡ l.fn.arena) ×
    (size_of l.work ≡ size_of l.fn.work) ×
    (l.answers.root + (l.answers.inside + l.answers.split) ≤ l.before)
