use Rattle.std.proofs.Common.{◌≡◌, ◌≤◌, All}
use Rattle.verdict_tests.proofs.tests.small.doubly.Given as goal

abbrev pub invariant-loop-x : goal.invariant-loop-x
invariant-loop-x l = (l.g.left ≡ l.xs) × (l.g.right ≡ l.ys) × All (λ (x, y). (1 ≤ x) × (x ≤ l.xs) × (1 ≤ y) × (y ≤ l.ys)) l.edges
