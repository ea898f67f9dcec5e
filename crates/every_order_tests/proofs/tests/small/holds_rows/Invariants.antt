use Rattle.std.proofs.Common.{ℕ, ◌<◌, List, [], get_or}
use Rattle.column_order.specs.Orders.{Keeps}
use Rattle.pq_tree.specs.Outline.{IsFrontier}
use Rattle.pq_tree.specs.PqTree.{outline}
use Rattle.every_order_tests.proofs.tests.small.holds_rows.Given as goal

abbrev pub invariant-loop-before : goal.invariant-loop-before
invariant-loop-before l = (k : ℕ) → k < l.before → (f : List ℕ) → IsFrontier (outline l.tree) f → Keeps f (get_or l.m.rows k [])
