use Rattle.std.proofs.Common.{◌≡◌, map}
use Rattle.pq_tree.specs.Outline.{leaf}
use Rattle.pq_tree.specs.Proper.{outline_of, columns}
use Rattle.pq_tree.proofs.PqTree.universal.Given as goal

abbrev pub invariant-loop-i : goal.invariant-loop-i
invariant-loop-i l = map outline_of l.children.items ≡ map leaf (columns l.i)
