use Rattle.std.proofs.Common.{◌≡◌, ◌+◌, ◌++◌, [], ◌∷◌, length}
use Rattle.pq_tree.specs.Outline.{leaves_of}
use Rattle.bound_tree.specs.Stretches.{starts, stretches_of}
use Rattle.bound_tree.proofs.Push.{front}
use Rattle.bound_tree.proofs.stretch.+push.Given as goal

abbrev pub invariant-push_trees-loop-tree : goal.invariant-push_trees-loop-tree
invariant-push_trees-loop-tree l =
    record {
      at : l.at ≡ l.fn.from + length (leaves_of (front l.trees l.tree-index));
      starts : l.starts.items ++ l.at ∷ [] ≡ starts l.fn.from (front l.trees l.tree-index);
      all : l.all.items ≡ l.initial.all.items ++ stretches_of l.fn.from (front l.trees l.tree-index);
    }
