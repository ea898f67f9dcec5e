use Rattle.pq_tree.proofs.Shown.{outline_of-Leaf}
use Rattle.pq_tree.proofs.Universal.{whole_one}
use Rattle.tree_tests.proofs.trees.a_tree_of_one_leaf.Goals as goal

pub from_tree-tree-requires : goal.from_tree-tree-requires
from_tree-tree-requires g c = rw (c.leaf.ensures, outline_of-Leaf) whole_one
