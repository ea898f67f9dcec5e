-- The text of a tree.
use Rattle.std.specs.Prelude.{ℕ, List, [], ◌∷◌, ◌++◌}
use Rattle.std.proofs.Common.{zero, suc}
use Rattle.std.specs.Fmt.{decimal}
use Rattle.pq_tree.specs.Outline.{Outline, Forest, leaf, p_node, q_node, no_tree, tree_and}

-- A leaf is its column in decimal. A P-node is its children between round brackets (bytes 40 and 41), a Q-node its children
-- between square ones (91 and 93).
unfoldable mutual
  pub tree_text : Outline → List ℕ
  tree_text (leaf a) = decimal a
  tree_text (p_node ts) = 40 ∷ (forest_text ts ++ 41 ∷ [])
  tree_text (q_node ts) = 91 ∷ (forest_text ts ++ 93 ∷ [])

  -- the trees with one space (byte 32) between them
  pub forest_text : Forest → List ℕ
  forest_text no_tree = []
  forest_text (tree_and t ts) = tree_text t ++ spaced_text ts

  -- the trees with one space before each
  pub spaced_text : Forest → List ℕ
  spaced_text no_tree = []
  spaced_text (tree_and t ts) = 32 ∷ (tree_text t ++ spaced_text ts)

-- what stands before the tree of an index, counted from 0, among the children of a node
abbrev pub gap : ℕ → List ℕ
gap zero = []
gap (suc i) = 32 ∷ []
