-- Trees that differ by the order of a P-node's children and the direction of a Q-node's.
use Rattle.std.specs.Prelude.{◌≡◌, ◌⊎◌, List, [], ◌∷◌, reverse, IsPermutation}
use Rattle.pq_tree.specs.Outline.{Outline, Forest, leaf, p_node, q_node, no_tree, tree_and}
use Rattle.pq_tree.specs.Proper.{forest}

-- u is had from t by permuting the children of any P-nodes and reversing those of any Q-nodes
abbrev mutual
  pub IsEquivalent : Outline → Outline → Type 0
  IsEquivalent (leaf a) u = u ≡ leaf a
  IsEquivalent (p_node ts) u =
      (us : List Outline) × (vs : List Outline) × AreEquivalent ts us × IsPermutation us vs × (u ≡ p_node (forest vs))
  IsEquivalent (q_node ts) u =
      (us : List Outline) × AreEquivalent ts us × ((u ≡ q_node (forest us)) ⊎ (u ≡ q_node (forest (reverse us))))

  -- each tree of us is had so from the tree of ts at its place
  pub AreEquivalent : Forest → List Outline → Type 0
  AreEquivalent no_tree [] = Unit {0}
  AreEquivalent no_tree (u ∷ us) = ⊥
  AreEquivalent (tree_and t ts) [] = ⊥
  AreEquivalent (tree_and t ts) (u ∷ us) = IsEquivalent t u × AreEquivalent ts us
