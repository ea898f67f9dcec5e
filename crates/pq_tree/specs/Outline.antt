-- PQ-trees as the mathematics has them, and their frontiers.
use Rattle.std.specs.Prelude.{◌≡◌, ◌⊎◌, ℕ, List, [], ◌∷◌, ◌++◌, reverse, IsPermutation}
use Rattle.std.specs.List.{concat}

-- a tree is a leaf with a column, or a P-node or a Q-node over a list of trees
mutual
  pub data Outline : Type 0 where
    leaf : ℕ → Outline
    p_node : Forest → Outline
    q_node : Forest → Outline

  -- a list of trees
  pub data Forest : Type 0 where
    no_tree : Forest
    tree_and : Outline → Forest → Forest

-- the columns of a tree from left to right as it stands
abbrev mutual
  pub leaves : Outline → List ℕ
  leaves (leaf a) = a ∷ []
  leaves (p_node ts) = leaves_of ts
  leaves (q_node ts) = leaves_of ts

  -- the columns of some trees, one tree after another
  pub leaves_of : Forest → List ℕ
  leaves_of no_tree = []
  leaves_of (tree_and t ts) = leaves t ++ leaves_of ts

-- The frontier of a leaf is the list of its column. A frontier of a P-node is a join of one frontier of each child, the
-- children taken in any order; one of a Q-node is such a join of the children forwards or backwards.
abbrev mutual
  pub IsFrontier : Outline → List ℕ → Type 0
  IsFrontier (leaf a) f = f ≡ a ∷ []
  IsFrontier (p_node ts) f =
      (fs : List (List ℕ)) × (gs : List (List ℕ)) × AreFrontiers ts fs × IsPermutation fs gs × (f ≡ concat gs)
  IsFrontier (q_node ts) f = (fs : List (List ℕ)) × AreFrontiers ts fs × ((f ≡ concat fs) ⊎ (f ≡ concat (reverse fs)))

  -- one frontier of each tree, in the order of the trees
  pub AreFrontiers : Forest → List (List ℕ) → Type 0
  AreFrontiers no_tree [] = Unit {0}
  AreFrontiers no_tree (f ∷ fs) = ⊥
  AreFrontiers (tree_and t ts) [] = ⊥
  AreFrontiers (tree_and t ts) (f ∷ fs) = IsFrontier t f × AreFrontiers ts fs
