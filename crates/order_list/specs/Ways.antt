-- Ways down a tree to the leaf with which it begins.
use Rattle.std.specs.Prelude.{◌≡◌, ◌⊎◌, ℕ, ◌+◌, ◌<◌, Bool, true, false, List, [], ◌∷◌, reverse, length}
use Rattle.pq_tree.specs.Outline.{Outline, leaf, p_node, q_node}
use Rattle.pq_tree.specs.Forests.{trees}
use Rattle.order_list.specs.Reading.{CanBegin, tree_at}

-- the places lead down from the tree to the leaf of the column: at a P-node to any child, at a Q-node to its first or its
-- last
abbrev pub Leads : List ℕ → Outline → ℕ → Type 0
Leads [] (leaf a) x = a ≡ x
Leads [] (p_node ts) x = ⊥
Leads [] (q_node ts) x = ⊥
Leads (k ∷ ks) (leaf a) x = ⊥
Leads (k ∷ ks) (p_node ts) x = (k < length (trees ts)) × Leads ks (tree_at (trees ts) k) x
Leads (k ∷ ks) (q_node ts) x = ((k ≡ 0) ⊎ (k + 1 ≡ length (trees ts))) × Leads ks (tree_at (trees ts) k) x

-- the places, from the last to the first, lead to the column, or there are none, and the tree cannot begin with it
abbrev pub IsWay : Outline → ℕ → Bool → List ℕ → Type 0
IsWay t x true ks = Leads (reverse ks) t x
IsWay t x false ks = (ks ≡ []) × (CanBegin t x → ⊥)
