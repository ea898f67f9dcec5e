-- The rows that every frontier of a tree keeps.
use Rattle.std.specs.Prelude.{◌≡◌, ◌⊎◌, ◌↔◌, ℕ, List, [], ◌++◌}
use Rattle.column_order.specs.Orders.{has, Keeps}
use Rattle.row_model.specs.Rows.{IsRow}
use Rattle.pq_tree.specs.Outline.{Outline, q_node, leaves, leaves_of, IsFrontier}
use Rattle.pq_tree.specs.Nodes.{IsNode}
use Rattle.pq_tree.specs.Proper.{forest, IsProper}

-- the columns are the leaves of a node of the tree, or the leaves of neighbouring children of one of its Q-nodes
abbrev pub IsStretch : List ℕ → Outline → Type 0
IsStretch xs t =
    ((x : Outline) × IsNode x t × (xs ≡ leaves x)) ⊎
    ((us : List Outline) × (vs : List Outline) × (ws : List Outline) × IsNode (q_node (forest (us ++ (vs ++ ws)))) t × (xs ≡ leaves_of (forest vs)))

-- the row has the columns of a stretch of the tree and no other
abbrev pub IsStretchRow : List ℕ → Outline → Type 0
IsStretchRow row t = (xs : List ℕ) × IsStretch xs t × ((a : ℕ) → has row a ≡ has xs a)

-- Every frontier of a proper tree keeps a row exactly where the row is empty, or has the columns of a node, or those of
-- neighbouring children of a Q-node, and no other.
abbrev pub HoldsLaw : Type 0
HoldsLaw =
    (c : ℕ) (t : Outline) (row : List ℕ) →
    IsProper c t →
    IsRow c row →
    ((o : List ℕ) → IsFrontier t o → Keeps o row) ↔ ((row ≡ []) ⊎ IsStretchRow row t)
