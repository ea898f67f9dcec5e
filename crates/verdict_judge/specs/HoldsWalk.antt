-- The nodes of a tree that split a row.
use Rattle.std.specs.Prelude.{◌≡◌, ◌↔◌, IsFalse, ℕ, ◌+◌, Bool, true, false, not, ◌||◌, ◌&&◌, nat_le, if◌then◌else◌, List, [], ◌∷◌}
use Rattle.column_order.specs.Orders.{has, Keeps}
use Rattle.pq_tree.specs.Outline.{Outline, Forest, leaf, p_node, q_node, no_tree, tree_and, leaves, leaves_of, IsFrontier}
use Rattle.pq_tree.specs.Nodes.{meets}
use Rattle.pq_tree.specs.Proper.{IsProper}
use Rattle.verdict_judge.specs.declared.holds.Children.{Children}
use Rattle.verdict_judge.specs.declared.holds.LineSoFar.{LineSoFar}
use Rattle.verdict_judge.specs.declared.holds.LineSoFar.TheVariants.{Before, Whole, Ended, Gapped}
use Rattle.verdict_judge.specs.declared.holds.Share.{Share}

-- whether the row misses one of the columns
abbrev pub misses : List ℕ → List ℕ → Bool
misses row [] = false
misses row (a ∷ xs) = not (has row a) || misses row xs

-- the number of trees of which the row has a column
abbrev pub meeting : List ℕ → Forest → ℕ
meeting row no_tree = 0
meeting row (tree_and t ts) = (if meets row (leaves t) then 1 else 0) + meeting row ts

-- whether, from left to right, the row misses a column of a tree and has one of the same tree or of a later one
abbrev pub resumes : List ℕ → Forest → Bool
resumes row no_tree = false
resumes row (tree_and t ts) =
    (if misses row (leaves t) then meets row (leaves t) || meets row (leaves_of ts) else resumes row ts)

-- whether the row has columns of two trees, and misses a column of one of the two or of a tree between them
abbrev pub is_gapped : List ℕ → Forest → Bool
is_gapped row no_tree = false
is_gapped row (tree_and t ts) =
    (if meets row (leaves t)
    then (if misses row (leaves t) then meets row (leaves_of ts) else resumes row ts)
    else is_gapped row ts)

-- Whether a node of the tree splits the row. A P-node splits it where the row has columns of two or more of its children
-- and misses a column of it; a Q-node where its children are gapped.
unfoldable mutual
  pub is_split : List ℕ → Outline → Bool
  is_split row (leaf a) = false
  is_split row (p_node ts) = are_split row ts || (nat_le 2 (meeting row ts) && misses row (leaves_of ts))
  is_split row (q_node ts) = are_split row ts || is_gapped row ts

  -- whether a node of one of the trees splits the row
  pub are_split : List ℕ → Forest → Bool
  are_split row no_tree = false
  are_split row (tree_and t ts) = is_split row t || are_split row ts

-- every frontier of a proper tree keeps a row exactly where no node of the tree splits it
abbrev pub SplitLaw : Type 0
SplitLaw = (c : ℕ) (t : Outline) (row : List ℕ) → IsProper c t → ((o : List ℕ) → IsFrontier t o → Keeps o row) ↔ IsFalse (is_split row t)

-- the share says what the row has of the tree
pub record IsShare (row : List ℕ) (t : Outline) (s : Share) : Type 0 where
  pub meets_is : s.meets ≡ meets row (leaves t)
  pub misses_is : s.misses ≡ misses row (leaves t)
  pub split_is : s.split ≡ is_split row t

-- whether trees are gapped, where the first ones stand as the line says and these are the rest
abbrev pub gapped_behind : List ℕ → LineSoFar → Forest → Bool
gapped_behind row Before ts = is_gapped row ts
gapped_behind row Whole ts = resumes row ts
gapped_behind row Ended ts = meets row (leaves_of ts)
gapped_behind row Gapped ts = true

-- what the row has of all the trees follows from the sum, which speaks of the first ones, and from the rest of the trees
pub record IsSum (row : List ℕ) (all rest : Forest) (s : Children) : Type 0 where
  pub meeting_is : meeting row all ≡ s.meeting + meeting row rest
  pub misses_is : misses row (leaves_of all) ≡ (s.misses || misses row (leaves_of rest))
  pub split_is : are_split row all ≡ (s.split || are_split row rest)
  pub gapped_is : is_gapped row all ≡ gapped_behind row s.line rest
