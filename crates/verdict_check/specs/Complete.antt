-- Trees that stand for every order, by where their columns stand in a line and by classes of pairs of columns.
use Rattle.std.specs.Prelude.{◌≡◌, ◌⊎◌, ℕ, ◌≤◌, ◌<◌, List, ◌++◌, length, slice_index}
use Rattle.row_model.specs.declared.graph.Pair.{Pair}
use Rattle.row_model.specs.Graph.{pair, Evenly}
use Rattle.pq_tree.specs.Outline.{Outline, Forest, q_node, leaves}
use Rattle.tree_theory.specs.Tied.{IsNode, IsNodeOf, IsClosed, IsInLine}
use Rattle.odd_cycle.specs.Numbers.{Numbering}
use Rattle.pair_classes.specs.Classes.{TellsClasses}

-- P holds of the walks of even length in whatever rows the classes tell
abbrev pub InRows : Numbering → ((Pair → Pair → Type 0) → Type 0) → Type 0
InRows classes P = (c : ℕ) (rows : List (List ℕ)) → TellsClasses c rows classes → P (Evenly c rows)

-- the columns of each node of the tree stay together in the line, and the children of each of its Q-nodes stand in line
abbrev pub IsComplete : (Pair → Pair → Type 0) → List ℕ → Outline → Type 0
IsComplete R line t =
    ((x : Outline) → IsNode x t → IsClosed R line (leaves x)) × ((ts : Forest) → IsNode (q_node ts) t → IsInLine R ts)

-- so it is with each of the trees
abbrev pub AreComplete : (Pair → Pair → Type 0) → List ℕ → Forest → Type 0
AreComplete R line ts =
    ((x : Outline) → IsNodeOf x ts → IsClosed R line (leaves x)) × ((us : Forest) → IsNodeOf (q_node us) ts → IsInLine R us)

-- the columns stand in the line from this index on, one after another
pub record RunsFrom (line : List ℕ) (start : ℕ) (xs : List ℕ) : Type 0 where
  pub before : List ℕ
  pub after : List ℕ
  pub line_is : line ≡ before ++ (xs ++ after)
  pub start_is : length before ≡ start

-- the index isn't one of those from first to before last
abbrev pub IsOutside : ℕ → ℕ → ℕ → Type 0
IsOutside first last i = (i < first) ⊎ (last ≤ i)

-- the pair of the columns at two indices
abbrev pub pair_at : List ℕ → ℕ → ℕ → Pair
pair_at line x y = pair (slice_index line x) (slice_index line y)
