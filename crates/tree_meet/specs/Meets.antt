-- What two trees share.
use Rattle.std.specs.Prelude.{◌≡◌, ◌↔◌, ⊤, ℕ, ◌+◌, ◌≤◌, List, ◌++◌}
use Rattle.row_model.specs.Rows.{RowList}
use Rattle.row_model.specs.Cycles.{IsOddCycle}
use Rattle.pq_tree.specs.Outline.{Outline, IsFrontier}
use Rattle.pq_tree.specs.Canonical.{IsCanonical}
use Rattle.pq_tree.specs.PqTree.{column_count, outline}
use Rattle.pq_tree.specs.declared.PqTree.{PqTree}
use Rattle.odd_cycle.specs.Short.{IsShort}
use Rattle.row_judge.specs.Costs.{Costs}
use Rattle.tree_meet.specs.TreeRows.{rows_of_tree}
use Rattle.tree_meet.specs.declared.common.Met.{Met}
use Rattle.tree_meet.specs.declared.common.Met.TheVariants.{Tree, Apart}

-- an order that both trees stand for
abbrev pub IsCommon : Outline → Outline → List ℕ → Type 0
IsCommon t u o = IsFrontier t o × IsFrontier u o

-- the rows of the first tree followed by those of the second
abbrev pub joint_rows : ℕ → Outline → Outline → List (List ℕ)
joint_rows c t u = rows_of_tree c t ++ rows_of_tree c u

-- the matrix of these rows
abbrev pub joint_matrix : ℕ → Outline → Outline → RowList
joint_matrix c t u = record { columns = c; rows = joint_rows c t u }

-- a canonical tree over 1 to c whose frontiers are exactly the common ones of two trees
pub record IsMeet (c : ℕ) (t u : Outline) (v : PqTree) : Type 0 where
  pub columns : column_count v ≡ c
  pub canonical : IsCanonical (outline v)
  pub common : (o : List ℕ) → IsFrontier (outline v) o ↔ IsCommon t u o

-- the tree of all common frontiers, of which there is one, or a short odd cycle of the rows of both trees, where
-- there is none
abbrev pub IsMet : ℕ → Outline → Outline → Met → Type 0
IsMet c t u (Tree v) = IsMeet c t u v × ((o : List ℕ) × IsCommon t u o)
IsMet c t u (Apart cycle) = IsOddCycle c (joint_rows c t u) cycle × ((o : List ℕ) → IsCommon t u o → ⊥) × IsShort c cycle

-- a tree comes within the steps of a yes on the matrix, while the count goes from s to n
abbrev pub IsMetWithin : Costs → RowList → ℕ → ℕ → Met → Type 0
IsMetWithin costs m s n (Tree v) = n ≤ s + costs.yes m
IsMetWithin costs m s n (Apart cycle) = ⊤
