-- What one row does to the arena.
use Rattle.std.specs.Prelude.{◌≡◌, ◌≢◌, ℕ, ◌≤◌, List, [], length}
use Rattle.row_model.specs.Rows.{IsRow}
use Rattle.pq_tree.specs.Proper.{IsProper}
use Rattle.tree_theory.specs.Tied.{IsTied}
use Rattle.tree_theory.specs.Reduced.{IsReduced}
use Rattle.tree_theory.specs.Refused.{IsRefused}
use Rattle.tree_theory.specs.declared.reducer.Step.{Step}
use Rattle.tree_theory.specs.declared.reducer.Step.TheVariants.{Taken, Refused}
use Rattle.arena_model.specs.Layout.{Layout}
use Rattle.arena_model.specs.NamedTree.{IsOneTree, outline_at}
use Rattle.pq_arena.specs.RowNodes.{column_leaves}
use Rattle.full_pass.specs.Answer.{IsBetween}
use Rattle.full_pass.specs.declared.settled.End.{End}
use Rattle.bubble_pass.specs.Marks.{Marks}
use Rattle.bubble_pass.specs.Pass.{FoundRoot, FoundInside}
use Rattle.row_reduce.specs.Ground.{IsGround}
use Rattle.row_reduce.specs.InPlace.{IsInPlace}

-- the row is taken, and the tree is reduced in place; or it is refused, and the arena stays
abbrev pub IsOutcome : List ℕ → Layout → Layout → Step → Type 0
IsOutcome row f g Taken =
    IsReduced row (outline_at f) (outline_at g) × IsOneTree g × (g.columns ≡ f.columns) × IsInPlace (column_leaves row) f g
IsOutcome row f g Refused = IsRefused row (outline_at f) × (g ≡ f)

-- what row k of the rows over c columns asks of the arena: one tree over these columns, tied to some rows
pub record CanTakeRow (f : Layout) (c : ℕ) (rows : List (List ℕ)) (k : ℕ) : Type 0 where
  pub one : IsOneTree f
  pub columns : f.columns ≡ c
  pub proper : IsProper c (outline_at f)
  pub within : (1 ≤ k) × (k ≤ length rows)
  pub before : List (List ℕ)
  pub tied : IsTied c before (outline_at f)

-- the pass has found the pertinent root q
pub record AtFoundRoot (f : Layout) (v : Marks) (row : List ℕ) (q : ℕ) : Type 0 where
  pub ground : IsGround f v row q
  pub found : FoundRoot f (column_leaves row) v q
  pub some : row ≢ []

-- the pass has found a run of inner children of a Q-node
pub record AtFoundInside (f : Layout) (v : Marks) (row : List ℕ) : Type 0 where
  pub found : FoundInside f (column_leaves row) v
  pub ground : IsGround f v row found.run.q
  pub some : row ≢ []

-- the full pass has found a run of children of a Q-node, and some children of the P-node beside each end of it
pub record AtFoundBetween (f : Layout) (row : List ℕ) (d : End) (members : List ℕ) (e : End) (others : List ℕ) : Type 0 where
  pub is_row : IsRow f.columns row
  pub some : row ≢ []
  pub found : IsBetween f (column_leaves row) d.node.index d.beside.index members e.node.index e.beside.index others
