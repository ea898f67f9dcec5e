-- What is known once the labels below the pertinent root are there.
use Rattle.std.specs.Prelude.{◌≡◌, ℕ, List, length}
use Rattle.row_model.specs.Rows.{IsRow}
use Rattle.arena_model.specs.Layout.{Layout, IsInUse, IsLayout}
use Rattle.arena_model.specs.NamedTree.{IsOneTree, HasTwoEach}
use Rattle.pq_arena.specs.RowNodes.{column_leaves}
use Rattle.bubble_pass.specs.Marks.{Marks, size_of}
use Rattle.bubble_pass.specs.Pass.{AreMarked}

-- one tree, and the marks of a row below its pertinent root q
pub record IsGround (f : Layout) (v : Marks) (row : List ℕ) (q : ℕ) : Type 0 where
  pub layout : IsLayout f
  pub one : IsOneTree f
  pub two : HasTwoEach f
  pub is_row : IsRow f.columns row
  pub room : size_of v ≡ length f.slots
  pub used : IsInUse f q
  pub marked : AreMarked f (column_leaves row) v q
