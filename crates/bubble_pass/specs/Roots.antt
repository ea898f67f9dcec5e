-- The smallest node that holds the row.
use Rattle.std.specs.Prelude.{◌≡◌, ℕ, ◌≤◌, ◌<◌, List, [], length, take}
use Rattle.column_order.specs.Orders.{occurs}
use Rattle.arena_model.specs.Layout.{Layout, children_at, IsAtOrAbove}
use Rattle.bubble_pass.specs.declared.climber.Climber.{Climber}
use Rattle.bubble_pass.specs.declared.chains.Chains.{Chains}
use Rattle.pq_arena.specs.RowNodes.{indices}
use Rattle.bubble_pass.specs.Climb.{stage, IsOpen}
use Rattle.bubble_pass.specs.Moves.{Kept}
use Rattle.arena_model.specs.RowLeaves.{Holds}
use Rattle.bubble_pass.specs.Chains.{chained, entry, AreLinked, number, OnlyCut}

-- the placed children of m
abbrev pub below : Climber → ℕ → List ℕ
below w m = chained w.stages.items (indices (take w.tail w.queue.items)) m []

-- the chains of r and of the nodes below it are whole
pub record LinkedBelow (f : Layout) (w : Climber) (c : Chains) (r : ℕ) : Type 0 where
  pub chains : (m : ℕ) → IsAtOrAbove f.slots r m → AreLinked c.next.items (entry c.first.items m) (below w m)
  pub counts : (m : ℕ) → IsAtOrAbove f.slots r m → number c.count.items m ≡ length (below w m)
  pub firsts : length c.first.items ≡ length w.stages.items
  pub numbers : length c.count.items ≡ length w.stages.items

-- r holds the row, and no other node than top is open
pub record Descending (f : Layout) (row : List ℕ) (w : Climber) (c : Chains) (top r : ℕ) : Type 0 where
  pub kept : Kept f row w
  pub holds : Holds f row r
  pub only : (y : ℕ) → IsOpen (stage w.stages.items y) → y ≡ top
  pub leads : IsAtOrAbove f.slots top r
  pub linked : LinkedBelow f w c r
  pub inside : r < length w.stages.items

-- on the way down from top, a being the chains at its start
pub record Descent (f : Layout) (row : List ℕ) (w : Climber) (a c : Chains) (top r : ℕ) : Type 0 where
  pub at : Descending f row w c top r
  pub cuts : OnlyCut a c

-- r holds the row, and no child of it does
pub record IsSmallest (f : Layout) (row : List ℕ) (r : ℕ) : Type 0 where
  pub holds : Holds f row r
  pub least : (k : ℕ) → 1 ≤ occurs (children_at f r) k → Holds f row k → ⊥
