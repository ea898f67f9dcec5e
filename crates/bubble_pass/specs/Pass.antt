-- What the bubble pass finds and leaves.
use Rattle.std.specs.Prelude.{◌≡◌, ◌≢◌, ℕ, ◌≤◌, ◌<◌, true, false, List, sum_by, length, slice_index_or}
use Rattle.pq_arena.specs.declared.node.NodeId.{NodeId}
use Rattle.arena_model.specs.ChildLists.{none}
use Rattle.column_order.specs.Orders.{occurs}
use Rattle.arena_model.specs.Layout.{Layout, children_at, IsAtOrAbove}
use Rattle.bubble_pass.specs.declared.labels.Label.TheVariants.{Empty}
use Rattle.bubble_pass.specs.declared.tables.Found.{Found}
use Rattle.bubble_pass.specs.declared.tables.Found.TheVariants.{Root, Inside, Split}
use Rattle.pq_arena.specs.RowNodes.{indices}
use Rattle.arena_model.specs.RowLeaves.{Holds}
use Rattle.bubble_pass.specs.Found.{Inside as IsInside, Split as IsSplit}
use Rattle.bubble_pass.specs.Sweep.{IsRight, full_one, partial_one}
use Rattle.bubble_pass.specs.Marks.{Marks, label_at, fulls_at, partials_at, IsChain, AreBlank}

-- r holds the row, and each node that does is r or above it
pub record IsPertinentNode (f : Layout) (row : List ℕ) (r : ℕ) : Type 0 where
  pub holds : Holds f row r
  pub least : (n : ℕ) → Holds f row n → IsAtOrAbove f.slots n r

-- the counts and the chain of n tell exactly its children with a label
pub record IsRightAt (f : Layout) (w : Marks) (n : ℕ) : Type 0 where
  pub chain : List NodeId
  pub is : IsChain w n chain
  pub once : (k : ℕ) → occurs (indices chain) k ≤ 1
  pub child : (k : ℕ) → 1 ≤ occurs (indices chain) k → 1 ≤ occurs (children_at f n) k
  pub labelled : (k : ℕ) → 1 ≤ occurs (indices chain) k → label_at w k ≢ Empty
  pub all : (k : ℕ) → 1 ≤ occurs (children_at f n) k → label_at w k ≢ Empty → 1 ≤ occurs (indices chain) k
  pub full : fulls_at w n ≡ sum_by (λ k. full_one (label_at w k)) (children_at f n)
  pub partial : partials_at w n ≡ sum_by (λ k. partial_one (label_at w k)) (children_at f n)

-- the node at this place of the list
abbrev pub node_in : Marks → ℕ → ℕ
node_in w i = slice_index_or w.nodes i none

-- the marks of a pass with the pertinent root q; nothing is said of the label of q itself
pub record AreMarked (f : Layout) (row : List ℕ) (w : Marks) (q : ℕ) : Type 0 where
  pub right : (n : ℕ) → IsAtOrAbove f.slots q n → n ≢ q → IsRight f row n (label_at w n)
  pub outside : (n : ℕ) → (IsAtOrAbove f.slots q n → ⊥) → label_at w n ≡ Empty
  pub listed : (n : ℕ) → 1 ≤ occurs w.nodes n → label_at w n ≢ Empty
  pub all : (n : ℕ) → label_at w n ≢ Empty → 1 ≤ occurs w.nodes n
  pub once : (n : ℕ) → occurs w.nodes n ≤ 1
  pub order : (i k : ℕ) → i < length w.nodes → 1 ≤ occurs (children_at f (node_in w i)) k → label_at w k ≢ Empty → (j : ℕ) × (j < i) × (node_in w j ≡ k)
  pub chains : (n : ℕ) → label_at w n ≢ Empty → IsRightAt f w n

-- r is the pertinent root, no run of inner children holds the row, and the marks are those below r and of r
pub record FoundRoot (f : Layout) (row : List ℕ) (w : Marks) (r : ℕ) : Type 0 where
  pub root : IsPertinentNode f row r
  pub no_run : IsInside f row → ⊥
  pub marked : AreMarked f row w r
  pub top : IsRight f row r (label_at w r)
  pub outside : w.inside ≡ false

-- a run of inner children of a Q-node holds the row, and the marks are those below that Q-node, which has none
pub record FoundInside (f : Layout) (row : List ℕ) (w : Marks) : Type 0 where
  pub run : IsInside f row
  pub marked : AreMarked f row w run.q
  pub top : label_at w run.q ≡ Empty
  pub inside : w.inside ≡ true

-- no order of the leaves keeps the row, and there are no marks
pub record FoundSplit (f : Layout) (row : List ℕ) (w : Marks) : Type 0 where
  pub apart : IsSplit f row
  pub blank : AreBlank w

-- what each answer says
abbrev pub IsAnswer : Layout → List ℕ → Marks → Found → Type 0
IsAnswer f row w (Root r) = FoundRoot f row w r.index
IsAnswer f row w Inside = FoundInside f row w
IsAnswer f row w Split = FoundSplit f row w

-- the answers after which the climb was fair
abbrev pub IsHeld : Found → Type 0
IsHeld (Root r) = Unit {0}
IsHeld Inside = Unit {0}
IsHeld Split = ⊥
