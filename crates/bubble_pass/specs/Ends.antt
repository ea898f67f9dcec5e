-- The beginning and the end of the climb.
use Rattle.std.specs.Prelude.{◌≡◌, ◌≢◌, ◌⊎◌, ℕ, ◌+◌, ◌*◌, ◌≤◌, ◌<◌, List, ◌++◌, Option, Some, None, length}
use Rattle.pq_arena.specs.declared.node.NodeId.{NodeId}
use Rattle.arena_model.specs.declared.Shape.TheVariants.{Leaf, P, Q}
use Rattle.arena_model.specs.ChildLists.{none}
use Rattle.column_order.specs.Orders.{occurs}
use Rattle.arena_model.specs.Layout.{Layout, shape_at, children_at, IsAtOrAbove, IsInUse}
use Rattle.arena_model.specs.ChildLists.{head_or, last_or}
use Rattle.pq_arena.specs.Looks.{node_named}
use Rattle.bubble_pass.specs.declared.climber.Stage.{Stage}
use Rattle.bubble_pass.specs.declared.climber.Stage.TheVariants.{Unseen, Blocked, InRun}
use Rattle.bubble_pass.specs.declared.climber.Climber.{Climber}
use Rattle.bubble_pass.specs.declared.climber.End.{End}
use Rattle.bubble_pass.specs.declared.climber.End.TheVariants.{Node, Run, Apart}
use Rattle.bubble_pass.specs.Climb.{stage, IsSeen, IsOpen}
use Rattle.bubble_pass.specs.Fair.{Fair}
use Rattle.bubble_pass.specs.Moves.{Kept, Ready, blocked_in, InReach}
use Rattle.arena_model.specs.RowLeaves.{Holds}
use Rattle.bubble_pass.specs.Found.{Inside, Split}

-- no node was seen
pub record IsClear (f : Layout) (w : Climber) : Type 0 where
  pub stages : (x : ℕ) → stage w.stages.items x ≡ Unseen
  pub long : length w.stages.items ≡ length f.slots
  pub room : length w.queue.items ≡ length w.stages.items
  pub head : w.head ≡ 0
  pub tail : w.tail ≡ 0
  pub parked : w.parked ≡ 0

-- leaves of the tree, each once
pub record AreLeaves (f : Layout) (row : List ℕ) : Type 0 where
  pub once : (x : ℕ) → occurs row x ≤ 1
  pub used : (x : ℕ) → 1 ≤ occurs row x → IsInUse f x
  pub leaf : (x : ℕ) → 1 ≤ occurs row x → (a : ℕ) × (shape_at f x ≡ Some (Leaf a))
  pub below : (x : ℕ) → 1 ≤ occurs row x → IsAtOrAbove f.slots f.root x
  pub some : (x : ℕ) × (1 ≤ occurs row x)

-- no inner node is without children
pub record IsFull (f : Layout) : Type 0 where
  pub of_p : (n : ℕ) → IsAtOrAbove f.slots f.root n → shape_at f n ≡ Some P → 1 ≤ length (children_at f n)
  pub of_q : (n : ℕ) → IsAtOrAbove f.slots f.root n → shape_at f n ≡ Some Q → 1 ≤ length (children_at f n)

-- while the leaves are queued
pub record IsQueueing (f : Layout) (row : List ℕ) (w : Climber) : Type 0 where
  pub ready : Ready f row w
  pub head : w.head ≡ 0
  pub parked : w.parked ≡ 0
  pub tail : w.tail ≡ length row
  pub rest : (x : ℕ) → occurs row x ≡ 0 → stage w.stages.items x ≡ Unseen

-- where the climb is over
abbrev pub IsOver : Climber → Type 0
IsOver w = (w.head ≡ w.tail) ⊎ ((w.head + 1 ≡ w.tail) × (w.parked ≡ 0))

-- the nodes in the run are ks, inner children of the Q-node q
pub record RunIs (f : Layout) (st : List Stage) (q : ℕ) (us ks vs : List ℕ) : Type 0 where
  pub is_q : shape_at f q ≡ Some Q
  pub kids_are : children_at f q ≡ us ++ (ks ++ vs)
  pub left : 1 ≤ length us
  pub right : 1 ≤ length vs
  pub in_run : (z : ℕ) → 1 ≤ occurs ks z → stage st z ≡ InRun
  pub only : (z : ℕ) → stage st z ≡ InRun → 1 ≤ occurs ks z

-- the run grew to the right, and next is the one behind it
pub record WentRight (f : Layout) (st : List Stage) (q : ℕ) (us ks : List ℕ) (before next : Option NodeId) : Type 0 where
  pub more : List ℕ
  pub vs : List ℕ
  pub run : RunIs f st q us (ks ++ more) vs
  pub at : before ≡ node_named (last_or (ks ++ more) none)
  pub to : next ≡ node_named (head_or vs none)

-- the run grew to the left, and next is the one before it
pub record WentLeft (f : Layout) (st : List Stage) (q : ℕ) (ks vs : List ℕ) (before next : Option NodeId) : Type 0 where
  pub more : List ℕ
  pub us : List ℕ
  pub run : RunIs f st q us (more ++ ks) vs
  pub at : before ≡ node_named (head_or (more ++ ks) none)
  pub to : next ≡ node_named (last_or us none)

-- next stands behind the run, whose last is before
abbrev pub RightOf : (f : Layout) → List Stage → ℕ → List ℕ → List ℕ → List ℕ → Option NodeId → Option NodeId → Type 0
RightOf f st q us ks vs before next = RunIs f st q us ks vs × (before ≡ node_named (last_or ks none)) × (next ≡ node_named (head_or vs none))

-- next stands before the run, whose first is before
abbrev pub LeftOf : (f : Layout) → List Stage → ℕ → List ℕ → List ℕ → List ℕ → Option NodeId → Option NodeId → Type 0
LeftOf f st q us ks vs before next = RunIs f st q us ks vs × (before ≡ node_named (head_or ks none)) × (next ≡ node_named (last_or us none))

-- a run may grow from `before` on towards `next`
pub record CanGrow (f : Layout) (row : List ℕ) (w : Climber) (before : NodeId) (next : Option NodeId) : Type 0 where
  pub kept : Kept f row w
  pub reach : InReach w.stages.items next
  pub q : ℕ
  pub us : List ℕ
  pub ks : List ℕ
  pub vs : List ℕ
  pub side : RightOf f w.stages.items q us ks vs (Some before) next ⊎ LeftOf f w.stages.items q us ks vs (Some before) next

-- a was the climb before
pub record Growing (f : Layout) (row : List ℕ) (a b : Climber) (from before : NodeId) (to next : Option NodeId) (s0 s : ℕ) : Type 0 where
  pub can : CanGrow f row b before next
  pub right : (q : ℕ) (us ks vs : List ℕ) → RightOf f a.stages.items q us ks vs (Some from) to → WentRight f b.stages.items q us ks (Some before) next
  pub left : (q : ℕ) (us ks vs : List ℕ) → LeftOf f a.stages.items q us ks vs (Some from) to → WentLeft f b.stages.items q ks vs (Some before) next
  pub ticks : s + b.parked ≡ s0 + a.parked
  pub head : b.head ≡ a.head
  pub tail : b.tail ≡ a.tail
  pub same : (x : ℕ) → stage b.stages.items x ≢ InRun → stage b.stages.items x ≡ stage a.stages.items x
  pub was : (x : ℕ) → stage b.stages.items x ≡ InRun → (stage a.stages.items x ≡ InRun) ⊎ (stage a.stages.items x ≡ Blocked)

-- the run has grown as far as blocked nodes reach
pub record Grown (f : Layout) (row : List ℕ) (a b : Climber) (from : NodeId) (to : Option NodeId) (s0 s : ℕ) : Type 0 where
  pub before : NodeId
  pub next : Option NodeId
  pub stops : blocked_in b.stages.items next ≡ None
  pub growing : Growing f row a b from before to next s0 s

-- what the end says
abbrev pub EndIs : Layout → List ℕ → End → Type 0
EndIs f row (Node r) = Holds f row r.index
EndIs f row Run = Inside f row
EndIs f row Apart = Split f row

-- some node has a turn yet
pub record GoesOn (w : Climber) : Type 0 where
  pub some : w.head < w.tail
  pub more : w.head + 1 ≡ w.tail → w.parked ≢ 0

-- the state of the climb, s0 being the ticks at its start
pub record Climbed (f : Layout) (row : List ℕ) (w : Climber) (s0 s : ℕ) : Type 0 where
  pub ready : Ready f row w
  pub ticks : s + w.parked ≤ s0 + 2 * w.head
  pub fair : (r : ℕ) → Holds f row r → Fair f r w

-- what the end says of the open nodes that there were
abbrev pub IsFlat : Layout → Climber → End → Type 0
IsFlat f w Apart = Unit {0}
IsFlat f w (Node r) = (y n : ℕ) → IsOpen (stage w.stages.items y) → IsOpen (stage w.stages.items n) → IsAtOrAbove f.slots n y → n ≡ y
IsFlat f w Run = (y n : ℕ) → IsOpen (stage w.stages.items y) → IsOpen (stage w.stages.items n) → IsAtOrAbove f.slots n y → n ≡ y

-- the open nodes at the end: one alone, or those in one run
pub record OnlyOpen (f : Layout) (w : Climber) (r : ℕ) : Type 0 where
  pub only : (y : ℕ) → IsOpen (stage w.stages.items y) → y ≡ r
  pub clear : (y : ℕ) → stage w.stages.items y ≢ InRun
  pub seen : IsSeen (stage w.stages.items r)

-- all open nodes are in one run
pub record OnlyRun (f : Layout) (row : List ℕ) (w : Climber) : Type 0 where
  pub inside : Inside f row
  pub run : RunIs f w.stages.items inside.q inside.us inside.ks inside.vs
  pub only : (y : ℕ) → IsOpen (stage w.stages.items y) → stage w.stages.items y ≡ InRun

-- the open nodes at the end, by the answer
abbrev pub LeftOpen : Layout → List ℕ → Climber → End → Type 0
LeftOpen f row w Apart = Unit {0}
LeftOpen f row w (Node r) = OnlyOpen f w r.index
LeftOpen f row w Run = OnlyRun f row w

-- an answer that bounds the turns
abbrev pub IsFound : End → Type 0
IsFound Apart = ⊥
IsFound (Node r) = Unit {0}
IsFound Run = Unit {0}
