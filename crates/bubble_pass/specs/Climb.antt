-- How far each node has come in the climb, and what the climb keeps.
use Rattle.std.specs.Prelude.{◌≡◌, ◌≢◌, ◌⊎◌, ℕ, ◌+◌, ◌*◌, ◌≤◌, ◌<◌, List, ◌∷◌, ◌++◌, Some, slice_index_or, length, sum_by}
use Rattle.column_order.specs.declared.TheConstants.{COLUMN_BOUND}
use Rattle.pq_arena.specs.declared.node.NodeId.{NodeId}
use Rattle.arena_model.specs.declared.Shape.TheVariants.{Q}
use Rattle.arena_model.specs.ChildLists.{none}
use Rattle.column_order.specs.Orders.{occurs}
use Rattle.arena_model.specs.Layout.{Layout, shape_at, children_at, times_child, IsInUse}
use Rattle.bubble_pass.specs.declared.climber.Stage.{Stage}
use Rattle.bubble_pass.specs.declared.climber.Stage.TheVariants.{Unseen, Queued, Blocked, Top, InRun, Placed}

-- the most nodes that an arena has
abbrev pub most_nodes : ℕ
most_nodes = 2 * COLUMN_BOUND + 4

-- stands in lists for a node that is not there
abbrev pub no_id : NodeId
no_id = record { index = none }

-- the stage of node x
abbrev pub stage : List Stage → ℕ → Stage
stage st x = slice_index_or st x Unseen

-- the node at this place of the queue
abbrev pub at : List NodeId → ℕ → ℕ
at queue i = (slice_index_or queue i no_id).index

-- the node was seen
abbrev pub IsSeen : Stage → Type 0
IsSeen Unseen = ⊥
IsSeen Queued = Unit {0}
IsSeen Blocked = Unit {0}
IsSeen Top = Unit {0}
IsSeen InRun = Unit {0}
IsSeen (Placed m) = Unit {0}

-- it had its turn, and no node above it is known
abbrev pub parked_one : Stage → ℕ
parked_one Unseen = 0
parked_one Queued = 0
parked_one Blocked = 1
parked_one Top = 1
parked_one InRun = 0
parked_one (Placed m) = 0

-- 1 for a node that was not seen, else 0
abbrev pub unseen_one : Stage → ℕ
unseen_one Unseen = 1
unseen_one Queued = 0
unseen_one Blocked = 0
unseen_one Top = 0
unseen_one InRun = 0
unseen_one (Placed m) = 0

-- a leaf of the row is n or below it, and all nodes between know the node above them
pub data Reached (row : List ℕ) (st : List Stage) : ℕ → Type 0 where
  at_leaf : (x : ℕ) → 1 ≤ occurs row x → Reached row st x
  from_child : (k n : ℕ) (m : NodeId) → m.index ≡ n → stage st k ≡ Placed m → Reached row st k → Reached row st n

-- x is a child of a Q-node, and no end child
pub record Inner (f : Layout) (x : ℕ) : Type 0 where
  pub q : ℕ
  pub us : List ℕ
  pub vs : List ℕ
  pub is_q : shape_at f q ≡ Some Q
  pub kids_are : children_at f q ≡ us ++ x ∷ vs
  pub left : 1 ≤ length us
  pub right : 1 ≤ length vs

-- x and y are neighbours among the children of a Q-node
pub data Beside (f : Layout) (x y : ℕ) : Type 0 where
  before : (q : ℕ) (us vs : List ℕ) → shape_at f q ≡ Some Q → children_at f q ≡ us ++ x ∷ y ∷ vs → Beside f x y
  behind : (q : ℕ) (us vs : List ℕ) → shape_at f q ≡ Some Q → children_at f q ≡ us ++ y ∷ x ∷ vs → Beside f x y

-- some node that is placed under m is no inner child of a Q-node
pub record Entered (f : Layout) (st : List Stage) (m : ℕ) : Type 0 where
  pub node : ℕ
  pub over : NodeId
  pub placed : stage st node ≡ Placed over
  pub under : over.index ≡ m
  pub outer : Inner f node → ⊥

-- what the climb keeps of the stages: of each seen node it is known how it came to be seen
pub record Climb (f : Layout) (row : List ℕ) (st : List Stage) : Type 0 where
  pub leaves : (x : ℕ) → 1 ≤ occurs row x → IsSeen (stage st x)
  pub used : (x : ℕ) → IsSeen (stage st x) → IsInUse f x
  pub above : (x : ℕ) (m : NodeId) → stage st x ≡ Placed m → (1 ≤ occurs (children_at f m.index) x) × IsSeen (stage st m.index)
  pub tops : (x : ℕ) → stage st x ≡ Top → times_child f.slots x ≡ 0
  pub inner : (x : ℕ) → stage st x ≡ Blocked → Inner f x
  pub reached : (x : ℕ) → IsSeen (stage st x) → Reached row st x
  pub entered : (x : ℕ) (m : NodeId) → stage st x ≡ Placed m → Entered f st m.index

-- no blocked node stands beside a placed one, but for two pairs
abbrev pub FreeBut : Layout → List Stage → ℕ → ℕ → ℕ → ℕ → Type 0
FreeBut f st a b c d = (y z : ℕ) (m : NodeId) → Beside f y z → stage st y ≡ Blocked → stage st z ≡ Placed m →
    ((y ≡ a) × (z ≡ b)) ⊎ ((y ≡ c) × (z ≡ d))

-- no blocked node stands beside a placed one, and none is in the run
pub record Free (f : Layout) (st : List Stage) : Type 0 where
  pub apart : (y z : ℕ) (m : NodeId) → Beside f y z → stage st y ≡ Blocked → stage st z ≡ Placed m → ⊥
  pub runs : (x : ℕ) → stage st x ≢ InRun

-- The seen nodes stand in the queue, each once: those before `head` have had their turn, and those from `head` to
-- `tail` wait.
pub record Queue (st : List Stage) (queue : List NodeId) (head tail : ℕ) : Type 0 where
  pub order : head ≤ tail
  pub room : tail + sum_by unseen_one st ≡ length st
  pub long : length queue ≡ length st
  pub seen : (i : ℕ) → i < tail → IsSeen (stage st (at queue i))
  pub waiting : (i : ℕ) → head ≤ i → i < tail → stage st (at queue i) ≡ Queued
  pub apart : (i j : ℕ) → i < j → j < tail → at queue i ≢ at queue j
  pub done : (i : ℕ) → i < head → Queued ≢ stage st (at queue i)
  pub all : (x : ℕ) → IsSeen (stage st x) → (i : ℕ) × (i < tail) × (at queue i ≡ x)

-- it has not been placed, but seen
abbrev pub IsOpen : Stage → Type 0
IsOpen Unseen = ⊥
IsOpen Queued = Unit {0}
IsOpen Blocked = Unit {0}
IsOpen Top = Unit {0}
IsOpen InRun = Unit {0}
IsOpen (Placed m) = ⊥
