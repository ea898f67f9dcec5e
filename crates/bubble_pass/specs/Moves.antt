-- The moves of the climb, as relations between its states.
use Rattle.std.specs.Prelude.{◌≡◌, ◌≢◌, ◌⊎◌, ℕ, ◌+◌, ◌≤◌, ◌<◌, cond, eqb, List, Option, Some, None, slice_index_or, length, sum_by, set}
use Rattle.pq_arena.specs.declared.node.NodeId.{NodeId}
use Rattle.pq_arena.specs.declared.node.NodeView.{NodeView}
use Rattle.arena_model.specs.Layout.{Layout}
use Rattle.pq_arena.specs.Looks.{index_or_none}
use Rattle.bubble_pass.specs.declared.climber.Stage.{Stage}
use Rattle.bubble_pass.specs.declared.climber.Stage.TheVariants.{Unseen, Queued, Blocked, Top, InRun, Placed}
use Rattle.bubble_pass.specs.declared.climber.Climber.{Climber}
use Rattle.bubble_pass.specs.Climb.{most_nodes, stage, at, IsSeen, parked_one, Beside, Climb, FreeBut, Free, Queue}

-- what the climb keeps in its own lists
pub record Kept (f : Layout) (row : List ℕ) (w : Climber) : Type 0 where
  pub climb : Climb f row w.stages.items
  pub queue : Queue w.stages.items w.queue.items w.head w.tail
  pub count : w.parked ≡ sum_by parked_one w.stages.items
  pub long : length w.stages.items ≡ length f.slots
  pub few : length f.slots ≤ most_nodes

-- so between two turns
pub record Ready (f : Layout) (row : List ℕ) (w : Climber) : Type 0 where
  pub kept : Kept f row w
  pub free : Free f w.stages.items

-- n is queued if it was not seen
abbrev pub entered : Stage → List Stage → NodeId → List Stage
entered Unseen st n = set st n.index Queued
entered Queued st n = st
entered Blocked st n = st
entered Top st n = st
entered InRun st n = st
entered (Placed m) st n = st

-- the end of the queue with it
abbrev pub entered_tail : Stage → ℕ → ℕ
entered_tail Unseen tail = tail + 1
entered_tail Queued tail = tail
entered_tail Blocked tail = tail
entered_tail Top tail = tail
entered_tail InRun tail = tail
entered_tail (Placed m) tail = tail

-- the queue with it
abbrev pub entered_queue : Stage → List NodeId → ℕ → NodeId → List NodeId
entered_queue Unseen queue tail n = set queue tail n
entered_queue Queued queue tail n = queue
entered_queue Blocked queue tail n = queue
entered_queue Top queue tail n = queue
entered_queue InRun queue tail n = queue
entered_queue (Placed m) queue tail n = queue

-- x knows the node m above it, and m is queued if it was not seen
pub record Rose (a b : Climber) (x m : NodeId) : Type 0 where
  pub stages : b.stages.items ≡ set (entered (stage a.stages.items m.index) a.stages.items m) x.index (Placed m)
  pub queue : b.queue.items ≡ entered_queue (stage a.stages.items m.index) a.queue.items a.tail m
  pub head : b.head ≡ a.head
  pub tail : b.tail ≡ entered_tail (stage a.stages.items m.index) a.tail
  pub parked : b.parked ≡ a.parked

-- one stage is written
pub record Staged (a b : Climber) (x : NodeId) (to : Stage) : Type 0 where
  pub stages : b.stages.items ≡ set a.stages.items x.index to
  pub queue : b.queue.items ≡ a.queue.items
  pub head : b.head ≡ a.head
  pub tail : b.tail ≡ a.tail

-- the node above, by what a look shows and by what its neighbours know
abbrev pub placed_in : Stage → Option NodeId
placed_in Unseen = None
placed_in Queued = None
placed_in Blocked = None
placed_in Top = None
placed_in InRun = None
placed_in (Placed m) = Some m

-- the node above a neighbour, where that is placed
abbrev pub above_in : List Stage → Option NodeId → Option NodeId
above_in st None = None
above_in st (Some y) = placed_in (stage st y.index)

-- the first, or where there is none the second
abbrev pub or_else : Option NodeId → Option NodeId → Option NodeId
or_else None o = o
or_else (Some m) o = Some m

-- the node n at this stage, if it is blocked
abbrev pub blocked_one : Stage → NodeId → Option NodeId
blocked_one Unseen n = None
blocked_one Queued n = None
blocked_one Blocked n = Some n
blocked_one Top n = None
blocked_one InRun n = None
blocked_one (Placed m) n = None

-- the neighbour, if it is blocked
abbrev pub blocked_in : List Stage → Option NodeId → Option NodeId
blocked_in st None = None
blocked_in st (Some y) = blocked_one (stage st y.index) y

-- the neighbour, if there is one, has an entry
abbrev pub InReach : List Stage → Option NodeId → Type 0
InReach st None = Unit {0}
InReach st (Some y) = y.index < length st

-- a walk may go from `before`, a child of m, to `next`
pub record Walkable (f : Layout) (row : List ℕ) (w : Climber) (m before : NodeId) (next : Option NodeId) : Type 0 where
  pub kept : Kept f row w
  pub placed : stage w.stages.items before.index ≡ Placed m
  pub reach : InReach w.stages.items next
  pub beside : (x : NodeId) → blocked_in w.stages.items next ≡ Some x → Beside f x.index before.index

-- b is a after some blocked nodes were placed below m as well, from its child `from` on, s0 and s being the ticks before and after
pub record PlacedAlong (a b : Climber) (m from : NodeId) (s0 s : ℕ) : Type 0 where
  pub head : b.head ≡ a.head
  pub tail : b.tail ≡ a.tail
  pub ticks : s + b.parked ≡ s0 + a.parked
  pub start : stage b.stages.items from.index ≡ Placed m
  pub runs : (x : ℕ) → stage b.stages.items x ≡ InRun → stage a.stages.items x ≡ InRun
  pub queue : b.queue.items ≡ a.queue.items
  pub rest : (y : ℕ) → (stage b.stages.items y ≡ stage a.stages.items y) ⊎ ((stage a.stages.items y ≡ Blocked) × (stage b.stages.items y ≡ Placed m))

-- while blocked nodes are placed: a is the climb as the walk began, and s0 and s are the ticks
pub record Walking (f : Layout) (row : List ℕ) (a b : Climber) (m from before : NodeId) (to next : Option NodeId) (s0 s : ℕ) : Type 0 where
  pub can : Walkable f row b m before next
  pub free : (c d : ℕ) → FreeBut f a.stages.items (index_or_none to) from.index c d → FreeBut f b.stages.items (index_or_none next) before.index c d
  pub along : PlacedAlong a b m from s0 s

-- the walk from `from` is over
pub record Walked (f : Layout) (row : List ℕ) (a b : Climber) (m from : NodeId) (to : Option NodeId) (s0 s : ℕ) : Type 0 where
  pub kept : Kept f row b
  pub free : (c d : ℕ) → FreeBut f a.stages.items (index_or_none to) from.index c d → FreeBut f b.stages.items c d c d
  pub along : PlacedAlong a b m from s0 s

-- what rise reads and writes is there
pub record CanRise (w : Climber) (x m : ℕ) : Type 0 where
  pub x_in : x < length w.stages.items
  pub m_in : m < length w.stages.items
  pub room : stage w.stages.items m ≡ Unseen → w.tail < length w.queue.items
  pub few : length w.queue.items ≤ most_nodes

-- the first neighbour
abbrev pub near0 : List (Option NodeId) → Option NodeId
near0 near = slice_index_or near 0 None

-- the second neighbour
abbrev pub near1 : List (Option NodeId) → Option NodeId
near1 near = slice_index_or near 1 None

-- both neighbours in view have entries
pub record CanFind (st : List Stage) (view : NodeView) : Type 0 where
  pub first : InReach st (near0 view.near)
  pub second : InReach st (near1 view.near)

-- the node above the one in view, where it or a neighbour knows it
abbrev pub found : List Stage → NodeView → Option NodeId
found st view = or_else view.parent (or_else (above_in st (near0 view.near)) (above_in st (near1 view.near)))

-- the stage of a node whose node above is not known, by its first neighbour
abbrev pub parked_by : Option NodeId → Stage
parked_by None = Top
parked_by (Some y) = Blocked

-- so by what is in view
abbrev pub parked_as : NodeView → Stage
parked_as view = parked_by (near0 view.near)

-- y, or b where y is the one before
abbrev pub past : Option NodeId → Option NodeId → NodeId → Option NodeId
past None b before = None
past (Some y) b before = cond (eqb y.index before.index) b (Some y)

-- the neighbour that is not the one before
abbrev pub beyond_in : List (Option NodeId) → NodeId → Option NodeId
beyond_in near before = past (near0 near) (near1 near) before

-- the entries that queueing writes are there
pub record CanPush (w : Climber) (n : ℕ) : Type 0 where
  pub n_in : n < length w.stages.items
  pub room : w.tail < length w.queue.items
  pub few : length w.queue.items ≤ most_nodes

-- n stands last in the queue
pub record Pushed (a b : Climber) (n : NodeId) : Type 0 where
  pub stages : b.stages.items ≡ set a.stages.items n.index Queued
  pub queue : b.queue.items ≡ set a.queue.items a.tail n
  pub head : b.head ≡ a.head
  pub tail : b.tail ≡ a.tail + 1
  pub parked : b.parked ≡ a.parked

-- what one turn changes, x being the node that has it
pub data Turned (a b : Climber) (x : ℕ) : Type 0 where
  turned_up : (m : NodeId) → stage b.stages.items x ≡ Placed m →
      ((y : ℕ) → y ≢ x → IsSeen (stage a.stages.items y) →
      (stage b.stages.items y ≡ stage a.stages.items y) ⊎ ((stage a.stages.items y ≡ Blocked) × (stage b.stages.items y ≡ Placed m))) →
      ((y : ℕ) → IsSeen (stage b.stages.items y) → IsSeen (stage a.stages.items y) ⊎ ((y ≡ m.index) × (stage b.stages.items y ≡ Queued))) →
      ((i : ℕ) → i < a.tail → at b.queue.items i ≡ at a.queue.items i) →
      (b.tail ≡ a.tail) ⊎ ((b.tail ≡ a.tail + 1) × (at b.queue.items a.tail ≡ m.index) × (stage a.stages.items m.index ≡ Unseen)) → Turned a b x
  turned_off : parked_one (stage b.stages.items x) ≡ 1 → ((y : ℕ) → y ≢ x → stage b.stages.items y ≡ stage a.stages.items y) →
      b.queue.items ≡ a.queue.items → b.tail ≡ a.tail → Turned a b x
