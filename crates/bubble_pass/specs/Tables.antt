-- The tables of the pass, with an entry for each node.
use Rattle.std.specs.Prelude.{◌≡◌, ℕ, ◌+◌, ◌≤◌, ◌<◌, List, Option, Some, None, false, length, set, sum_by, unwrap_or}
use Rattle.pq_arena.specs.declared.node.NodeId.{NodeId}
use Rattle.bubble_pass.specs.declared.climber.Stage.TheVariants.{Unseen}
use Rattle.bubble_pass.specs.declared.labels.Label.TheVariants.{Empty}
use Rattle.bubble_pass.specs.declared.tables.Seats.{Seats}
use Rattle.bubble_pass.specs.declared.tables.Tables.{Tables}
use Rattle.bubble_pass.specs.Climb.{most_nodes, stage, at, IsSeen, unseen_one}
use Rattle.bubble_pass.specs.Chains.{entry, number}
use Rattle.bubble_pass.specs.Sweep.{label}

-- the node that has the place s; each has its own at first
abbrev pub node_at : List (Option NodeId) → NodeId → NodeId
node_at nodes s = unwrap_or (entry nodes s.index) s

-- the place that the node x has
abbrev pub seat_of : List (Option NodeId) → NodeId → NodeId
seat_of seats x = unwrap_or (entry seats x.index) x

-- old and new exchange their places
pub record Swapped (a b : Seats) (old new : NodeId) : Type 0 where
  pub nodes : b.nodes.items ≡ set (set a.nodes.items (seat_of a.seats.items old).index (Some new)) (seat_of a.seats.items new).index (Some old)
  pub seats : b.seats.items ≡ set (set a.seats.items new.index (Some (seat_of a.seats.items old))) old.index (Some (seat_of a.seats.items new))

-- the entries that exchanging places reads and writes are there
pub record CanExchange (s : Seats) (old new : NodeId) : Type 0 where
  pub old_in : old.index < length s.seats.items
  pub new_in : new.index < length s.seats.items
  pub old_seat : (seat_of s.seats.items old).index < length s.nodes.items
  pub new_seat : (seat_of s.seats.items new).index < length s.nodes.items

-- a node has the place that has it
pub record AreInverse (s : Seats) : Type 0 where
  pub there : (x : NodeId) → node_at s.nodes.items (seat_of s.seats.items x) ≡ x
  pub back : (x : NodeId) → seat_of s.seats.items (node_at s.nodes.items x) ≡ x
  pub inside : (x : NodeId) → x.index < length s.seats.items → (seat_of s.seats.items x).index < length s.nodes.items

-- each table has n entries
pub record AreSized (t : Tables) (n : ℕ) : Type 0 where
  pub stages : length t.climber.stages.items ≡ n
  pub queue : length t.climber.queue.items ≡ n
  pub first : length t.chains.first.items ≡ n
  pub next : length t.chains.next.items ≡ n
  pub count : length t.chains.count.items ≡ n
  pub labels : length t.labels.labels.items ≡ n
  pub full : length t.labels.full.items ≡ n
  pub partial : length t.labels.partial.items ≡ n
  pub nodes : length t.labels.nodes.items ≡ n
  pub seat_nodes : length t.seats.nodes.items ≡ n
  pub seats : length t.seats.seats.items ≡ n
  pub few : n ≤ most_nodes

-- nothing is known of x
pub record IsBlankAt (t : Tables) (x : ℕ) : Type 0 where
  pub stage : stage t.climber.stages.items x ≡ Unseen
  pub first : entry t.chains.first.items x ≡ None
  pub next : entry t.chains.next.items x ≡ None
  pub count : number t.chains.count.items x ≡ 0
  pub label : label t.labels.labels.items x ≡ Empty
  pub full : number t.labels.full.items x ≡ 0
  pub partial : number t.labels.partial.items x ≡ 0
  pub node : entry t.seats.nodes.items x ≡ None
  pub seat : entry t.seats.seats.items x ≡ None

-- each node of which something is known stands in the queue, from place i on
pub record KnownFrom (t : Tables) (n i : ℕ) : Type 0 where
  pub sized : AreSized t n
  pub all : (x : ℕ) → IsSeen (stage t.climber.stages.items x) → (j : ℕ) × (i ≤ j) × (j < t.climber.tail) × (at t.climber.queue.items j ≡ x)
  pub inside : (j : ℕ) → j < t.climber.tail → at t.climber.queue.items j < n
  pub room : t.climber.tail ≤ n
  pub blank : (x : ℕ) → stage t.climber.stages.items x ≡ Unseen → IsBlankAt t x
  pub order : i ≤ t.climber.tail
  pub len : t.labels.len ≤ n

-- what always holds of the tables
pub record AreKept (t : Tables) : Type 0 where
  pub known : KnownFrom t (length t.climber.stages.items) 0
  pub room : t.climber.tail + sum_by unseen_one t.climber.stages.items ≡ length t.climber.stages.items
  pub inverse : AreInverse t.seats

-- nothing is known of x any more, and the rest stays
pub record Forgot (a b : Tables) (x : NodeId) : Type 0 where
  pub stages : b.climber.stages.items ≡ set a.climber.stages.items x.index Unseen
  pub first : b.chains.first.items ≡ set a.chains.first.items x.index None
  pub next : b.chains.next.items ≡ set a.chains.next.items x.index None
  pub count : b.chains.count.items ≡ set a.chains.count.items x.index 0
  pub labels : b.labels.labels.items ≡ set a.labels.labels.items x.index Empty
  pub full : b.labels.full.items ≡ set a.labels.full.items x.index 0
  pub partial : b.labels.partial.items ≡ set a.labels.partial.items x.index 0
  pub node : b.seats.nodes.items ≡ set a.seats.nodes.items x.index None
  pub seat : b.seats.seats.items ≡ set a.seats.seats.items x.index None
  pub queue : b.climber.queue.items ≡ a.climber.queue.items
  pub tail : b.climber.tail ≡ a.climber.tail
  pub nodes : b.labels.nodes.items ≡ a.labels.nodes.items
  pub len : b.labels.len ≡ a.labels.len

-- what forgetting writes is there
pub record CanForget (t : Tables) (x : ℕ) : Type 0 where
  pub n : ℕ
  pub sized : AreSized t n
  pub x_in : x < n

-- nothing is known of any node
pub record AreClear (t : Tables) (n : ℕ) : Type 0 where
  pub sized : AreSized t n
  pub blank : (x : ℕ) → IsBlankAt t x
  pub head : t.climber.head ≡ 0
  pub tail : t.climber.tail ≡ 0
  pub parked : t.climber.parked ≡ 0
  pub len : t.labels.len ≡ 0
  pub outside : t.inside ≡ false

-- x is one of the nodes of which something may be known, and the rest stays
pub record TouchedAt (a b : Tables) (x : NodeId) : Type 0 where
  pub kept : AreKept b
  pub seen : IsSeen (stage b.climber.stages.items x.index)
  pub still : (y : ℕ) → IsSeen (stage a.climber.stages.items y) → IsSeen (stage b.climber.stages.items y)
  pub size : length b.climber.stages.items ≡ length a.climber.stages.items
  pub chains : b.chains ≡ a.chains
  pub labels : b.labels ≡ a.labels
  pub seats : b.seats ≡ a.seats
  pub inside : b.inside ≡ a.inside
