-- The placed children of each node, as a chain through two arrays.
use Rattle.std.specs.Prelude.{◌≡◌, ℕ, ◌+◌, ◌≤◌, ◌<◌, cond, eqb, List, [], ◌∷◌, Option, Some, None, slice_index_or, length, take, set, false}
use Rattle.std.specs.Prelude.{Bool}
use Rattle.pq_arena.specs.declared.node.NodeId.{NodeId}
use Rattle.bubble_pass.specs.declared.climber.Stage.{Stage}
use Rattle.bubble_pass.specs.declared.climber.Stage.TheVariants.{Unseen, Queued, Blocked, Top, InRun, Placed}
use Rattle.bubble_pass.specs.declared.climber.Climber.{Climber}
use Rattle.bubble_pass.specs.declared.chains.Chains.{Chains}
use Rattle.pq_arena.specs.RowNodes.{indices}
use Rattle.bubble_pass.specs.Climb.{most_nodes, stage}

-- whether a node at this stage is placed under m
abbrev pub is_under : Stage → ℕ → Bool
is_under Unseen m = false
is_under Queued m = false
is_under Blocked m = false
is_under Top m = false
is_under InRun m = false
is_under (Placed k) m = eqb k.index m

-- those of xs that are placed under m, the last one first
abbrev pub chained : List Stage → List ℕ → ℕ → List ℕ → List ℕ
chained st [] m done = done
chained st (x ∷ xs) m done = chained st xs m (cond (is_under (stage st x) m) (x ∷ done) done)

-- the node that the table has at i, if any
abbrev pub entry : List (Option NodeId) → ℕ → Option NodeId
entry xs i = slice_index_or xs i None

-- they hang together from o on
abbrev pub AreLinked : List (Option NodeId) → Option NodeId → List ℕ → Type 0
AreLinked next o [] = o ≡ None
AreLinked next o (x ∷ xs) = (o ≡ Some (let n : NodeId = record { index = x } in n)) × AreLinked next (entry next x) xs

-- the number that the table has at i
abbrev pub number : List ℕ → ℕ → ℕ
number xs i = slice_index_or xs i 0

-- the first n nodes of the queue hang in the chains of the nodes above them
pub record Linked (w : Climber) (c : Chains) (n : ℕ) : Type 0 where
  pub chains : (m : ℕ) → AreLinked c.next.items (entry c.first.items m) (chained w.stages.items (indices (take n w.queue.items)) m [])
  pub counts : (m : ℕ) → number c.count.items m ≡ length (chained w.stages.items (indices (take n w.queue.items)) m [])
  pub firsts : length c.first.items ≡ length w.stages.items
  pub nexts : length c.next.items ≡ length w.stages.items
  pub numbers : length c.count.items ≡ length w.stages.items
  pub quiet : (x : ℕ) → stage w.stages.items x ≡ Unseen → entry c.next.items x ≡ None

-- some chains were emptied
pub record OnlyCut (a b : Chains) : Type 0 where
  pub next : b.next.items ≡ a.next.items
  pub firsts : (x : ℕ) → entry a.first.items x ≡ None → entry b.first.items x ≡ None
  pub counts : (x : ℕ) → number a.count.items x ≡ 0 → number b.count.items x ≡ 0

-- x stands in front of the chain of m
pub record Hung (a b : Chains) (x m : NodeId) : Type 0 where
  pub next : b.next.items ≡ set a.next.items x.index (entry a.first.items m.index)
  pub first : b.first.items ≡ set a.first.items m.index (Some x)
  pub count : b.count.items ≡ set a.count.items m.index (number a.count.items m.index + 1)

-- the entries that hanging reads and writes are there
pub record CanHang (c : Chains) (x m : ℕ) : Type 0 where
  pub x_in : x < length c.next.items
  pub m_in : m < length c.first.items
  pub same : length c.count.items ≡ length c.first.items
  pub few : number c.count.items m ≤ most_nodes

-- x has no chain any more
pub record Cut (a b : Chains) (x : NodeId) : Type 0 where
  pub next : b.next.items ≡ a.next.items
  pub first : b.first.items ≡ set a.first.items x.index None
  pub count : b.count.items ≡ set a.count.items x.index 0

-- the entries that cutting writes are there
pub record CanCut (c : Chains) (x : ℕ) : Type 0 where
  pub x_in : x < length c.first.items
  pub same : length c.count.items ≡ length c.first.items
