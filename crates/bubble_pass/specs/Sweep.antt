-- The labels from below.
use Rattle.std.specs.Prelude.{◌≡◌, ◌≢◌, ℕ, ◌+◌, ◌≤◌, ◌<◌, List, [], ◌++◌, Option, Some, None, slice_index_or, length, set, sum_by, take, cond, eqb, ◌*◌}
use Rattle.pq_arena.specs.declared.node.NodeId.{NodeId}
use Rattle.arena_model.specs.declared.Shape.TheVariants.{Leaf}
use Rattle.column_order.specs.Orders.{occurs}
use Rattle.arena_model.specs.Layout.{Layout, shape_at, children_at, IsAtOrAbove, IsInUse}
use Rattle.bubble_pass.specs.declared.climber.Stage.TheVariants.{Unseen, InRun, Placed}
use Rattle.bubble_pass.specs.declared.climber.Climber.{Climber}
use Rattle.bubble_pass.specs.declared.chains.Chains.{Chains}
use Rattle.bubble_pass.specs.declared.labels.Label.{Label}
use Rattle.bubble_pass.specs.declared.labels.Label.TheVariants.{Empty, Partial, Full}
use Rattle.bubble_pass.specs.declared.labels.Labels.{Labels}
use Rattle.pq_arena.specs.RowNodes.{indices}
use Rattle.bubble_pass.specs.Climb.{most_nodes, stage, at, IsSeen}
use Rattle.bubble_pass.specs.Chains.{number}
use Rattle.bubble_pass.specs.Roots.{below}
use Rattle.arena_model.specs.RowLeaves.{Meets}
use Rattle.bubble_pass.specs.Ends.{AreLeaves, IsFull}
use Rattle.pq_arena.specs.Looks.{node_named}
use Rattle.arena_model.specs.ChildLists.{none}
use Rattle.arena_model.specs.ChildLists.{head_or, last_or}

-- the label that the table has at x
abbrev pub label : List Label → ℕ → Label
label ls x = slice_index_or ls x Empty

-- 1 for full, else 0
abbrev pub full_one : Label → ℕ
full_one Empty = 0
full_one Partial = 0
full_one Full = 1

-- 1 for partial, else 0
abbrev pub partial_one : Label → ℕ
partial_one Empty = 0
partial_one Partial = 1
partial_one Full = 0

-- all, some or none of the leaves at or below n are in the row
abbrev pub IsRight : Layout → List ℕ → ℕ → Label → Type 0
IsRight f row n Empty = (x : ℕ) → IsAtOrAbove f.slots n x → 1 ≤ occurs row x → ⊥
IsRight f row n Full = (x a : ℕ) → IsAtOrAbove f.slots n x → shape_at f x ≡ Some (Leaf a) → 1 ≤ occurs row x
IsRight f row n Partial =
    ((x : ℕ) × IsAtOrAbove f.slots n x × (1 ≤ occurs row x)) × ((x : ℕ) × (a : ℕ) × IsAtOrAbove f.slots n x × (shape_at f x ≡ Some (Leaf a)) × (occurs row x ≡ 0))

-- n was seen, at or below a node that is marked as one of the run
pub record IsPertinent (f : Layout) (w : Climber) (n : ℕ) : Type 0 where
  pub seen : IsSeen (stage w.stages.items n)
  pub top : ℕ
  pub marked : stage w.stages.items top ≡ InRun
  pub leads : IsAtOrAbove f.slots top n

-- what the sweep stands on
pub record Ground (f : Layout) (row : List ℕ) (w : Climber) (c : Chains) : Type 0 where
  pub once : (m x : ℕ) → occurs (below w m) x ≤ 1
  pub only : (m x : ℕ) → 1 ≤ occurs (below w m) x → (k : NodeId) × (stage w.stages.items x ≡ Placed k) × (k.index ≡ m)
  pub has : (x : ℕ) (k : NodeId) → stage w.stages.items x ≡ Placed k → 1 ≤ occurs (below w k.index) x
  pub above : (x : ℕ) (k : NodeId) → stage w.stages.items x ≡ Placed k → (1 ≤ occurs (children_at f k.index) x) × IsSeen (stage w.stages.items k.index)
  pub used : (x : ℕ) → IsSeen (stage w.stages.items x) → IsInUse f x
  pub counts : (m : ℕ) → IsPertinent f w m → number c.count.items m ≡ length (below w m)
  pub leaves : (x : ℕ) → 1 ≤ occurs row x → IsPertinent f w x
  pub bare : (x : ℕ) → 1 ≤ occurs row x → below w x ≡ []
  pub meets : (x : ℕ) → IsSeen (stage w.stages.items x) → Meets f row x
  pub all : (x k : ℕ) → IsPertinent f w x → 1 ≤ occurs (children_at f x) k → Meets f row k → 1 ≤ occurs (below w x) k
  pub long : length w.stages.items ≡ length f.slots
  pub numbers : length c.count.items ≡ length w.stages.items

-- x stands among the first n of the nodes
pub record Place (ls : Labels) (n x : ℕ) : Type 0 where
  pub i : ℕ
  pub lt : i < n
  pub is : at ls.nodes.items i ≡ x

-- the first `done` of the nodes have their labels
pub record Swept (f : Layout) (row : List ℕ) (w : Climber) (ls : Labels) (done : ℕ) : Type 0 where
  pub order : done ≤ ls.len
  pub fits : ls.len ≤ length ls.nodes.items
  pub apart : (i j : ℕ) → i < j → j < ls.len → at ls.nodes.items i ≢ at ls.nodes.items j
  pub pertinent : (i : ℕ) → i < ls.len → IsPertinent f w (at ls.nodes.items i)
  pub labelled : (i : ℕ) → i < done → label ls.labels.items (at ls.nodes.items i) ≢ Empty
  pub only : (x : ℕ) → label ls.labels.items x ≢ Empty → Place ls done x
  pub after : (i z : ℕ) → i < ls.len → 1 ≤ occurs (below w (at ls.nodes.items i)) z → label ls.labels.items z ≢ Empty
  pub right : (x : ℕ) → label ls.labels.items x ≢ Empty → IsRight f row x (label ls.labels.items x)
  pub before : (i z : ℕ) → i < ls.len → 1 ≤ occurs (below w (at ls.nodes.items i)) z → Place ls i z
  pub fulls : (m : ℕ) → IsPertinent f w m → number ls.full.items m ≡ sum_by (λ z. full_one (label ls.labels.items z)) (below w m)
  pub partials : (m : ℕ) → IsPertinent f w m → number ls.partial.items m ≡ sum_by (λ z. partial_one (label ls.labels.items z)) (below w m)
  pub leaves : (x : ℕ) → 1 ≤ occurs row x → Place ls ls.len x
  pub pushed : (m : ℕ) → IsPertinent f w m → 1 ≤ length (below w m) → ((z : ℕ) → 1 ≤ occurs (below w m) z → label ls.labels.items z ≢ Empty) → Place ls ls.len m
  pub sizes : (length ls.labels.items ≡ length f.slots) × (length ls.full.items ≡ length f.slots) × (length ls.partial.items ≡ length f.slots) × (length ls.nodes.items ≡ length f.slots)

-- the full children of the first n of the nodes, counted at each
abbrev pub fulls_before : Labels → ℕ → ℕ
fulls_before ls n = sum_by (λ x. number ls.full.items x) (indices (take n ls.nodes.items))

-- the first n of the nodes and their counts stay
pub record SameBefore (w : Climber) (a b : Labels) (n : ℕ) : Type 0 where
  pub nodes : (i : ℕ) → i < n → at b.nodes.items i ≡ at a.nodes.items i
  pub fulls : (i : ℕ) → i < n → number b.full.items (at a.nodes.items i) ≡ number a.full.items (at a.nodes.items i)
  pub rest : (x : ℕ) → stage w.stages.items x ≡ Unseen → (number b.full.items x ≡ number a.full.items x) × (number b.partial.items x ≡ number a.partial.items x)

-- nothing was counted at a node that was not seen
pub record IsQuiet (w : Climber) (ls : Labels) : Type 0 where
  pub fulls : (x : ℕ) → stage w.stages.items x ≡ Unseen → number ls.full.items x ≡ 0
  pub partials : (x : ℕ) → stage w.stages.items x ≡ Unseen → number ls.partial.items x ≡ 0

-- the sweep, s0 being the ticks at its start
pub record Sweeping (f : Layout) (row : List ℕ) (w : Climber) (ls : Labels) (done s0 s : ℕ) : Type 0 where
  pub swept : Swept f row w ls done
  pub quiet : IsQuiet w ls
  pub ticks : s ≤ s0 + 2 * done + fulls_before ls done

-- x has this label, and the rest stays
pub record Noted (a b : Labels) (x : NodeId) (l : Label) : Type 0 where
  pub labels : b.labels.items ≡ set a.labels.items x.index l
  pub full : b.full.items ≡ a.full.items
  pub partial : b.partial.items ≡ a.partial.items
  pub nodes : b.nodes.items ≡ a.nodes.items
  pub len : b.len ≡ a.len

-- m has one child more with this label
pub record Told (a b : Labels) (m : NodeId) (l : Label) : Type 0 where
  pub labels : b.labels.items ≡ a.labels.items
  pub full : b.full.items ≡ set a.full.items m.index (number a.full.items m.index + full_one l)
  pub partial : b.partial.items ≡ set a.partial.items m.index (number a.partial.items m.index + partial_one l)
  pub nodes : b.nodes.items ≡ a.nodes.items
  pub len : b.len ≡ a.len

-- n stands last among the nodes
pub record Added (a b : Labels) (n : NodeId) : Type 0 where
  pub labels : b.labels.items ≡ a.labels.items
  pub full : b.full.items ≡ a.full.items
  pub partial : b.partial.items ≡ a.partial.items
  pub nodes : b.nodes.items ≡ set a.nodes.items a.len n
  pub len : b.len ≡ a.len + 1

-- the entries that telling reads and writes are there
pub record CanTell (ls : Labels) (m : ℕ) : Type 0 where
  pub full_in : m < length ls.full.items
  pub partial_in : m < length ls.partial.items
  pub few_full : number ls.full.items m ≤ most_nodes
  pub few_partial : number ls.partial.items m ≤ most_nodes

-- there is room for one node more
pub record CanAdd (ls : Labels) : Type 0 where
  pub room : ls.len < length ls.nodes.items
  pub few : length ls.nodes.items ≤ most_nodes

-- x is the next node to get its label
pub record CanJudge (f : Layout) (row : List ℕ) (w : Climber) (c : Chains) (ls : Labels) (x : NodeId) (done : ℕ) : Type 0 where
  pub is_row : AreLeaves f row
  pub is_full : IsFull f
  pub ground : Ground f row w c
  pub swept : Swept f row w ls done
  pub some : done < ls.len
  pub is : x.index ≡ at ls.nodes.items done

-- l is the right label of x, the next node to get one
pub record CanSettle (f : Layout) (row : List ℕ) (w : Climber) (c : Chains) (ls : Labels) (x : NodeId) (done : ℕ) (l : Label) : Type 0 where
  pub ground : Ground f row w c
  pub swept : Swept f row w ls done
  pub some : done < ls.len
  pub is : x.index ≡ at ls.nodes.items done
  pub right : IsRight f row x.index l
  pub labelled : l ≢ Empty

-- the node, if there is one, is below n
abbrev pub IsIn : ℕ → Option NodeId → Type 0
IsIn n None = Unit {0}
IsIn n (Some y) = y.index < n

-- the node n with this label, if it is full
abbrev pub full_only : Label → NodeId → Option NodeId
full_only Empty n = None
full_only Partial n = None
full_only Full n = Some n

-- the node, if it is full
abbrev pub full_in : List Label → Option NodeId → Option NodeId
full_in ls None = None
full_in ls (Some y) = full_only (label ls y.index) y

-- of two neighbours the one that is not the third
abbrev pub beside_of : Option NodeId → Option NodeId → Option NodeId → Option NodeId
beside_of None near1 None = near1
beside_of None near1 (Some b) = None
beside_of (Some y) near1 None = Some y
beside_of (Some y) near1 (Some b) = cond (eqb y.index b.index) near1 (Some y)

-- the neighbour that is not the one before
abbrev pub other_in : List (Option NodeId) → Option NodeId → Option NodeId
other_in near before = beside_of (slice_index_or near 0 None) (slice_index_or near 1 None) before

-- the children of the Q-node x that were walked over are full
pub record Judging (f : Layout) (ls : Labels) (x left : ℕ) (before next : Option NodeId) (s0 s : ℕ) : Type 0 where
  pub us : List ℕ
  pub vs : List ℕ
  pub split : children_at f x ≡ us ++ vs
  pub full : (z : ℕ) → 1 ≤ occurs us z → label ls.labels.items z ≡ Full
  pub behind : before ≡ node_named (last_or us none)
  pub ahead : next ≡ node_named (head_or vs none)
  pub count : left + length us ≡ number ls.full.items x
  pub ticks : s ≡ s0 + 1 + length us
  pub size : length ls.labels.items ≡ length f.slots

-- no node has a label
pub record IsBlank (f : Layout) (ls : Labels) : Type 0 where
  pub labels : (x : ℕ) → label ls.labels.items x ≡ Empty
  pub fulls : (x : ℕ) → number ls.full.items x ≡ 0
  pub partials : (x : ℕ) → number ls.partial.items x ≡ 0
  pub len : ls.len ≡ 0
  pub sizes : (length ls.labels.items ≡ length f.slots) × (length ls.full.items ≡ length f.slots) × (length ls.partial.items ≡ length f.slots) × (length ls.nodes.items ≡ length f.slots)

-- the first i leaves of the row stand in the list
pub record Starting (f : Layout) (row : List ℕ) (a b : Labels) (i : ℕ) : Type 0 where
  pub labels : b.labels.items ≡ a.labels.items
  pub full : b.full.items ≡ a.full.items
  pub partial : b.partial.items ≡ a.partial.items
  pub len : b.len ≡ i
  pub nodes : (j : ℕ) → j < i → at b.nodes.items j ≡ number row j
  pub size : length b.nodes.items ≡ length f.slots
  pub order : i ≤ length row
