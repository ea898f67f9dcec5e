-- How many turns are had above the smallest node that holds the row.
use Rattle.std.specs.Prelude.{◌≡◌, ◌≢◌, ◌⊎◌, ℕ, ◌+◌, ◌≤◌, ◌<◌, List, length}
use Rattle.pq_arena.specs.declared.node.NodeId.{NodeId}
use Rattle.column_order.specs.Orders.{occurs}
use Rattle.arena_model.specs.Layout.{Layout, children_at, IsAtOrAbove}
use Rattle.bubble_pass.specs.declared.climber.Stage.TheVariants.{Blocked, Placed}
use Rattle.bubble_pass.specs.declared.climber.Climber.{Climber}
use Rattle.bubble_pass.specs.Climb.{stage, at, IsSeen, IsOpen}
use Rattle.arena_model.specs.RowLeaves.{Meets}

-- n is above r
abbrev pub IsAbove : Layout → ℕ → ℕ → Type 0
IsAbove f r n = IsAtOrAbove f.slots n r × (n ≢ r)

-- of the first n in the queue, a stand above r and b at or below it
pub data Counted (f : Layout) (r : ℕ) (queue : List NodeId) : ℕ → ℕ → ℕ → Type 0 where
  counted_none : Counted f r queue 0 0 0
  counted_above : (n a b n' a' : ℕ) → n' ≡ n + 1 → a' ≡ a + 1 → IsAbove f r (at queue n) → Counted f r queue n a b → Counted f r queue n' a' b
  counted_below : (n a b n' b' : ℕ) → n' ≡ n + 1 → b' ≡ b + 1 → IsAtOrAbove f.slots r (at queue n) → Counted f r queue n a b → Counted f r queue n' a b'

-- calm: all in the queue are at or below r; ahead: one, at p, is above; doomed: two open nodes, one above the other,
-- and only nodes above r have a turn
pub data Course (f : Layout) (r : ℕ) (w : Climber) (a b : ℕ) : Type 0 where
  calm : a ≤ b + 1 → ((i : ℕ) → w.head ≤ i → i < w.tail → IsAtOrAbove f.slots r (at w.queue.items i)) → Course f r w a b
  ahead : (p : ℕ) → a ≤ b + 1 → w.head ≤ p → p < w.tail → IsAbove f r (at w.queue.items p) →
      ((i : ℕ) → w.head ≤ i → i < w.tail → i ≢ p → IsAtOrAbove f.slots r (at w.queue.items i)) →
      (a + w.head ≤ b + p) ⊎ (w.tail ≡ w.head + 1) → Course f r w a b
  doomed : (y n : ℕ) → stage w.stages.items y ≡ Blocked → IsAtOrAbove f.slots r y → y ≢ r → IsOpen (stage w.stages.items n) → IsAbove f r n →
      ((i : ℕ) → w.head ≤ i → i < w.tail → IsAbove f r (at w.queue.items i)) → Course f r w a b

-- What makes the turns fair: above and below count the turns that were had above r and at or below it.
pub record Fair (f : Layout) (r : ℕ) (w : Climber) : Type 0 where
  pub above : ℕ
  pub below : ℕ
  pub counted : Counted f r w.queue.items w.head above below
  pub course : Course f r w above below
  pub ladder : (n c : ℕ) → IsSeen (stage w.stages.items n) → 1 ≤ occurs (children_at f n) c → IsAtOrAbove f.slots c r → (m : NodeId) × (stage w.stages.items c ≡ Placed m)

-- no more than a nodes at or below r meet the row
abbrev pub AtMost : Layout → List ℕ → ℕ → ℕ → Type 0
AtMost f row r a = (xs : List ℕ) → ((x : ℕ) → occurs xs x ≤ 1) → ((x : ℕ) → 1 ≤ occurs xs x → Meets f row x × IsAtOrAbove f.slots r x) → length xs ≤ a
