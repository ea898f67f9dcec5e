-- The answer of a pass in the words of the tree without numbers.
use Rattle.std.proofs.Common.{◌≡◌, ◌≢◌, ℕ, ◌+◌, ◌*◌, ◌≤◌, List, [], ap, arith}
use Rattle.column_order.specs.Orders.{occurs}
use Rattle.row_model.specs.Rows.{IsRow}
use Rattle.pq_tree.specs.Amortised.{nodes_met, nodes_met_below_root}
use Rattle.arena_model.specs.declared.Shape.TheVariants.{Q}
use Rattle.arena_model.specs.Layout.{Layout, children_at, IsAtOrAbove, here, down, IsInUse, IsLayout}
use Rattle.arena_model.specs.NamedTree.{outline_at, outline_below, IsOneTree}
use Rattle.arena_model.proofs.Slots.{used_by, parent_used}
use Rattle.arena_model.proofs.Trees.{no_circle}
use Rattle.bubble_pass.specs.declared.tables.Found.{Found}
use Rattle.bubble_pass.specs.declared.tables.Found.TheVariants.{Root, Inside, Split}
use Rattle.pq_arena.specs.RowNodes.{column_leaves}
use Rattle.arena_model.specs.RowLeaves.{Holds}
use Rattle.bubble_pass.specs.Found.{Split as IsSplit}
use Rattle.bubble_pass.specs.Ends.{AreLeaves}
use Rattle.bubble_pass.specs.Fair.{AtMost}
use Rattle.bubble_pass.specs.Marks.{Marks}
use Rattle.bubble_pass.specs.Pass.{IsAnswer, IsHeld}
use Rattle.bubble_pass.proofs.Smallest.{inside_least}
use Rattle.bubble_pass.proofs.Outlines.{row_leaves, root_outline}
use Rattle.bubble_pass.proofs.Bounds.{at_most_met}

pub split_found : (f : Layout) (leaves : List ℕ) (w : Marks) (found : Found) → IsAnswer f leaves w found → found ≡ Split → IsSplit f leaves
split_found f leaves w (Root r) a e = absurd (cc)
split_found f leaves w Inside a e = absurd (cc)
split_found f leaves w Split a e = a.apart

-- what is above a node in use is in use
above_used : (f : Layout) (n x : ℕ) → IsLayout f → IsAtOrAbove f.slots n x → IsInUse f x → IsInUse f n
above_used f _ _ h (here n) u = u
above_used f _ _ h (down n k x o l) u = parent_used f n k o h

-- the smallest node that holds the row, where the answer names one
pub record Smallest (f : Layout) (leaves : List ℕ) : Type 0 where
  pub q : ℕ
  pub used : IsInUse f q
  pub holds : Holds f leaves q
  pub least : (k : ℕ) → 1 ≤ occurs (children_at f q) k → Holds f leaves k → ⊥

pub smallest_found : (f : Layout) (leaves : List ℕ) (w : Marks) (found : Found) → IsLayout f → AreLeaves f leaves → IsAnswer f leaves w found → IsHeld found → Smallest f leaves
smallest_found f leaves w (Root r) h l a held = record {
  q = r.index;
  used = above_used f r.index l.some.0 h (a.root.holds l.some.0 l.some.1) (l.used l.some.0 l.some.1);
  holds = a.root.holds;
  least = λ k o hk. no_circle f.slots r.index k (h.grounds r.index) o (a.root.least k hk);
}
smallest_found f leaves w Inside h l a held = record {
  q = a.run.q;
  used = used_by f a.run.q Q a.run.is_q;
  holds = a.run.holds;
  least = λ k o hk. inside_least f leaves k h a.run o hk;
}
smallest_found f leaves w Split h l a held = absurd held

-- the bound by the nodes of the whole tree
pub whole_bound : (f : Layout) (row : List ℕ) (s0 s : ℕ) → IsLayout f → IsRow f.columns row → ((a : ℕ) → AtMost f (column_leaves row) f.root a → s ≤ s0 + 5 * a) → s ≤ s0 + 5 * nodes_met row (outline_at f)
whole_bound f row s0 s h r t = t (nodes_met row (outline_at f)) (at_most_met f row f.root h h.root_used r)

-- the bound by the nodes at and below the pertinent root
pub root_bound : (f : Layout) (row : List ℕ) (w : Marks) (found : Found) (s0 s : ℕ) → IsLayout f → IsOneTree f → IsRow f.columns row → row ≢ [] → IsAnswer f (column_leaves row) w found →
    ((q a : ℕ) → IsHeld found → Holds f (column_leaves row) q → AtMost f (column_leaves row) q a → s ≤ s0 + 7 * a + 2) → IsHeld found → s ≤ s0 + 7 * nodes_met_below_root row (outline_at f) + 2
root_bound f row w found s0 s h one r some a t held =
    let q : Smallest f (column_leaves row) = smallest_found f (column_leaves row) w found h (row_leaves f row h one r some) a held in
    let e : nodes_met_below_root row (outline_at f) ≡ nodes_met row (outline_below f q.q) = ap (nodes_met row) (root_outline f row q.q h one r some q.used q.holds q.least) in
    let k : s ≤ s0 + 7 * nodes_met row (outline_below f q.q) + 2 = t q.q (nodes_met row (outline_below f q.q)) held q.holds (at_most_met f row q.q h q.used r) in
    omega arith
