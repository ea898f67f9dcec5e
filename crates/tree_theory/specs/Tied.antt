-- When a PQ-tree stands for exactly the valid orders of some rows: what each reduction keeps.
pub use Rattle.pq_tree.specs.Nodes.{IsNode, IsNodeOf}
use Rattle.std.specs.Prelude.{◌⊎◌, ℕ, List, IsTrue, IsFalse, All}
use Rattle.row_model.specs.declared.graph.Pair.{Pair}
use Rattle.column_order.specs.Orders.{has, Keeps}
use Rattle.row_model.specs.Graph.{pair, Evenly}
use Rattle.pq_tree.specs.Outline.{Outline, Forest, q_node, no_tree, tree_and, leaves, leaves_of, IsFrontier}

-- the pair goes forward in the trees: its first column stands in an earlier tree than its second
abbrev pub IsForward : Forest → Pair → Type 0
IsForward no_tree v = ⊥
IsForward (tree_and t ts) v = (IsTrue (has (leaves t) v.a) × IsTrue (has (leaves_of ts) v.b)) ⊎ IsForward ts v

-- the columns of x stay together in l: any two of them, each with the same column of l outside x, are related pairs
abbrev pub IsClosed : (Pair → Pair → Type 0) → List ℕ → List ℕ → Type 0
IsClosed R l x =
    (a b d : ℕ) → IsTrue (has x a) → IsTrue (has x b) → IsTrue (has l d) → IsFalse (has x d) → R (pair a d) (pair b d)

-- the trees stand in line: any two pairs that go forward in them are related
abbrev pub IsInLine : (Pair → Pair → Type 0) → Forest → Type 0
IsInLine R ts = (v w : Pair) → IsForward ts v → IsForward ts w → R v w

-- for any columns a and b of a node and each column d outside it, a walk of even length leads from (a,d) to (b,d)
abbrev pub AreTogether : ℕ → List (List ℕ) → Outline → Type 0
AreTogether c rows t = (x : Outline) → IsNode x t → IsClosed (Evenly c rows) (leaves t) (leaves x)

-- from each pair that goes forward in the children of a Q-node a walk of even length leads to each other such pair
abbrev pub AreInLine : ℕ → List (List ℕ) → Outline → Type 0
AreInLine c rows t = (ts : Forest) → IsNode (q_node ts) t → IsInLine (Evenly c rows) ts

-- A tree over the columns 1 to c is tied to the rows where each of its frontiers keeps each row, the columns of each node
-- stay together, and the children of each Q-node stand in line. The walks are those of the incompatibility graph of the
-- rows (McConnell, 2004).
pub record IsTied (c : ℕ) (rows : List (List ℕ)) (t : Outline) : Type 0 where
  pub kept : (f : List ℕ) → IsFrontier t f → All (Keeps f) rows
  pub together : AreTogether c rows t
  pub in_line : AreInLine c rows t
