-- The nodes of a tree that a row meets are fewer than two for each column.
use Rattle.std.proofs.Common.{◌≡◌, sum_by, take, sym, subst, ℕ, ◌+◌, ◌*◌, ◌≤◌, if◌then◌else◌, Bool, true, false, List, length, arith}
use Rattle.std.proofs.lemmas.Bool.{false≢true}
use Rattle.std.proofs.lemmas.List.{length-append, take_all}
use Rattle.column_order.specs.Orders.{has}
use Rattle.column_order.proofs.Counts.{order_length}
use Rattle.pq_tree.specs.Outline.{Outline, Forest, leaf, p_node, q_node, no_tree, tree_and, leaves, leaves_of}
use Rattle.pq_tree.specs.Forests.{count}
use Rattle.pq_tree.specs.Nodes.{meets}
use Rattle.pq_tree.specs.Amortised.{nodes_met, nodes_met_of}
use Rattle.pq_tree.specs.Proper.{HasArities, HaveArities, IsProper}
use Rattle.c1p_solve.specs.SessionTotals.{refusal_steps}

one_at_most : (b : Bool) → (if b then 1 else 0) ≤ 1
one_at_most true = omega arith
one_at_most false = omega arith

mutual
  few_met : (row : List ℕ) (t : Outline) → HasArities t → nodes_met row t + 1 ≤ 2 * length (leaves t)
  few_met row (leaf a) h = omega (arith, one_at_most (has row a))
  few_met row (p_node ts) h = omega (arith, one_at_most (meets row (leaves_of ts)), few_met_of row ts h.1, h.0)
  few_met row (q_node ts) h = omega (arith, one_at_most (meets row (leaves_of ts)), few_met_of row ts h.1, h.0)

  few_met_of : (row : List ℕ) (ts : Forest) → HaveArities ts → nodes_met_of row ts + count ts ≤ 2 * length (leaves_of ts)
  few_met_of row no_tree h = omega arith
  few_met_of row (tree_and t ts) h = omega (arith, few_met row t h.0, few_met_of row ts h.1, length-append (leaves t) (leaves_of ts))

-- what a row costs that a proper tree refuses
pub refused_cost_by_columns : (row : List ℕ) (c : ℕ) (t : Outline) → IsProper c t → 256 * (nodes_met row t + 1) ≤ 512 * c
refused_cost_by_columns row c t proper = omega (arith, few_met row t proper.0, order_length c (leaves t) proper.1)

-- a refusal without a search, and with one
pub refused_plainly : (row : List ℕ) (c : ℕ) (rows : List (List ℕ)) (t : Outline) (explain : Bool) (s n : ℕ) → IsProper c t → explain ≡ false → n ≤ s + 256 * (nodes_met row t + 1) → n ≤ s + refusal_steps c rows explain
refused_plainly row c rows t true s n proper e h = absurd (false≢true (sym e))
refused_plainly row c rows t false s n proper e h = omega (arith, h, refused_cost_by_columns row c t proper)

pub refused_with_cycle : (row : List ℕ) (c k : ℕ) (rows : List (List ℕ)) (t : Outline) (explain : Bool) (s p n : ℕ) → IsProper c t → explain ≡ true → k ≡ length rows
    → p ≤ s + 256 * (nodes_met row t + 1) → n ≤ p + 8 * c * (sum_by length (take k rows) + 1) → n ≤ s + refusal_steps c rows explain
refused_with_cycle row c k rows t false s p n proper e last h more = absurd (false≢true e)
refused_with_cycle row c k rows t true s p n proper e last h more =
    let all : take k rows ≡ rows = take_all k rows (omega (arith, last)) in
    let search : n ≤ p + 8 * c * (sum_by length rows + 1) = subst (λ (rs : List (List ℕ)). n ≤ p + 8 * c * (sum_by length rs + 1)) all more in
    omega (arith, h, search, refused_cost_by_columns row c t proper)
