-- The numbers of the amortised bound, for joined lists of trees and from a node to its tree.
use Rattle.std.proofs.Common.{◌≡◌, ◌+◌, ◌≤◌, ℕ, Bool, true, false, cond, List, [], IsTrue, refl, ap, inl, inr, arith}
use Rattle.std.proofs.lemmas.List.Sums.{sum_by-append, sum_by-cons}
use Rattle.std.specs.List.{count_by}
use Rattle.column_order.specs.Orders.{has}
use Rattle.pq_tree.specs.Outline.{Outline, Forest, leaf, p_node, q_node, no_tree, tree_and, leaves, leaves_of}
use Rattle.pq_tree.specs.Forests.{join, back}
use Rattle.pq_tree.specs.Proper.{HasArities, HaveArities}
use Rattle.pq_tree.specs.Nodes.{IsNode, IsNodeOf, holds, meets, pertinent_root}
use Rattle.pq_tree.specs.Amortised.{nodes_met, nodes_met_of, nodes_met_below_root, weight, weight_of}
use Rattle.pq_tree.proofs.Nodes.{pertinent_root_is}

pub nodes_met_of-join : (row : List ℕ) (ts us : Forest) → nodes_met_of row (join ts us) ≡ nodes_met_of row ts + nodes_met_of row us
nodes_met_of-join row no_tree us = omega arith
nodes_met_of-join row (tree_and t ts) us = omega (arith, nodes_met_of-join row ts us)

pub weight_of-join : (ts us : Forest) → weight_of (join ts us) ≡ weight_of ts + weight_of us
weight_of-join no_tree us = omega arith
weight_of-join (tree_and t ts) us = omega (arith, weight_of-join ts us)

pub weight_of-back : (ts : Forest) → weight_of (back ts) ≡ weight_of ts
weight_of-back no_tree = refl
weight_of-back (tree_and t ts) = omega (arith, weight_of-join (back ts) (tree_and t no_tree), weight_of-back ts)

-- a node has no more such nodes than its tree
mutual
  pub node_met : (row : List ℕ) (x t : Outline) → IsNode x t → nodes_met row x ≤ nodes_met row t
  node_met row x (leaf a) n = omega (arith, ap (nodes_met row) n)
  node_met row x (p_node ts) n = elim n [ inl e ↦ omega (arith, ap (nodes_met row) e) | inr k ↦ omega (arith, nodes_met_in row x ts k) ]
  node_met row x (q_node ts) n = elim n [ inl e ↦ omega (arith, ap (nodes_met row) e) | inr k ↦ omega (arith, nodes_met_in row x ts k) ]

  pub nodes_met_in : (row : List ℕ) (x : Outline) (ts : Forest) → IsNodeOf x ts → nodes_met row x ≤ nodes_met_of row ts
  nodes_met_in row x no_tree n = absurd n
  nodes_met_in row x (tree_and t ts) n = elim n [ inl k ↦ omega (arith, node_met row x t k) | inr k ↦ omega (arith, nodes_met_in row x ts k) ]

-- at the pertinent root and below it there are no more than in the tree
pub below_root_few : (row : List ℕ) (t : Outline) → IsTrue (holds row t) → nodes_met_below_root row t ≤ nodes_met row t
below_root_few row t h = node_met row (pertinent_root row t) t (pertinent_root_is row t h).node

-- 1 where the column is in the row, else 0
abbrev in_row : List ℕ → ℕ → ℕ
in_row row x = cond (has row x) 1 0

-- a node is met at most once
met_once : (b : Bool) → cond {A = ℕ} b 1 0 ≤ 1
met_once true = omega arith
met_once false = omega arith

-- The met nodes are no more than the leaves in the row and the weight together: a node that is no leaf is a Q-node, or has
-- children that are counted.
mutual
  pub nodes_met_few : (row : List ℕ) (t : Outline) → HasArities t → nodes_met row t ≤ count_by (has row) (leaves t) + weight t
  nodes_met_few row (leaf a) h = omega (arith, sum_by-cons (in_row row) a [])
  nodes_met_few row (p_node ts) h = omega (arith, h.0, met_once (meets row (leaves_of ts)), nodes_met_of_few row ts h.1)
  nodes_met_few row (q_node ts) h = omega (arith, met_once (meets row (leaves_of ts)), nodes_met_of_few row ts h.1)

  pub nodes_met_of_few : (row : List ℕ) (ts : Forest) → HaveArities ts → nodes_met_of row ts ≤ count_by (has row) (leaves_of ts) + weight_of ts
  nodes_met_of_few row no_tree h = omega arith
  nodes_met_of_few row (tree_and t ts) h =
      omega (arith, sum_by-append (in_row row) (leaves t) (leaves_of ts), nodes_met_few row t h.0, nodes_met_of_few row ts h.1)
