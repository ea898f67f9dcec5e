-- What is told of a generated matrix.
use Rattle.std.specs.Prelude.{◌≡◌, ◌↔◌, ℕ, ◌+◌, List, ◌++◌, length, sum_by, codes}
use Rattle.std.specs.Fmt.{decimal}
use Rattle.column_order.specs.Orders.{IsValidOrder}
use Rattle.row_model.specs.Rows.{RowList}
use Rattle.pq_tree.specs.Outline.{Outline, Forest, leaf, p_node, q_node, no_tree, tree_and, IsFrontier}
use Rattle.pq_tree.specs.Proper.{IsProper}
use Rattle.pq_tree.specs.Canonical.{IsCanonical}
use Rattle.solve_replies.specs.Generated.{generated}

-- the sum over the nodes of a tree that are no leaves, where a P-node counts p and a Q-node counts q
abbrev mutual
  pub inner_sum : ℕ → ℕ → Outline → ℕ
  inner_sum p q (leaf a) = 0
  inner_sum p q (p_node ts) = p + inner_sum_of p q ts
  inner_sum p q (q_node ts) = q + inner_sum_of p q ts

  pub inner_sum_of : ℕ → ℕ → Forest → ℕ
  inner_sum_of p q no_tree = 0
  inner_sum_of p q (tree_and t ts) = inner_sum p q t + inner_sum_of p q ts

-- the canonical tree of all valid orders of a matrix
pub record IsTreeOf (m : RowList) (t : Outline) : Type 0 where
  pub proper : IsProper m.columns t
  pub canonical : IsCanonical t
  pub orders : (o : List ℕ) → IsFrontier t o ↔ IsValidOrder m.columns m.rows o

-- the summary of a matrix and its tree: how many columns, rows and ones, P-nodes and Q-nodes
abbrev pub summary_text : RowList → Outline → List ℕ
summary_text m t =
    codes "pq-gen 1\ncolumns " ++ (decimal m.columns ++ (codes "\nrows " ++ (decimal (length m.rows) ++ (codes "\nones " ++ (decimal (sum_by length m.rows) ++
    (codes "\nanswer yes\np " ++ (decimal (inner_sum 1 0 t) ++ (codes "\nq " ++ (decimal (inner_sum 0 1 t) ++ codes "\nend\n")))))))))

-- a matrix has so many columns, rows and ones, and a tree so many P-nodes and Q-nodes
pub record IsCounted (m : RowList) (t : Outline) (c r o x y : ℕ) : Type 0 where
  pub columns : c ≡ m.columns
  pub rows : r ≡ length m.rows
  pub ones : o ≡ sum_by length m.rows
  pub p : x ≡ inner_sum 1 0 t
  pub q : y ≡ inner_sum 0 1 t

-- the text is the summary of the matrix that a number draws
pub record IsSummary (seed c rows : ℕ) (text : List ℕ) : Type 0 where
  pub tree : Outline
  pub shows : IsTreeOf (generated seed c rows) tree
  pub text_is : text ≡ summary_text (generated seed c rows) tree
