-- The files of graphs.
use Rattle.std.proofs.Common.{◌≡◌, ◌∙◌, ℕ, ◌≤◌, List, length, refl, ap, sym, arith, Option, Some, None}
use Rattle.row_model.specs.Rows.{RowList}
use Rattle.row_model.specs.declared.refusal.Read.TheVariants as read
use Rattle.row_model.specs.declared.refusal.Refusal.{Refusal}
use Rattle.text_lines.specs.Lines.{NumberedLine}
use Rattle.graph_model.specs.Graphs.{IsBigraph, IsGraph}
use Rattle.column_order.specs.declared.TheConstants.{COLUMN_BOUND}
use Rattle.text_lines.specs.Rows.{refused_or}
use Rattle.graph_model.specs.declared.TheConstants.{LEFT_BOUND}
use Rattle.graph_read.specs.Edges.{left_of, right_of, both_ways, lists_from, edges_of, edge_refusal, lists_of_lines}
use Rattle.graph_read.specs.declared.edges.Edge.{Edge}
use Rattle.graph_read.specs.declared.edges.Shape.TheVariants.{Plain}
use Rattle.graph_read.specs.declared.edges.Shape.{Shape}
use Rattle.graph_read.specs.GraphFiles.{bigraph_with, graph_with}
use Rattle.graph_read.proofs.EdgeLemmas.{graph_symmetric, graph_loopless, edges_no_loop}
use Rattle.graph_read.proofs.ListLemmas.{AreLists, lists_count, lists_columns, lists_rows}

-- the bipartite graph of lists that were read
module _ (shape : Shape) (m : RowList) (h : AreLists shape m) where
  pub bigraph_read : read.Ok (record { left = length m.rows; right = m.columns; neighbours = m.rows }) ≡ bigraph_with shape (read.Ok m)
  bigraph_read = rw (lists_count shape m h, lists_columns shape m h) refl

  pub is_bigraph : 1 ≤ left_of shape → left_of shape ≤ LEFT_BOUND → 1 ≤ right_of shape → right_of shape ≤ COLUMN_BOUND → IsBigraph (record { left = length m.rows; right = m.columns; neighbours = m.rows })
  is_bigraph some few wide narrow = record {
    left = (omega (arith, lists_count shape m h), omega (arith, lists_count shape m h));
    right = (omega (arith, lists_columns shape m h), omega (arith, lists_columns shape m h));
    lists = refl;
    ascending = lists_rows shape m h;
  }

-- the graph of lists that were read
pub graph_read : (shape : Shape) (m : RowList) → AreLists shape m → right_of shape ≡ left_of shape → read.Ok (record { vertices = m.columns; neighbours = m.rows }) ≡ graph_with shape (read.Ok m)
graph_read shape m h square = rw (lists_columns shape m h, square) refl

pub is_graph : (shape : Shape) (n : ℕ) (lines : List NumberedLine) (m : RowList) → shape ≡ Plain n → 1 ≤ n → n ≤ COLUMN_BOUND → read.Ok m ≡ lists_of_lines shape lines → IsGraph (record { vertices = m.columns; neighbours = m.rows })
is_graph shape n lines m plain some few made = of_edges (edge_refusal (Plain n) lines) (rw plain at made)
  where
    edges : List Edge
    edges = edges_of (Plain n) lines

    of_edges : (refusal : Option Refusal) → read.Ok m ≡ refused_or refusal (record { columns = n; rows = lists_from 1 n n (both_ways edges) }) → IsGraph (record { vertices = m.columns; neighbours = m.rows })
    of_edges (Some refusal) k = absurd (cc)
    of_edges None k =
        let is : m ≡ record { columns = n; rows = lists_from 1 n n (both_ways edges) } = cc in
        let h : AreLists (Plain n) m = record { edges = edges; is = is } in
        let rows : m.rows ≡ lists_from 1 n n (both_ways edges) = ap (λ (x : RowList). x.rows) is in
        record {
          vertices = (omega (arith, lists_columns (Plain n) m h), omega (arith, lists_columns (Plain n) m h));
          lists = lists_count (Plain n) m h ∙ sym (lists_columns (Plain n) m h);
          ascending = lists_rows (Plain n) m h;
          symmetric = rw rows (graph_symmetric n edges);
          loopless = rw rows (graph_loopless n edges (edges_no_loop n lines));
        }
