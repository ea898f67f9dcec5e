-- A file gives a graph exactly where it writes it.
use Rattle.std.proofs.Common.{◌≡◌, ◌∙◌, ℕ, ◌≤◌, ◌||◌, List, ap, refl, arith, Ok}
use Rattle.std.proofs.lemmas.List.Elements.{All-from_recursion}
use Rattle.column_order.specs.Orders.{has}
use Rattle.row_model.specs.declared.refusal.Read.TheVariants as read
use Rattle.text_lines.specs.FirstRefusal.{filled_of}
use Rattle.text_lines.specs.Words.{words_of}
use Rattle.graph_model.specs.declared.TheConstants.{LEFT_BOUND}
use Rattle.graph_read.specs.declared.edges.Shape.{Shape}
use Rattle.graph_read.specs.declared.edges.Shape.TheVariants.{Bipartite, Plain}
use Rattle.graph_model.specs.Graphs.{BigraphValue, GraphValue}
use Rattle.graph_read.specs.Edges.{both_ways, ends_from, edges_of, lists_from}
use Rattle.graph_read.specs.Files.{bigraph, graph}
use Rattle.graph_read.specs.FileLaws.{names_edge, IsEdgeLine, WritesBigraph, IsBigraphFile, BigraphLaw, IsPairLine, WritesGraph, IsGraphFile, GraphLaw, IsDistancesFile, DistancesLaw}
use Rattle.graph_read.proofs.EdgeLemmas.{edge_inside, ends_either}
use Rattle.graph_read.proofs.EdgeNames.{lines_name}
use Rattle.graph_read.proofs.Named.{sizes_written, size_written, edge_lines_of, pair_lines_of}
use Rattle.graph_read.proofs.Ranges.{bigraph_from, bigraph_range, graph_from, graph_range, distances_from}
use Rattle.row_model.specs.declared.TheConstants.{MAX_ITEMS}
use Rattle.graph_model.specs.Distances.{DistancesValue}
use Rattle.graph_read.specs.DistanceFiles.{items_named, distances, distances_behind, distances_lines}
use Rattle.graph_read.specs.DistanceSteps.{distances_with}
use Rattle.graph_read.specs.Numbers.{one_number}
use Rattle.graph_read.proofs.DistanceLemmas.{are_distances}
use Rattle.graph_read.proofs.HeadLemmas.{distances_reads}
use Rattle.graph_read.proofs.Named.{items_written}
use Rattle.graph_read.proofs.TableRows.{rows_given, table_taken}
use Rattle.graph_read.proofs.TableSteps.{read_behind}
use Rattle.std.proofs.lemmas.Bool.{ne_eqb, le-ltb}
use Rattle.graph_read.proofs.WrittenLaws.{written_bigraph, written_graph}

bigraph_file : (limit : ℕ) (bytes : List ℕ) (g : BigraphValue) → limit ≤ LEFT_BOUND → bigraph limit bytes ≡ read.Ok g → IsBigraphFile limit bytes g
bigraph_file limit bytes g small h =
    let found = bigraph_from limit g bytes small h in
    let r = found.1 in
    let known = bigraph_range limit (filled_of bytes) g small r in
    let shape : Shape = Bipartite r.left r.right in
    let writes : WritesBigraph (filled_of bytes) (record { left = r.left; right = r.right; neighbours = lists_from 1 r.left r.right (edges_of shape r.later) }) = record {
      first = r.first;
      later = r.later;
      are = r.are;
      sizes = sizes_written limit (words_of r.first.text) r.left r.right r.named;
      within = All-from_recursion (IsEdgeLine r.left r.right) r.later (edge_lines_of r.left r.right r.later r.none);
      edges = λ x y px lx py ly. edge_inside r.left r.right x y (edges_of shape r.later) px lx py ly ∙ lines_name x y px py shape r.later r.none;
    } in
    record { bigraph = known.bigraph; left = known.left; right = known.right; short = found.0; writes = rw r.is writes }

graph_file : (bytes : List ℕ) (g : GraphValue) → graph bytes ≡ read.Ok g → IsGraphFile bytes g
graph_file bytes g h =
    let found = graph_from g bytes h in
    let r = found.1 in
    let known = graph_range (filled_of bytes) g r in
    let n = r.vertices in
    let edges = edges_of (Plain n) r.later in
    let writes : WritesGraph (filled_of bytes) (record { vertices = n; neighbours = lists_from 1 n n (both_ways edges) }) = record {
      first = r.first;
      later = r.later;
      are = r.are;
      size = size_written (words_of r.first.text) n r.named;
      within = All-from_recursion (IsPairLine n) r.later (pair_lines_of n r.later r.none);
      edges = λ u v pu lu pv lv.
          edge_inside n n u v (both_ways edges) pu lu pv lv ∙ ends_either u v edges
          ∙ ap (λ b. b || has (ends_from v edges) u) (lines_name u v pu pv (Plain n) r.later r.none)
          ∙ ap (λ b. names_edge r.later u v || b) (lines_name v u pv pu (Plain n) r.later r.none);
    } in
    record { graph = known.graph; vertices = known.vertices; short = found.0; writes = rw r.is writes }

pub bigraph_law : BigraphLaw
bigraph_law limit bytes g small = (bigraph_file limit bytes g small, λ file. written_bigraph limit bytes g small file)

pub graph_law : GraphLaw
graph_law bytes g = (graph_file bytes g, λ file. written_graph bytes g file)

distances_file : (bytes : List ℕ) (d : DistancesValue) → distances bytes ≡ read.Ok d → IsDistancesFile bytes d
distances_file bytes d h =
    let found = distances_from d bytes h in
    let r = found.1 in
    let given = rows_given d.items r.later d.values r.table in
    record {
      distances = are_distances d.items r.later d.values r.within.0 (omega (arith, r.within.1)) r.table;
      items = r.within.1;
      short = found.0;
      writes = record { first = r.first; later = r.later; are = r.are; size = items_written (words_of r.first.text) d.items r.named; count = given.count; rows = given.rows };
    }

written_distances : (bytes : List ℕ) (d : DistancesValue) → IsDistancesFile bytes d → distances bytes ≡ read.Ok d
written_distances bytes d file =
    let w = file.writes in
    let some : 1 ≤ d.items = file.distances.items.0 in
    let items : items_named (one_number (words_of w.first.text)) ≡ Ok d.items = rw (w.size, ne_eqb d.items 0 (λ e. absurd (omega arith)), le-ltb MAX_ITEMS d.items file.items) refl in
    distances_reads.short bytes file.short
    ∙ ap distances_lines w.are
    ∙ ap (λ n. distances_behind w.first.number n w.later) items
    ∙ read_behind d.items w.later w.first.number
    ∙ ap (distances_with d.items) (table_taken d.items d.values file.distances w.later w.count w.rows)

pub distances_law : DistancesLaw
distances_law bytes d = (distances_file bytes d, written_distances bytes d)
