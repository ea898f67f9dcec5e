-- Lines that write a graph are read as that graph.
use Rattle.std.proofs.Common.{◌≡◌, ◌∙◌, ℕ, zero, suc, ◌+◌, ◌-◌, ◌<◌, ◌≤◌, true, ◌||◌, List, [], ◌∷◌, length, get_or, refl, sym, ap, arith, None, Ok, All}
use Rattle.std.proofs.lemmas.Bool.{ne_eqb, le-ltb}
use Rattle.std.proofs.lemmas.List.Elements.{recursion_from_All}
use Rattle.std.specs.List.{AllByRecursion}
use Rattle.column_order.specs.Orders.{has}
use Rattle.row_model.specs.Rows.{IsRow}
use Rattle.row_model.specs.declared.refusal.Read.TheVariants as read
use Rattle.row_model.specs.declared.TheConstants.{MAX_COLUMNS}
use Rattle.text_lines.specs.Lines.{NumberedLine}
use Rattle.text_lines.specs.Words.{words_of}
use Rattle.text_lines.specs.Rows.{columns_among, refused_or}
use Rattle.text_lines.specs.declared.words.Numeral.TheVariants.{Value}
use Rattle.graph_model.specs.declared.TheConstants.{LEFT_BOUND}
use Rattle.graph_read.specs.declared.edges.Edge.{Edge}
use Rattle.graph_read.specs.declared.edges.Shape.{Shape}
use Rattle.graph_read.specs.declared.edges.Shape.TheVariants.{Bipartite, Plain}
use Rattle.graph_model.specs.Graphs.{has_edge}
use Rattle.graph_read.specs.Numbers.{is_within, two_numbers, one_number}
use Rattle.graph_read.specs.Edges.{both_ways, ends_from, lists_from, edge_named, edges_of, edge_refusal, sides_named, vertices_named}
use Rattle.graph_model.specs.Graphs.{BigraphValue, GraphValue}
use Rattle.graph_read.specs.GraphFiles.{bigraph_with, bigraph_behind, bigraph_lines, graph_with, graph_behind, graph_lines}
use Rattle.graph_read.specs.Files.{bigraph, graph}
use Rattle.graph_read.specs.FileLaws.{IsEdgeLine, IsPairLine, names_edge, IsBigraphFile, IsGraphFile}
use Rattle.graph_read.proofs.EdgeLemmas.{ends_either}
use Rattle.graph_read.proofs.HeadLemmas.{bigraph_reads, graph_reads}
use Rattle.graph_read.proofs.EdgeNames.{lines_name}
use Rattle.graph_read.proofs.EdgeSteps.{no_refusal, edge_step}
use Rattle.graph_read.proofs.PlaceLemmas.{row_among}

-- no line is refused where each names an edge
abbrev NamesEdge : Shape → NumberedLine → Type 0
NamesEdge shape line = (edge : Edge) × (edge_named shape (two_numbers (words_of line.text)) ≡ Ok edge)

all_taken : (shape : Shape) (lines : List NumberedLine) → AllByRecursion (NamesEdge shape) lines → edge_refusal shape lines ≡ None
all_taken shape [] all = no_refusal shape
all_taken shape (line ∷ lines) all = edge_step shape line (line ∷ lines) lines refl all.0.0 (sym all.0.1) ∙ all_taken shape lines all.1

number_inside : (n x : ℕ) → 1 ≤ x → x ≤ n → is_within n (Value x) ≡ true
number_inside n x some le = rw (ne_eqb x 0 (λ e. absurd (omega arith)), le-ltb n x le) refl

edge_lines : (left right : ℕ) (lines : List NumberedLine) → AllByRecursion (IsEdgeLine left right) lines → AllByRecursion (NamesEdge (Bipartite left right)) lines
edge_lines left right [] all = tt
edge_lines left right (line ∷ lines) all = (one all.0, edge_lines left right lines all.1)
  where
    one : IsEdgeLine left right line → NamesEdge (Bipartite left right) line
    one (x, y, px, py, is) = (record { from = x; to = y }, rw (is, number_inside left x px.0 px.1, number_inside right y py.0 py.1) refl)

pair_lines : (n : ℕ) (lines : List NumberedLine) → AllByRecursion (IsPairLine n) lines → AllByRecursion (NamesEdge (Plain n)) lines
pair_lines n [] all = tt
pair_lines n (line ∷ lines) all = (one all.0, pair_lines n lines all.1)
  where
    one : IsPairLine n line → NamesEdge (Plain n) line
    one (u, v, pu, pv, apart, is) = (record { from = u; to = v }, rw (is, number_inside n u pu.0 pu.1, number_inside n v pv.0 pv.1, ne_eqb u v apart) refl)

-- lists that have the edges of others
rows_same : (x n c : ℕ) (edges : List Edge) (rows : List (List ℕ)) → length rows ≡ n → ((i : ℕ) → i < n → get_or rows i [] ≡ columns_among c (ends_from (x + i) edges)) → lists_from x n c edges ≡ rows
rows_same x zero c edges [] long same = refl
rows_same x zero c edges (row ∷ rows) long same = absurd (omega arith)
rows_same x (suc n) c edges [] long same = absurd (omega arith)
rows_same x (suc n) c edges (row ∷ rows) long same =
    let here : row ≡ columns_among c (ends_from x edges) = same 0 (omega arith) ∙ ap (λ a. columns_among c (ends_from a edges)) (omega arith) in
    let later : lists_from (x + 1) n c edges ≡ rows = rows_same (x + 1) n c edges rows (omega arith) (λ i lt. same (suc i) (omega arith) ∙ ap (λ a. columns_among c (ends_from a edges)) (omega arith)) in
    rw (later, ← here) refl

lists_same : (n c : ℕ) (edges : List Edge) (lists : List (List ℕ)) → length lists ≡ n → All (IsRow c) lists
    → ((x y : ℕ) → 1 ≤ x → x ≤ n → 1 ≤ y → y ≤ c → has_edge lists x y ≡ has (ends_from x edges) y) → lists_from 1 n c edges ≡ lists
lists_same n c edges lists long rows same =
    rows_same 1 n c edges lists long (λ i lt.
    let at : 1 + i - 1 ≡ i = omega arith in
    row_among c (get_or lists i []) (ends_from (1 + i) edges) (rows i [] (omega arith)) (λ j lj.
    ap (λ k. has (get_or lists k []) (j + 1)) (sym at) ∙ same (1 + i) (j + 1) (omega arith) (omega arith) (omega arith) (omega arith)))

pub written_bigraph : (limit : ℕ) (bytes : List ℕ) (g : BigraphValue) → limit ≤ LEFT_BOUND → IsBigraphFile limit bytes g → bigraph limit bytes ≡ read.Ok g
written_bigraph limit bytes g small file =
    let is = file.bigraph in
    let w = file.writes in
    let shape : Shape = Bipartite g.left g.right in
    let edges = edges_of shape w.later in
    let none : edge_refusal shape w.later ≡ None = all_taken shape w.later (edge_lines g.left g.right w.later (recursion_from_All (IsEdgeLine g.left g.right) w.later w.within)) in
    let lists : lists_from 1 g.left g.right edges ≡ g.neighbours =
    lists_same g.left g.right edges g.neighbours is.lists is.ascending (λ x y px lx py ly. w.edges x y px lx py ly ∙ sym (lines_name x y px py shape w.later none)) in
    let sides : sides_named limit (two_numbers (words_of w.first.text)) ≡ Ok shape =
    rw (w.sizes, ne_eqb g.left 0 (λ e. absurd (omega (arith, is.left.0))), ne_eqb g.right 0 (λ e. absurd (omega (arith, is.right.0))), le-ltb limit g.left file.left, le-ltb MAX_COLUMNS g.right file.right) refl in
    (bigraph_reads limit small).short bytes file.short
    ∙ ap (bigraph_lines limit) w.are
    ∙ ap (λ s. bigraph_behind w.first.number s w.later) sides
    ∙ ap (λ refusal. bigraph_with shape (refused_or refusal (record { columns = g.right; rows = lists_from 1 g.left g.right edges }))) none
    ∙ ap (λ rows. read.Ok (record { left = g.left; right = g.right; neighbours = rows })) lists

pub written_graph : (bytes : List ℕ) (g : GraphValue) → IsGraphFile bytes g → graph bytes ≡ read.Ok g
written_graph bytes g file =
    let is = file.graph in
    let w = file.writes in
    let n = g.vertices in
    let edges = edges_of (Plain n) w.later in
    let none : edge_refusal (Plain n) w.later ≡ None = all_taken (Plain n) w.later (pair_lines n w.later (recursion_from_All (IsPairLine n) w.later w.within)) in
    let lists : lists_from 1 n n (both_ways edges) ≡ g.neighbours =
    lists_same n n (both_ways edges) g.neighbours is.lists is.ascending (λ u v pu lu pv lv.
    w.edges u v pu lu pv lv
    ∙ ap (λ b. b || names_edge w.later v u) (sym (lines_name u v pu pv (Plain n) w.later none))
    ∙ ap (λ b. has (ends_from u edges) v || b) (sym (lines_name v u pv pu (Plain n) w.later none))
    ∙ sym (ends_either u v edges)) in
    let vertices : vertices_named (one_number (words_of w.first.text)) ≡ Ok (Plain n) =
    rw (w.size, ne_eqb n 0 (λ e. absurd (omega (arith, is.vertices.0))), le-ltb MAX_COLUMNS n file.vertices) refl in
    graph_reads.short bytes file.short
    ∙ ap graph_lines w.are
    ∙ ap (λ s. graph_behind w.first.number s w.later) vertices
    ∙ ap (λ refusal. graph_with (Plain n) (refused_or refusal (record { columns = n; rows = lists_from 1 n n (both_ways edges) }))) none
    ∙ ap (λ rows. read.Ok (record { vertices = n; neighbours = rows })) lists
