-- The edges of a graph, of which each is a line with two numbers, are fewer than there are bytes.
use Rattle.std.proofs.Common.{◌≡◌, ◌∙◌, ℕ, ◌+◌, ◌-◌, ◌*◌, ◌≤◌, Bool, false, ◌==◌, ◌||◌, List, [], ◌∷◌, length, sum_by, Option, Some, None, refl, sym, ap, arith}
use Rattle.std.proofs.lemmas.Bool.{and_parts, eqb-true, false≢true}
use Rattle.std.proofs.lemmas.List.{length-map}
use Rattle.std.proofs.lemmas.List.FromFn.{get_or-map-range_with_len, length-map-range_with_len}
use Rattle.std.proofs.lemmas.List.Sums.{sum_by-cons}
use Rattle.column_order.specs.Orders.{has}
use Rattle.row_model.specs.Rows.{columns_where}
use Rattle.row_model.proofs.Filtered.{has_filtered}
use Rattle.row_model.specs.declared.TheConstants.{MAX_COLUMNS}
use Rattle.text_lines.specs.FirstRefusal.{filled_of}
use Rattle.text_lines.specs.Heads.{size_given}
use Rattle.text_lines.specs.Lines.{NumberedLine}
use Rattle.text_lines.specs.Rows.{first_refusal}
use Rattle.text_lines.specs.Words.{words_of, number_of, numbers_in}
use Rattle.graph_model.specs.Graphs.{BigraphValue, GraphValue, has_edge}
use Rattle.convex_bipartite.specs.Sides.{left_rows, right_rows}
use Rattle.proper_interval.specs.Umbrellas.{closed_of}
use Rattle.graph_read.specs.Files.{sizes_given, ends_code, pair_code, are_ends, line_joins, joined_lists, bigraph_sized, bigraph, graph_sized, graph}
use Rattle.command_input.specs.Instances.{IfRead}
use Rattle.file_steps.proofs.Found.{within_read, refused_read, head_read}
use Rattle.file_steps.proofs.Grids.{grid, grid_or, grid_none, grid_one, grid_rows, grid_same}
use Rattle.file_steps.proofs.Lines.{line_room, filled_short, words_short}

-- a test the other way round
abbrev turned : (ℕ → ℕ → Bool) → ℕ → ℕ → Bool
turned t x y = t y x

-- two numbers are the ends of one edge alone, and others of none
IsOneEdge : (ℕ → ℕ → Bool) → List (Option ℕ) → Type 0
IsOneEdge t numbers = (c n : ℕ) → 2 * grid t c 1 n ≤ length numbers

no_edge : (t : ℕ → ℕ → Bool) (numbers : List (Option ℕ)) → ((x y : ℕ) → t x y ≡ false) → IsOneEdge t numbers
unfolding IsOneEdge
no_edge t numbers none c n = omega (arith, grid_none t c 1 n (λ x y l k. false≢true (sym (none x y) ∙ k)))

ends_once : (numbers : List (Option ℕ)) → IsOneEdge (λ x y. are_ends x y numbers) numbers
unfolding IsOneEdge no_edge
ends_once [] = no_edge (λ x y. are_ends x y []) [] (λ x y. refl)
ends_once (None ∷ numbers) = no_edge (λ x y. are_ends x y (None ∷ numbers)) (None ∷ numbers) (λ x y. refl)
ends_once (Some a ∷ []) = no_edge (λ x y. are_ends x y (Some a ∷ [])) (Some a ∷ []) (λ x y. refl)
ends_once (Some a ∷ None ∷ numbers) = no_edge (λ x y. are_ends x y (Some a ∷ None ∷ numbers)) (Some a ∷ None ∷ numbers) (λ x y. refl)
ends_once (Some a ∷ Some b ∷ []) =
    λ c n.
    omega (
      arith,
      grid_one (λ x y. are_ends x y (Some a ∷ Some b ∷ [])) a b c 1 n
          (λ x y k. let both = and_parts (a == x) (b == y) k in (eqb-true a x both.0, eqb-true b y both.1)),
    )
ends_once (Some a ∷ Some b ∷ more ∷ numbers) = no_edge (λ x y. are_ends x y (Some a ∷ Some b ∷ more ∷ numbers)) (Some a ∷ Some b ∷ more ∷ numbers) (λ x y. refl)

turned_once : (numbers : List (Option ℕ)) → IsOneEdge (turned (λ x y. are_ends x y numbers)) numbers
unfolding IsOneEdge no_edge
turned_once [] = no_edge (turned (λ x y. are_ends x y [])) [] (λ x y. refl)
turned_once (None ∷ numbers) = no_edge (turned (λ x y. are_ends x y (None ∷ numbers))) (None ∷ numbers) (λ x y. refl)
turned_once (Some a ∷ []) = no_edge (turned (λ x y. are_ends x y (Some a ∷ []))) (Some a ∷ []) (λ x y. refl)
turned_once (Some a ∷ None ∷ numbers) = no_edge (turned (λ x y. are_ends x y (Some a ∷ None ∷ numbers))) (Some a ∷ None ∷ numbers) (λ x y. refl)
turned_once (Some a ∷ Some b ∷ []) =
    λ c n.
    omega (
      arith,
      grid_one (turned (λ x y. are_ends x y (Some a ∷ Some b ∷ []))) b a c 1 n
          (λ x y k. let both = and_parts (a == y) (b == x) k in (eqb-true b x both.1, eqb-true a y both.0)),
    )
turned_once (Some a ∷ Some b ∷ more ∷ numbers) = no_edge (turned (λ x y. are_ends x y (Some a ∷ Some b ∷ more ∷ numbers))) (Some a ∷ Some b ∷ more ∷ numbers) (λ x y. refl)

-- the edges of lines
line_short : (line : NumberedLine) (e : ℕ) → 2 * e ≤ length (numbers_in line.text) → 4 * e ≤ line_room line
line_short line e h = omega (arith, h, length-map (words_of line.text) number_of, words_short line.text)

edges_short : (lines : List NumberedLine) (c n : ℕ) → 4 * grid (line_joins lines) c 1 n ≤ sum_by line_room lines
unfolding IsOneEdge
edges_short [] c n = omega (arith, grid_none (line_joins []) c 1 n (λ x y l k. false≢true k))
edges_short (line ∷ lines) c n =
    omega (
      arith,
      grid_or (λ x y. are_ends x y (numbers_in line.text)) (line_joins lines) c 1 n,
      line_short line (grid (λ x y. are_ends x y (numbers_in line.text)) c 1 n) (ends_once (numbers_in line.text) c n),
      edges_short lines c n,
      sum_by-cons line_room line lines,
    )

turned_short : (lines : List NumberedLine) (c n : ℕ) → 4 * grid (turned (line_joins lines)) c 1 n ≤ sum_by line_room lines
unfolding IsOneEdge
turned_short [] c n = omega (arith, grid_none (turned (line_joins [])) c 1 n (λ x y l k. false≢true k))
turned_short (line ∷ lines) c n =
    omega (
      arith,
      grid_or (turned (λ x y. are_ends x y (numbers_in line.text))) (turned (line_joins lines)) c 1 n,
      line_short line (grid (turned (λ x y. are_ends x y (numbers_in line.text))) c 1 n) (turned_once (numbers_in line.text) c n),
      turned_short lines c n,
      sum_by-cons line_room line lines,
    )

-- the lists have the edges of their test
joined_edge : (t : ℕ → ℕ → Bool) (n c x y : ℕ) → 1 ≤ x → x ≤ n → 1 ≤ y → y ≤ c → has_edge (joined_lists n c t) x y ≡ t x y
joined_edge t n c x y from to low high =
    ap (λ row. has row y) (get_or-map-range_with_len (λ x. columns_where c (t x)) 1 n (x - 1) x [] (omega (arith, from, to)) (omega (arith, from)))
    ∙ has_filtered (t x) c y low high

-- each side of a bipartite graph has fewer ones than there are bytes
pub record HasFewEdges (n : ℕ) (g : BigraphValue) : Type 0 where
  pub lists : length g.neighbours ≡ g.left
  pub left : 4 * sum_by length (left_rows g).rows ≤ n
  pub right : 4 * sum_by length (right_rows g).rows ≤ n

bigraph_few : (sizes : ℕ × ℕ) (n : ℕ) (lines : List NumberedLine) → sum_by line_room lines ≤ n → IfRead (bigraph_sized sizes lines) (HasFewEdges n)
bigraph_few sizes n lines room =
    refused_read (HasFewEdges n) (first_refusal (λ before line. ends_code sizes.0 sizes.1 (numbers_in line)) 0 lines) _
    (λ none. record {
      lists = length-map-range_with_len (λ x. columns_where sizes.1 (line_joins lines x)) 1 sizes.0;
      left = omega (arith, room, edges_short lines sizes.1 sizes.0);
      right =
          let same : grid (λ y x. has_edge (joined_lists sizes.0 sizes.1 (line_joins lines)) x y) sizes.0 1 sizes.1 ≡ grid (turned (line_joins lines)) sizes.0 1 sizes.1 =
          grid_same (λ y x. has_edge (joined_lists sizes.0 sizes.1 (line_joins lines)) x y) (turned (line_joins lines)) sizes.0 1 sizes.1
          (λ y x low high from to. joined_edge (line_joins lines) sizes.0 sizes.1 x y from to low (omega (arith, high))) in
          omega (arith, room, same, turned_short lines sizes.0 sizes.1);
    })

pub bigraph_edges : (limit : ℕ) (bytes : List ℕ) → IfRead (bigraph limit bytes) (HasFewEdges (length bytes))
unfolding bigraph
bigraph_edges limit bytes =
    within_read (HasFewEdges (length bytes)) bytes _
    (head_read (HasFewEdges (length bytes)) (λ line. sizes_given limit (numbers_in line)) bigraph_sized (filled_of bytes) (length bytes) (filled_short bytes)
    (λ sizes lines. bigraph_few sizes (length bytes) lines))

-- a graph has each edge in two closed rows, and each vertex in its own
abbrev pub HasFewNeighbours : ℕ → GraphValue → Type 0
HasFewNeighbours n g = 2 * sum_by length (closed_of g).rows ≤ 2 * g.vertices + n

graph_few : (v n : ℕ) (lines : List NumberedLine) → sum_by line_room lines ≤ n → IfRead (graph_sized v lines) (HasFewNeighbours n)
graph_few v n lines room =
    let joins : ℕ → ℕ → Bool = λ x y. line_joins lines x y || line_joins lines y x in
    let lists = joined_lists v v joins in
    refused_read (HasFewNeighbours n) (first_refusal (λ before line. pair_code v (numbers_in line)) 0 lines) _
    (λ none.
    let all : grid (λ x y. (x == y) || has_edge lists x y) v 1 v ≤ grid (λ x y. x == y) v 1 v + grid (has_edge lists) v 1 v = grid_or (λ x y. x == y) (has_edge lists) v 1 v in
    let same : grid (has_edge lists) v 1 v ≡ grid joins v 1 v =
    grid_same (has_edge lists) joins v 1 v (λ x y low high from to. joined_edge joins v v x y low (omega (arith, high)) from to) in
    let both : grid joins v 1 v ≤ grid (line_joins lines) v 1 v + grid (turned (line_joins lines)) v 1 v = grid_or (line_joins lines) (turned (line_joins lines)) v 1 v in
    omega (arith, room, all, same, both, grid_rows (λ x y. x == y) v 1 v (λ x y k. eqb-true x y k), edges_short lines v v, turned_short lines v v))

pub graph_neighbours : (bytes : List ℕ) → IfRead (graph bytes) (HasFewNeighbours (length bytes))
unfolding graph
graph_neighbours bytes =
    within_read (HasFewNeighbours (length bytes)) bytes _
    (head_read (HasFewNeighbours (length bytes)) (λ line. size_given MAX_COLUMNS (numbers_in line)) graph_sized (filled_of bytes) (length bytes) (filled_short bytes)
    (λ v lines. graph_few v (length bytes) lines))
