-- The edges that lines name.
use Rattle.std.specs.Prelude.{ℕ, zero, suc, ◌+◌, ◌==◌, ◌&&◌, ◌||◌, List, [], ◌∷◌, if◌then◌else◌, Option, Some, None, Result, Ok, Err}
use Rattle.row_model.specs.Rows.{RowList}
use Rattle.row_model.specs.declared.refusal.Refusal.{Refusal}
use Rattle.row_model.specs.declared.refusal.Read.{Read}
use Rattle.row_model.specs.declared.TheConstants.{MAX_COLUMNS}
use Rattle.row_model.specs.declared.code.TheConstants.{GRAMMAR, RANGE, SYMMETRY, LIMIT}
use Rattle.text_lines.specs.Words.{words_of}
use Rattle.text_lines.specs.Lines.{NumberedLine}
use Rattle.text_lines.specs.Rows.{columns_among, first_refusal, refused_or}
use Rattle.graph_read.specs.Numbers.{is_zero, is_past, is_within, value_of, two_numbers}
use Rattle.text_lines.specs.declared.words.Numeral.{Numeral}
use Rattle.graph_read.specs.declared.numbers.NumberPair.{NumberPair}
use Rattle.graph_read.specs.declared.edges.Edge.{Edge}
use Rattle.graph_read.specs.declared.edges.Shape.{Shape}
use Rattle.graph_read.specs.declared.edges.Shape.TheVariants.{Bipartite, Plain}

-- from how many vertices edges come
abbrev pub left_of : Shape → ℕ
left_of (Bipartite left right) = left
left_of (Plain vertices) = vertices

-- to how many vertices edges go
abbrev pub right_of : Shape → ℕ
right_of (Bipartite left right) = right
right_of (Plain vertices) = vertices

-- the code of a refusal, if there is one
abbrev pub refused_as : Result Edge ℕ → Option ℕ
refused_as (Ok edge) = None
refused_as (Err code) = Some code

-- an edge, or the code of its refusal as a loop
abbrev pub unless_loop : Shape → Edge → Result Edge ℕ
unless_loop (Bipartite left right) edge = Ok edge
unless_loop (Plain vertices) edge = if edge.from == edge.to then Err SYMMETRY else Ok edge

-- the edge that two numbers name, or the code of their refusal
abbrev pub edge_named : Shape → Option NumberPair → Result Edge ℕ
edge_named shape None = Err GRAMMAR
edge_named shape (Some pair) =
    if is_within (left_of shape) pair.first && is_within (right_of shape) pair.second
    then unless_loop shape (record { from = value_of pair.first; to = value_of pair.second })
    else Err RANGE

-- the code by which a line is refused as an edge, if it is
abbrev pub edge_code : Shape → List ℕ → Option ℕ
edge_code shape line = refused_as (edge_named shape (two_numbers (words_of line)))

-- an edge before others, where a line names one
abbrev pub edge_before : Result Edge ℕ → List Edge → List Edge
edge_before (Ok edge) edges = edge ∷ edges
edge_before (Err code) edges = edges

-- the edges that lines name
abbrev pub edges_of : Shape → List NumberedLine → List Edge
edges_of shape [] = []
edges_of shape (line ∷ lines) = edge_before (edge_named shape (two_numbers (words_of line.text))) (edges_of shape lines)

-- the first refusal among lines each of which is an edge, if there is one
abbrev pub edge_refusal : Shape → List NumberedLine → Option Refusal
edge_refusal shape lines = first_refusal (λ before line. edge_code shape line) 0 lines

-- edges both ways
abbrev pub both_ways : List Edge → List Edge
both_ways [] = []
both_ways (edge ∷ edges) = edge ∷ record { from = edge.to; to = edge.from } ∷ both_ways edges

-- the edges as each vertex of the left side sees them: those of a graph go both ways
abbrev pub ways : Shape → List Edge → List Edge
ways (Bipartite left right) edges = edges
ways (Plain vertices) edges = both_ways edges

-- the vertices that edges from x go to
abbrev pub ends_from : ℕ → List Edge → List ℕ
ends_from x [] = []
ends_from x (edge ∷ edges) = if edge.from == x then edge.to ∷ ends_from x edges else ends_from x edges

-- the lists of so many vertices from x on: of the vertices 1 to c those that the edges from it go to, ascending
abbrev pub lists_from : ℕ → ℕ → ℕ → List Edge → List (List ℕ)
lists_from x zero c edges = []
lists_from x (suc n) c edges = columns_among c (ends_from x edges) ∷ lists_from (x + 1) n c edges

-- the list of each vertex
abbrev pub lists_of : Shape → List Edge → List (List ℕ)
lists_of shape edges = lists_from 1 (left_of shape) (right_of shape) (ways shape edges)

-- the lists of the edges of lines, or the first refusal
abbrev pub lists_of_lines : Shape → List NumberedLine → Read RowList
lists_of_lines shape lines = refused_or (edge_refusal shape lines) (record { columns = right_of shape; rows = lists_of shape (edges_of shape lines) })

-- the sides that two numbers name, or the code of their refusal; the left side has at most so many vertices
abbrev pub sides_named : ℕ → Option NumberPair → Result Shape ℕ
sides_named limit None = Err GRAMMAR
sides_named limit (Some pair) =
    if is_zero pair.first || is_zero pair.second then Err RANGE
    else if is_past limit pair.first || is_past MAX_COLUMNS pair.second then Err LIMIT
    else Ok (Bipartite (value_of pair.first) (value_of pair.second))

-- the vertices that a number gives, or the code of its refusal
abbrev pub vertices_named : Option Numeral → Result Shape ℕ
vertices_named None = Err GRAMMAR
vertices_named (Some n) =
    if is_zero n then Err RANGE
    else if is_past MAX_COLUMNS n then Err LIMIT
    else Ok (Plain (value_of n))
