-- The graphs that files write.
use Rattle.std.specs.Prelude.{ℕ, ◌==◌, ◌&&◌, ◌||◌, Bool, false, List, [], ◌∷◌, map, if◌then◌else◌, nat_lt, Option, Some, None, Result, Ok, Err}
use Rattle.std.specs.List.{list_any, range_with_len}
use Rattle.row_model.specs.Limits.{within_length}
use Rattle.row_model.specs.Rows.{columns_where}
use Rattle.row_model.specs.declared.refusal.Read.{Read}
use Rattle.row_model.specs.declared.TheConstants.{MAX_COLUMNS}
use Rattle.row_model.specs.declared.code.TheConstants.{GRAMMAR, RANGE, SYMMETRY, LIMIT}
use Rattle.text_lines.specs.Lines.{NumberedLine}
use Rattle.text_lines.specs.FirstRefusal.{filled_of}
use Rattle.text_lines.specs.Heads.{size_given, from_head}
use Rattle.text_lines.specs.Rows.{code_or, first_refusal, refused_or}
use Rattle.text_lines.specs.Words.{numbers_in}
use Rattle.graph_model.specs.Graphs.{BigraphValue, GraphValue}

-- the two numbers of a line as the sizes of two sides, or the code of their refusal; the left side has at most so many
-- vertices
abbrev pub sizes_given : ℕ → List (Option ℕ) → Result (ℕ × ℕ) ℕ
sizes_given limit (Some n ∷ Some c ∷ []) =
    if (n == 0) || (c == 0) then Err RANGE
    else if nat_lt limit n || nat_lt MAX_COLUMNS c then Err LIMIT
    else Ok (n, c)
sizes_given limit numbers = Err GRAMMAR

-- the code by which the numbers of a line are refused as an edge from one of 1 to n to one of 1 to c, if they are
abbrev pub ends_code : ℕ → ℕ → List (Option ℕ) → Option ℕ
ends_code n c (Some x ∷ Some y ∷ []) = if ((x == 0) || nat_lt n x) || ((y == 0) || nat_lt c y) then Some RANGE else None
ends_code n c numbers = Some GRAMMAR

-- the same of a graph, where an edge joins two different ones of 1 to n
abbrev pub pair_code : ℕ → List (Option ℕ) → Option ℕ
pair_code n (Some u ∷ Some v ∷ []) = code_or (ends_code n n (Some u ∷ Some v ∷ [])) (if u == v then Some SYMMETRY else None)
pair_code n numbers = Some GRAMMAR

-- whether the numbers of a line are x and y
abbrev pub are_ends : ℕ → ℕ → List (Option ℕ) → Bool
are_ends x y (Some a ∷ Some b ∷ []) = (a == x) && (b == y)
are_ends x y numbers = false

-- whether the numbers of some line are x and y
abbrev pub line_joins : List NumberedLine → ℕ → ℕ → Bool
line_joins lines x y = list_any (λ line. are_ends x y (numbers_in line.text)) lines

-- for each of 1 to n those of 1 to c that it is joined to, ascending
abbrev pub joined_lists : ℕ → ℕ → (ℕ → ℕ → Bool) → List (List ℕ)
joined_lists n c joined = map (λ x. columns_where c (joined x)) (range_with_len 1 n)

-- the bipartite graph of these sizes whose edges are the lines, or their first refusal
abbrev pub bigraph_sized : ℕ × ℕ → List NumberedLine → Read BigraphValue
bigraph_sized sizes lines =
    refused_or (first_refusal (λ before line. ends_code sizes.0 sizes.1 (numbers_in line)) 0 lines)
    (record { left = sizes.0; right = sizes.1; neighbours = joined_lists sizes.0 sizes.1 (line_joins lines) })

-- the bipartite graph of the bytes of a file, or their first refusal; the left side has at most so many vertices
unfoldable pub bigraph : ℕ → List ℕ → Read BigraphValue
bigraph limit bytes = within_length bytes (from_head (λ line. sizes_given limit (numbers_in line)) bigraph_sized (filled_of bytes))

-- the graph of n vertices whose edges are the lines, either way round, or their first refusal
abbrev pub graph_sized : ℕ → List NumberedLine → Read GraphValue
graph_sized n lines =
    refused_or (first_refusal (λ before line. pair_code n (numbers_in line)) 0 lines)
    (record { vertices = n; neighbours = joined_lists n n (λ u v. line_joins lines u v || line_joins lines v u) })

-- the graph of the bytes of a file, or their first refusal
unfoldable pub graph : List ℕ → Read GraphValue
graph bytes = within_length bytes (from_head (λ line. size_given MAX_COLUMNS (numbers_in line)) graph_sized (filled_of bytes))
