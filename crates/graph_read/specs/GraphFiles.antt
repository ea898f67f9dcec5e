-- The graphs that files write, as they are read: the numbers of a line in 64 bits, and the edges in a list.
use Rattle.std.specs.Prelude.{ℕ, List, Result}
use Rattle.row_model.specs.Rows.{RowList}
use Rattle.row_model.specs.declared.refusal.Read.{Read}
use Rattle.row_model.specs.declared.refusal.Read.TheVariants as read
use Rattle.text_lines.specs.Lines.{NumberedLine}
use Rattle.text_lines.specs.Heads.{if_head, from_head}
use Rattle.text_lines.specs.Words.{words_of}
use Rattle.graph_model.specs.Graphs.{BigraphValue, GraphValue}
use Rattle.graph_read.specs.Numbers.{one_number, two_numbers}
use Rattle.graph_read.specs.Edges.{left_of, right_of, lists_of_lines, sides_named, vertices_named}
use Rattle.graph_read.specs.declared.edges.Shape.{Shape}

-- the bipartite graph with these lists, or the refusal
abbrev pub bigraph_with : Shape → Read RowList → Read BigraphValue
bigraph_with shape (read.Ok lists) = read.Ok (record { left = left_of shape; right = right_of shape; neighbours = lists.rows })
bigraph_with shape (read.Refused refusal) = read.Refused refusal

-- the bipartite graph of the lines behind a first one, which has this number, or the first refusal
abbrev pub bigraph_behind : ℕ → Result Shape ℕ → List NumberedLine → Read BigraphValue
bigraph_behind number found lines = if_head number found (λ shape. bigraph_with shape (lists_of_lines shape lines))

-- the bipartite graph of lines that are not blank, or their first refusal
abbrev pub bigraph_lines : ℕ → List NumberedLine → Read BigraphValue
bigraph_lines limit = from_head (λ line. sides_named limit (two_numbers (words_of line))) (λ shape lines. bigraph_with shape (lists_of_lines shape lines))

-- the graph with these lists, or the refusal
abbrev pub graph_with : Shape → Read RowList → Read GraphValue
graph_with shape (read.Ok lists) = read.Ok (record { vertices = left_of shape; neighbours = lists.rows })
graph_with shape (read.Refused refusal) = read.Refused refusal

-- the graph of the lines behind a first one, which has this number, or the first refusal
abbrev pub graph_behind : ℕ → Result Shape ℕ → List NumberedLine → Read GraphValue
graph_behind number found lines = if_head number found (λ shape. graph_with shape (lists_of_lines shape lines))

-- the graph of lines that are not blank, or their first refusal
abbrev pub graph_lines : List NumberedLine → Read GraphValue
graph_lines = from_head (λ line. vertices_named (one_number (words_of line))) (λ shape lines. graph_with shape (lists_of_lines shape lines))
