-- What is read of a text of edges whose first lines were read.
use Rattle.std.specs.Prelude.{ℕ, ◌+◌, List, length, Option, Some, None, Result, if◌then◌else◌, nat_lt}
use Rattle.row_model.specs.Rows.{RowList}
use Rattle.row_model.specs.declared.refusal.Read.{Read}
use Rattle.row_model.specs.declared.refusal.Read.TheVariants as read
use Rattle.row_model.specs.declared.code.TheConstants.{LIMIT}
use Rattle.text_lines.specs.Lines.{NumberedLine, lines_of, filled_lines, unmarked_part}
use Rattle.text_lines.specs.Heads.{if_head, from_head}
use Rattle.graph_model.specs.Graphs.{BigraphValue, GraphValue}
use Rattle.graph_read.specs.Edges.{lists_of_lines}
use Rattle.graph_read.specs.Headings.{shape_named}
use Rattle.graph_read.specs.Placed.{lists_then}
use Rattle.graph_read.specs.declared.edges.Shape.{Shape}
use Rattle.graph_read.specs.declared.headings.Heading.{Heading}
use Rattle.graph_read.specs.declared.read_lists.EdgePlaces.{EdgePlaces}
use Rattle.graph_read.specs.declared.lines_read.LinesRead.{LinesRead}
use Rattle.graph_read.specs.declared.edges_reader.EdgesReader.{EdgesReader}
use Rattle.graph_read.specs.declared.graph_readers.BigraphReader.{BigraphReader}
use Rattle.graph_read.specs.declared.graph_readers.GraphReader.{GraphReader}

-- the lists of the lines behind a first one, which has this number, or the first refusal
abbrev pub lists_behind : ℕ → Result Shape ℕ → List NumberedLine → Read RowList
lists_behind number found lines = if_head number found (λ shape. lists_of_lines shape lines)

-- the lists of lines that are not blank, or their first refusal
abbrev pub lists_headed : Heading → List NumberedLine → Read RowList
lists_headed heading = from_head (shape_named heading) lists_of_lines

-- the lists of edges that were read, and behind them those of lines, or the first refusal
abbrev pub begun_then : Heading → Option (Read EdgePlaces) → List NumberedLine → Read RowList
begun_then heading (Some (read.Ok edges)) lines = lists_then edges.shape edges.places.items lines
begun_then heading (Some (read.Refused refusal)) lines = read.Refused refusal
begun_then heading None lines = lists_headed heading lines

-- the same behind the lines that were read
abbrev pub lines_then : LinesRead → List (List ℕ) → Read RowList
lines_then read lines = begun_then read.heading read.edges (filled_lines (read.passed + 1) lines)

-- the lists of a text of which these bytes are left, or its first refusal
abbrev pub lists_with : EdgesReader → List ℕ → Read RowList
lists_with reader text =
    if nat_lt reader.room (length text) then read.Refused (record { code = LIMIT; line = 0 })
    else lines_then reader.lines (lines_of (unmarked_part reader.is_begun text))

-- the bipartite graph with these lists, or the refusal
abbrev pub bigraph_of_lists : Read RowList → Read BigraphValue
bigraph_of_lists (read.Ok lists) = read.Ok (record { left = length lists.rows; right = lists.columns; neighbours = lists.rows })
bigraph_of_lists (read.Refused refusal) = read.Refused refusal

-- the bipartite graph of a text of which these bytes are left, or its first refusal
abbrev pub bigraph_then : BigraphReader → List ℕ → Read BigraphValue
bigraph_then reader text = bigraph_of_lists (lists_with reader.edges text)

-- the graph with these lists, or the refusal
abbrev pub graph_of_lists : Read RowList → Read GraphValue
graph_of_lists (read.Ok lists) = read.Ok (record { vertices = lists.columns; neighbours = lists.rows })
graph_of_lists (read.Refused refusal) = read.Refused refusal

-- the graph of a text of which these bytes are left, or its first refusal
abbrev pub graph_then : GraphReader → List ℕ → Read GraphValue
graph_then reader text = graph_of_lists (lists_with reader.edges text)
