-- What the first line of a text of edges gives.
use Rattle.std.specs.Prelude.{◌≡◌, ℕ, List, Option, Some, Result}
use Rattle.row_model.specs.declared.refusal.Read.{Read}
use Rattle.row_model.specs.declared.refusal.Read.TheVariants as read
use Rattle.row_model.specs.declared.TheConstants.{MAX_COLUMNS}
use Rattle.text_lines.specs.Words.{words_of}
use Rattle.graph_read.specs.Numbers.{one_number, two_numbers}
use Rattle.graph_read.specs.Edges.{left_of, sides_named, vertices_named}
use Rattle.graph_read.specs.declared.edges.Shape.{Shape}
use Rattle.graph_read.specs.declared.edges.Shape.TheVariants.{Plain}
use Rattle.graph_read.specs.declared.headings.Heading.{Heading}
use Rattle.graph_read.specs.declared.headings.Heading.TheVariants.{Sides, Vertices}
use Rattle.graph_read.specs.declared.read_lists.EdgePlaces.{EdgePlaces}

-- how many vertices the left side may have
abbrev pub left_limit : Heading → ℕ
left_limit (Sides limit) = limit
left_limit Vertices = MAX_COLUMNS

-- the vertices that a first line gives, or the code of its refusal
abbrev pub shape_named : Heading → List ℕ → Result Shape ℕ
shape_named (Sides limit) line = sides_named limit (two_numbers (words_of line))
shape_named Vertices line = vertices_named (one_number (words_of line))

-- where the first line gives vertices, edges go between these
abbrev pub IsShapeOf : Heading → Shape → Type 0
IsShapeOf heading shape = heading ≡ Vertices → shape ≡ Plain (left_of shape)

-- so do the edges that were read, if any were
abbrev pub AreEdgesOf : Heading → Option (Read EdgePlaces) → Type 0
AreEdgesOf heading edges = (some : EdgePlaces) → edges ≡ Some (read.Ok some) → IsShapeOf heading some.shape
