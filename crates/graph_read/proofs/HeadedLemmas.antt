-- Graphs by the lists of a text.
use Rattle.std.proofs.Common.{◌≡◌, ◌∙◌, ℕ, ◌≤◌, nat_lt, List, [], ◌∷◌, length, Bool, true, false, if◌then◌else◌, Option, Some, None, Result, Ok, Err, refl, sym, ap}
use Rattle.row_model.specs.Rows.{RowList}
use Rattle.row_model.specs.Limits.{within_length}
use Rattle.row_model.specs.declared.refusal.Refusal.{Refusal}
use Rattle.row_model.specs.declared.refusal.Read.{Read}
use Rattle.row_model.specs.declared.refusal.Read.TheVariants as read
use Rattle.row_model.specs.declared.TheConstants.{MAX_COLUMNS, MAX_FILE_BYTES}
use Rattle.row_model.specs.declared.code.TheConstants.{LIMIT, RANGE}
use Rattle.text_lines.specs.Lines.{NumberedLine}
use Rattle.text_lines.specs.Rows.{refused_or}
use Rattle.text_lines.specs.Words.{words_of}
use Rattle.text_lines.specs.FirstRefusal.{filled_of}
use Rattle.text_lines.specs.declared.words.Numeral.{Numeral}
use Rattle.graph_model.specs.declared.TheConstants.{LEFT_BOUND}
use Rattle.graph_read.specs.Numbers.{is_zero, is_past, value_of, one_number, two_numbers}
use Rattle.graph_read.specs.Edges.{left_of, right_of, ways, lists_of, edges_of, edge_refusal, lists_of_lines, sides_named, vertices_named}
use Rattle.graph_read.specs.declared.edges.Shape.{Shape}
use Rattle.graph_read.specs.declared.edges.Shape.TheVariants.{Plain}
use Rattle.graph_read.specs.declared.headings.Heading.TheVariants.{Sides, Vertices}
use Rattle.graph_read.specs.Files.{bigraph, graph}
use Rattle.graph_read.specs.GraphFiles.{bigraph_with, bigraph_lines, bigraph_behind, graph_with, graph_lines, graph_behind}
use Rattle.graph_read.specs.Pieces.{lists_headed, lists_behind, bigraph_of_lists, graph_of_lists}
use Rattle.graph_read.proofs.ListLemmas.{length-lists_from}
use Rattle.graph_read.proofs.Same.{bigraph_same, graph_same}

-- what is made of lists, or their refusal
within_of : {V : Type 0} (of_lists : Read RowList → Read V) → ((refusal : Refusal) → of_lists (read.Refused refusal) ≡ read.Refused refusal) → (bytes : List ℕ) (lists : Read RowList) →
    of_lists (within_length bytes lists) ≡ within_length bytes (of_lists lists)
within_of {V} of_lists refused bytes lists = by (nat_lt MAX_FILE_BYTES (length bytes))
  where
    by : (long : Bool) → of_lists (if long then read.Refused (record { code = LIMIT; line = 0 }) else lists) ≡ (if long then read.Refused (record { code = LIMIT; line = 0 }) else of_lists lists)
    by true = refused (record { code = LIMIT; line = 0 })
    by false = refl

module _ (shape : Shape) (lines : List NumberedLine) where
  abbrev rows : List (List ℕ)
  rows = lists_of shape (edges_of shape lines)

  bigraph_lists : bigraph_of_lists (lists_of_lines shape lines) ≡ bigraph_with shape (lists_of_lines shape lines)
  bigraph_lists = by (edge_refusal shape lines)
    where
      by : (refusal : Option Refusal) → bigraph_of_lists (refused_or refusal (record { columns = right_of shape; rows = rows })) ≡ bigraph_with shape (refused_or refusal (record { columns = right_of shape; rows = rows }))
      by (Some refusal) = refl
      by None = ap (λ n. read.Ok (record { left = n; right = right_of shape; neighbours = rows })) (length-lists_from 1 (left_of shape) (right_of shape) (ways shape (edges_of shape lines)))

  graph_lists : right_of shape ≡ left_of shape → graph_of_lists (lists_of_lines shape lines) ≡ graph_with shape (lists_of_lines shape lines)
  graph_lists square = by (edge_refusal shape lines)
    where
      by : (refusal : Option Refusal) → graph_of_lists (refused_or refusal (record { columns = right_of shape; rows = rows })) ≡ graph_with shape (refused_or refusal (record { columns = right_of shape; rows = rows }))
      by (Some refusal) = refl
      by None = ap (λ n. read.Ok (record { vertices = n; neighbours = rows })) square

bigraph_headed : (limit : ℕ) (lines : List NumberedLine) → bigraph_of_lists (lists_headed (Sides limit) lines) ≡ bigraph_lines limit lines
bigraph_headed limit [] = refl
bigraph_headed limit (first ∷ later) = by (sides_named limit (two_numbers (words_of first.text)))
  where
    by : (sides : Result Shape ℕ) → bigraph_of_lists (lists_behind first.number sides later) ≡ bigraph_behind first.number sides later
    by (Ok shape) = bigraph_lists shape later
    by (Err code) = refl

-- vertices are both sides
vertices_square : (n : Option Numeral) (shape : Shape) → vertices_named n ≡ Ok shape → right_of shape ≡ left_of shape
vertices_square None shape is = absurd (cc)
vertices_square (Some n) shape is = by (is_zero n) (is_past MAX_COLUMNS n) is
  where
    by : (zero past : Bool) → (if zero then Err RANGE else if past then Err LIMIT else Ok (Plain (value_of n))) ≡ Ok shape → right_of shape ≡ left_of shape
    by true past h = absurd (cc)
    by false true h = absurd (cc)
    by false false h = let same : Plain (value_of n) ≡ shape = cc in sym (ap right_of same) ∙ ap left_of same

graph_headed : (lines : List NumberedLine) → graph_of_lists (lists_headed Vertices lines) ≡ graph_lines lines
graph_headed [] = refl
graph_headed (first ∷ later) = by (vertices_named (one_number (words_of first.text))) (vertices_square (one_number (words_of first.text)))
  where
    by : (vertices : Result Shape ℕ) → ((shape : Shape) → vertices ≡ Ok shape → right_of shape ≡ left_of shape) → graph_of_lists (lists_behind first.number vertices later) ≡ graph_behind first.number vertices later
    by (Ok shape) square = graph_lists shape later (square shape refl)
    by (Err code) square = refl

pub bigraph_file : (limit : ℕ) (bytes : List ℕ) → limit ≤ LEFT_BOUND → bigraph_of_lists (within_length bytes (lists_headed (Sides limit) (filled_of bytes))) ≡ bigraph limit bytes
bigraph_file limit bytes small =
    within_of bigraph_of_lists (λ refusal. refl) bytes (lists_headed (Sides limit) (filled_of bytes))
    ∙ ap (within_length bytes) (bigraph_headed limit (filled_of bytes)) ∙ sym (bigraph_same limit small bytes)

pub graph_file : (bytes : List ℕ) → graph_of_lists (within_length bytes (lists_headed Vertices (filled_of bytes))) ≡ graph bytes
graph_file bytes =
    within_of graph_of_lists (λ refusal. refl) bytes (lists_headed Vertices (filled_of bytes))
    ∙ ap (within_length bytes) (graph_headed (filled_of bytes)) ∙ sym (graph_same bytes)
