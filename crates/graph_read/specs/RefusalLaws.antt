-- What the readers of graphs and of distances refuse.
use Rattle.std.specs.Prelude.{◌≡◌, ◌<◌, ◌≤◌, ◌||◌, ℕ, List, ◌∷◌, length, Result, Ok}
use Rattle.row_model.specs.declared.refusal.Read.TheVariants as read
use Rattle.row_model.specs.declared.TheConstants.{MAX_COLUMNS, MAX_FILE_BYTES}
use Rattle.row_model.specs.declared.code.TheConstants.{COUNT}
use Rattle.text_lines.specs.Lines.{NumberedLine}
use Rattle.text_lines.specs.FirstRefusal.{NoLineRefused, HeadRefusals, TakesLines, filled_of}
use Rattle.text_lines.specs.Heads.{size_given}
use Rattle.text_lines.specs.Words.{words_of, numbers_in}
use Rattle.graph_read.specs.Numbers.{one_number, two_numbers}
use Rattle.graph_read.specs.DistanceFiles.{items_named, row_line, table_written, distances}
use Rattle.graph_read.specs.Edges.{sides_named, vertices_named}
use Rattle.graph_read.specs.Files.{sizes_given, ends_code, pair_code, line_joins, joined_lists, bigraph, graph}
use Rattle.graph_read.specs.declared.edges.Shape.{Shape}

-- the sides that a first line gives, or the code of its refusal
abbrev pub sides_head : ℕ → List ℕ → Result Shape ℕ
sides_head limit line = sides_named limit (two_numbers (words_of line))

-- the vertices that a first line gives, or the code of its refusal
abbrev pub vertices_head : List ℕ → Result Shape ℕ
vertices_head line = vertices_named (one_number (words_of line))

-- files of bipartite graphs
pub record BigraphRefusals : Type 0 where
  pub refused : (limit : ℕ) → HeadRefusals (bigraph limit) filled_of (λ line. sizes_given limit (numbers_in line)) (λ sizes later before line. ends_code sizes.0 sizes.1 (numbers_in line)) 0
  pub taken : (limit : ℕ) →
      TakesLines (bigraph limit) filled_of (λ line. sizes_given limit (numbers_in line)) (λ sizes later before line. ends_code sizes.0 sizes.1 (numbers_in line)) 0
      (λ sizes head later. record { left = sizes.0; right = sizes.1; neighbours = joined_lists sizes.0 sizes.1 (line_joins later) })

-- files of graphs
pub record GraphRefusals : Type 0 where
  pub refused : HeadRefusals graph filled_of (λ line. size_given MAX_COLUMNS (numbers_in line)) (λ n later before line. pair_code n (numbers_in line)) 0
  pub taken :
      TakesLines graph filled_of (λ line. size_given MAX_COLUMNS (numbers_in line)) (λ n later before line. pair_code n (numbers_in line)) 0
      (λ n head later. record { vertices = n; neighbours = joined_lists n n (λ u v. line_joins later u v || line_joins later v u) })

-- the number of items that a first line gives, or the code of its refusal
abbrev pub items_head : List ℕ → Result ℕ ℕ
items_head line = items_named (one_number (words_of line))

-- files of distances, which are refused last where rows are missing
pub record DistancesRefusals : Type 0 where
  pub refused : HeadRefusals distances filled_of items_head row_line 0
  pub missing : (bytes : List ℕ) (head : NumberedLine) (later : List NumberedLine) (n : ℕ) →
      length bytes ≤ MAX_FILE_BYTES → filled_of bytes ≡ head ∷ later → items_head head.text ≡ Ok n → NoLineRefused (row_line n later) 0 later →
      length later < n → distances bytes ≡ read.Refused (record { code = COUNT; line = 0 })
  pub taken : (bytes : List ℕ) (head : NumberedLine) (later : List NumberedLine) (n : ℕ) →
      length bytes ≤ MAX_FILE_BYTES → filled_of bytes ≡ head ∷ later → items_head head.text ≡ Ok n → NoLineRefused (row_line n later) 0 later →
      n ≤ length later → distances bytes ≡ read.Ok (table_written n later)
