-- The file of a tree.
use Rattle.std.specs.Prelude.{◌≡◌, ◌⊎◌, ◌↔◌, ℕ, ◌-◌, ◌<◌, ◌≤◌, ◌==◌, if◌then◌else◌, List, [], ◌++◌, length, take, slice_index, Option, Some, None, codes}
use Rattle.row_model.specs.Limits.{within_length}
use Rattle.row_model.specs.declared.refusal.Read.{Read}
use Rattle.row_model.specs.declared.refusal.Read.TheVariants as read
use Rattle.row_model.specs.declared.code.TheConstants.{LIMIT, TREE}
use Rattle.row_model.specs.declared.TheConstants.{MAX_COLUMNS, MAX_FILE_BYTES}
use Rattle.text_lines.specs.Lines.{without_mark}
use Rattle.pq_tree.specs.Outline.{Outline}
use Rattle.pq_tree.specs.Proper.{IsProper}
use Rattle.pq_tree.specs.Text.{tree_text}
use Rattle.pq_tree.specs.PqTree.{column_count, outline}
use Rattle.pq_tree.specs.declared.PqTree.{PqTree}
use Rattle.command_input.specs.Instances.{map_read, IfRead}
use Rattle.command_input.specs.TreeReading.{tree_in_text}

-- how many bytes the end of line at the end of a text has: a line feed, perhaps behind a carriage return, or nothing
abbrev pub end_length : List ℕ → ℕ
end_length text =
    if slice_index text (length text - 1) == 10 then (if slice_index text (length text - 2) == 13 then 2 else 1) else 0

-- a text without this end
abbrev pub without_end : List ℕ → List ℕ
without_end text = take (length text - end_length text) text

-- the tree, or the refusal of a file that writes none
abbrev pub read_tree : Option Outline → Read Outline
read_tree (Some t) = read.Ok t
read_tree None = read.Refused (record { code = TREE; line = 0 })

-- The tree over 1 to c in the bytes of a file, or their refusal. A byte order mark at the start and an end of line at
-- the end are no part of the tree's text.
unfoldable pub tree_file : ℕ → List ℕ → Read Outline
tree_file c bytes = within_length bytes (read_tree (tree_in_text c (without_end (without_mark bytes))))

-- the bytes of a file are read as this tree, or refused so
abbrev pub ReadsTree : ℕ → List ℕ → Read PqTree → Type 0
ReadsTree c bytes made = map_read outline made ≡ tree_file c bytes

-- whatever the bytes, a tree that is read is over so many columns
abbrev pub HoldsTree : ℕ → Read PqTree → Type 0
HoldsTree c made = IfRead made (λ t. column_count t ≡ c)

-- nothing, a line feed, or a carriage return and a line feed
abbrev pub IsLineEnd : List ℕ → Type 0
IsLineEnd end = (end ≡ []) ⊎ (end ≡ codes "\n") ⊎ (end ≡ codes "\r\n")

-- the bytes write the tree: its text, which an end of line may follow, and a byte order mark may stand before both
pub record WritesTree (c : ℕ) (bytes : List ℕ) (t : Outline) : Type 0 where
  pub proper : IsProper c t
  pub end : List ℕ
  pub is_end : IsLineEnd end
  pub text : without_mark bytes ≡ tree_text t ++ end

-- up to the limit, a file is read as a tree exactly where its bytes write the tree
abbrev pub TreeFileLaw : Type 0
TreeFileLaw =
    (c : ℕ) (bytes : List ℕ) (t : Outline) →
    c ≤ MAX_COLUMNS →
    length bytes ≤ MAX_FILE_BYTES →
    (tree_file c bytes ≡ read.Ok t) ↔ WritesTree c bytes t

-- one that writes no tree has the code of trees and no line, and one past the limit has the code of limits
pub record TreeRefusalLaw : Type 0 where
  pub none : (c : ℕ) (bytes : List ℕ) →
      c ≤ MAX_COLUMNS →
      length bytes ≤ MAX_FILE_BYTES →
      ((t : Outline) → WritesTree c bytes t → ⊥) →
      tree_file c bytes ≡ read.Refused (record { code = TREE; line = 0 })
  pub long : (c : ℕ) (bytes : List ℕ) →
      MAX_FILE_BYTES < length bytes →
      tree_file c bytes ≡ read.Refused (record { code = LIMIT; line = 0 })
