-- The first refusal of dense and of sparse files, apart from how it is found.
use Rattle.std.specs.Prelude.{◌≡◌, ◌≤◌, ℕ, List, ◌∷◌, length, Option, Some, None, Result, Ok, Err}
use Rattle.row_model.specs.declared.refusal.Refusal.{Refusal}
use Rattle.row_model.specs.declared.refusal.Read.TheVariants as read
use Rattle.row_model.specs.declared.TheConstants.{MAX_FILE_BYTES}
use Rattle.text_lines.specs.Words.{words_of}
use Rattle.matrix_read.specs.SparseSteps.{only_word, width_given}
use Rattle.matrix_read.specs.Dense.{width_of, digit_matrix, dense}
use Rattle.matrix_read.specs.DenseSteps.{first_code, row_code}
use Rattle.matrix_read.specs.Sparse.{line_code, named_matrix, sparse, further}
use Rattle.text_lines.specs.FirstRefusal.{IsOfFirstLine, NoLineRefused, RefusesLong, HeadRefusals, TakesLines, filled_of, numbered_of}

-- the width that the first row of a dense file gives, or the code of its refusal
abbrev pub dense_head : List ℕ → Result ℕ ℕ
dense_head line = unless (first_code line) (width_of line)
  where
    unless : Option ℕ → ℕ → Result ℕ ℕ
    unless (Some code) width = Err code
    unless None width = Ok width

-- the number of columns that the first line of a sparse file gives, or the code of its refusal
abbrev pub sparse_head : List ℕ → Result ℕ ℕ
sparse_head line = width_given (only_word (words_of line))

-- dense files, whose head is the first row
pub record DenseRefusals : Type 0 where
  pub refused : HeadRefusals dense filled_of dense_head (λ width later. row_code width) 1
  pub taken : TakesLines dense filled_of dense_head (λ width later. row_code width) 1 (λ width head later. digit_matrix width (head ∷ later))

-- sparse files, whose head has the number of columns
pub record SparseRefusals : Type 0 where
  pub refused : HeadRefusals sparse numbered_of sparse_head (λ c later. line_code c) 0
  pub taken : TakesLines sparse numbered_of sparse_head (λ c later. line_code c) 0 (λ c head later. named_matrix c later)

-- files of further rows have no head
pub record FurtherRefusals : Type 0 where
  pub too_long : (c : ℕ) → RefusesLong (further c)
  pub bad_line : (c : ℕ) (bytes : List ℕ) (refusal : Refusal) → length bytes ≤ MAX_FILE_BYTES → IsOfFirstLine (line_code c) 0 (numbered_of bytes) refusal → further c bytes ≡ read.Refused refusal
  pub taken : (c : ℕ) (bytes : List ℕ) → length bytes ≤ MAX_FILE_BYTES → NoLineRefused (line_code c) 0 (numbered_of bytes) → further c bytes ≡ read.Ok (named_matrix c (numbered_of bytes))
