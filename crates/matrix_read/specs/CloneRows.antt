-- What the matrix of a clone file is.
use Rattle.std.specs.Prelude.{◌≡◌, ◌↔◌, ℕ, ◌+◌, ◌<◌, ◌≤◌, List, [], length, codes, slice_get, slice_index_or, IsTrue, IsFalse, Some}
use Rattle.std.specs.List.{list_any, list_all}
use Rattle.std.specs.Str.{bytes_eq}
use Rattle.serde_json.specs.Data.{Data, Items}
use Rattle.column_order.specs.Orders.{has}
use Rattle.row_model.specs.Rows.{RowList, IsRow}
use Rattle.row_model.specs.declared.refusal.Read.TheVariants as read
use Rattle.row_model.specs.declared.TheConstants.{MAX_FILE_BYTES}
use Rattle.matrix_read.specs.Limits.{IsWithinLimits}
use Rattle.matrix_read.specs.Clones.{values_of, reading, is_probe, clones}
use Rattle.matrix_read.specs.CloneSteps.{array_at, probes_of}
use Rattle.text_lines.specs.Lines.{without_mark}
use Rattle.matrix_read.specs.Names.{has_twice}

-- a clone that names probes alone, and its row: it has a column exactly where the clone names the probe at that place
pub record IsCloneRow (probes : List (List ℕ)) (clone : Data) (row : List ℕ) : Type 0 where
  pub names : List (List ℕ)
  pub named : probes_of clone ≡ Some names
  pub known : IsTrue (list_all (is_probe probes) names)
  pub is_row : IsRow (length probes) row
  pub columns : (place : ℕ) → place < length probes → has row (place + 1) ≡ list_any (bytes_eq (slice_index_or probes place [])) names

-- a matrix of the probes and clones of a value: each probe is a column, no two of them equal, and row i is that of
-- clone i
pub record IsMatrixOf (value : Data) (m : RowList) : Type 0 where
  pub probes : List (List ℕ)
  pub clones : Items
  pub named : probes_of value ≡ Some probes
  pub listed : array_at (codes "clones") value ≡ Some clones
  pub distinct : IsFalse (has_twice probes)
  pub columns : m.columns ≡ length probes
  pub count : length m.rows ≡ length (values_of clones)
  pub rows : (i : ℕ) (clone : Data) → slice_get (values_of clones) i ≡ Some clone → IsCloneRow probes clone (slice_index_or m.rows i [])

-- bytes within the limit of their length that are read as one value, and a matrix within its limits of that value
pub record IsCloneFile (bytes : List ℕ) (m : RowList) : Type 0 where
  pub short : length bytes ≤ MAX_FILE_BYTES
  pub value : Data
  pub is_read : reading (without_mark bytes) ≡ Some value
  pub is_matrix : IsMatrixOf value m
  pub within : IsWithinLimits m

-- a file is read as a matrix exactly where it is a clone file of that matrix
abbrev pub CloneLaw : Type 0
CloneLaw = (bytes : List ℕ) (m : RowList) → (clones bytes ≡ read.Ok m) ↔ IsCloneFile bytes m
