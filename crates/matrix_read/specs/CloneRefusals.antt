-- What is refused of clone files, and by which cause.
use Rattle.std.specs.Prelude.{◌≡◌, ◌<◌, ◌≤◌, ℕ, ◌+◌, List, length, codes, slice_get, IsTrue, IsFalse, Some, None}
use Rattle.serde_json.specs.Data.{Data, Items}
use Rattle.row_model.specs.declared.refusal.Refusal.{Refusal}
use Rattle.row_model.specs.declared.refusal.Read.TheVariants as read
use Rattle.row_model.specs.declared.TheConstants.{MAX_COLUMNS, MAX_ROWS, MAX_FILE_BYTES}
use Rattle.row_model.specs.declared.code.TheConstants.{EMPTY, TWICE, LIMIT, JSON, SHAPE}
use Rattle.text_lines.specs.Lines.{without_mark}
use Rattle.matrix_read.specs.Names.{has_twice}
use Rattle.matrix_read.specs.Clones.{reading, names_code, clones, values_of}
use Rattle.matrix_read.specs.CloneSteps.{array_at, probes_of, clone_rows}
use Rattle.text_lines.specs.FirstRefusal.{RefusesLong}

-- bytes within the limit of their length that are read as this value
pub record HasValue (bytes : List ℕ) (value : Data) : Type 0 where
  pub short : length bytes ≤ MAX_FILE_BYTES
  pub is_read : reading (without_mark bytes) ≡ Some value

-- bytes whose value is an object with these strings under `probes` and these items under `clones`
pub record HasShape (bytes : List ℕ) (probes : List (List ℕ)) (items : Items) : Type 0 where
  pub value : Data
  pub has : HasValue bytes value
  pub named : probes_of value ≡ Some probes
  pub listed : array_at (codes "clones") value ≡ Some items

-- as many probes as there may be columns, one at least
pub record AreFew (probes : List (List ℕ)) : Type 0 where
  pub some : 1 ≤ length probes
  pub narrow : length probes ≤ MAX_COLUMNS

-- such probes, no two of them equal, and as many clones as there may be rows
pub record AreWithin (probes : List (List ℕ)) (items : Items) : Type 0 where
  pub few : AreFew probes
  pub distinct : IsFalse (has_twice probes)
  pub rows : length (values_of items) ≤ MAX_ROWS

-- the refusal of the first clone that is refused, by its number, from 1
pub record IsOfFirstClone (probes : List (List ℕ)) (items : Items) (refusal : Refusal) : Type 0 where
  pub place : ℕ
  pub clone : Data
  pub stands : slice_get (values_of items) place ≡ Some clone
  pub line : refusal.line ≡ place + 1
  pub code : names_code probes (probes_of clone) ≡ Some refusal.code
  pub earlier : (i : ℕ) (other : Data) → i < place → slice_get (values_of items) i ≡ Some other → names_code probes (probes_of other) ≡ None

-- no clone is refused
abbrev pub NoCloneRefused : List (List ℕ) → Items → Type 0
NoCloneRefused probes items = (i : ℕ) (clone : Data) → slice_get (values_of items) i ≡ Some clone → names_code probes (probes_of clone) ≡ None

-- a file is refused by this code, and no line is named
abbrev pub IsRefused : List ℕ → ℕ → Type 0
IsRefused bytes code = clones bytes ≡ read.Refused (record { code = code; line = 0 })

-- the refusals of clone files. After the length of the file come bytes without a value, then a value of another shape,
-- and then the probes and the number of clones: no probe, too many, two that are equal, too many clones. Last comes the
-- first clone that is refused; a file in which nothing is refused is read as the matrix of its clones over its probes
pub record CloneRefusals : Type 0 where
  pub too_long : RefusesLong clones
  pub no_value : (bytes : List ℕ) → length bytes ≤ MAX_FILE_BYTES → reading (without_mark bytes) ≡ None → IsRefused bytes JSON
  pub no_probes : (bytes : List ℕ) (value : Data) → HasValue bytes value → probes_of value ≡ None → IsRefused bytes SHAPE
  pub no_clones : (bytes : List ℕ) (value : Data) → HasValue bytes value → array_at (codes "clones") value ≡ None → IsRefused bytes SHAPE
  pub no_column : (bytes : List ℕ) (probes : List (List ℕ)) (items : Items) → HasShape bytes probes items → length probes ≡ 0 → IsRefused bytes EMPTY
  pub many_probes : (bytes : List ℕ) (probes : List (List ℕ)) (items : Items) → HasShape bytes probes items → MAX_COLUMNS < length probes → IsRefused bytes LIMIT
  pub twice : (bytes : List ℕ) (probes : List (List ℕ)) (items : Items) → HasShape bytes probes items → AreFew probes → IsTrue (has_twice probes) → IsRefused bytes TWICE
  pub many_clones : (bytes : List ℕ) (probes : List (List ℕ)) (items : Items) →
      HasShape bytes probes items → AreFew probes → IsFalse (has_twice probes) → MAX_ROWS < length (values_of items) → IsRefused bytes LIMIT
  pub bad_clone : (bytes : List ℕ) (probes : List (List ℕ)) (items : Items) (refusal : Refusal) →
      HasShape bytes probes items → AreWithin probes items → IsOfFirstClone probes items refusal → clones bytes ≡ read.Refused refusal
  pub taken : (bytes : List ℕ) (probes : List (List ℕ)) (items : Items) →
      HasShape bytes probes items → AreWithin probes items → NoCloneRefused probes items →
      clones bytes ≡ read.Ok (record { columns = length probes; rows = clone_rows probes items })
