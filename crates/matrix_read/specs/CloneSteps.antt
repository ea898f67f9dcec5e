-- How probes and clones are read item after item.
use Rattle.std.specs.Prelude.{ℕ, suc, ◌+◌, ◌&&◌, List, [], ◌∷◌, map, length, codes, if◌then◌else◌, Bool, true, is_some, unwrap_or, Option, Some, None, option_and_then}
use Rattle.serde_json.specs.Data.{Data, Items, no_items, item}
use Rattle.serde_json.specs.Find.{get, as_array, as_str}
use Rattle.row_model.specs.Rows.{RowList}
use Rattle.row_model.specs.declared.refusal.Refusal.{Refusal}
use Rattle.row_model.specs.declared.refusal.Read.{Read}
use Rattle.row_model.specs.declared.refusal.Read.TheVariants as answer
use Rattle.row_model.specs.declared.code.TheConstants.{JSON, SHAPE}
use Rattle.text_lines.specs.Rows.{refusal_or, refused_or, columns_among}
use Rattle.matrix_read.specs.Clones.{column_of, names_code, head_code}

-- the array under a key of an object
abbrev pub array_at : List ℕ → Data → Option Items
array_at key value = option_and_then as_array (get key value)

-- whether each item is a string
abbrev pub are_strings : Items → Bool
are_strings no_items = true
are_strings (item value items) = is_some (as_str value) && are_strings items

-- the bytes of a string; another value has none
abbrev pub text_of : Data → List ℕ
text_of value = unwrap_or (as_str value) []

-- the bytes of each item
abbrev pub texts_of : Items → List (List ℕ)
texts_of no_items = []
texts_of (item value items) = text_of value ∷ texts_of items

-- the items of an array of strings
abbrev pub strings_of : Items → Option (List (List ℕ))
strings_of items = if are_strings items then Some (texts_of items) else None

-- the strings of the array of strings under a key of an object
abbrev pub strings_at : List ℕ → Data → Option (List (List ℕ))
strings_at key value = option_and_then strings_of (array_at key value)

-- how many items there are
abbrev pub count : Items → ℕ
count no_items = 0
count (item value items) = suc (count items)

-- the strings under `probes`
abbrev pub probes_of : Data → Option (List (List ℕ))
probes_of value = strings_at (codes "probes") value

-- the first refusal among clones, if there is one, where the first of them has this number
unfoldable pub first_refused : List (List ℕ) → ℕ → Items → Option Refusal
first_refused probes number no_items = None
first_refused probes number (item clone clones) = refusal_or (names_code probes (probes_of clone)) number (first_refused probes (number + 1) clones)

-- the row of names: the set of their columns
abbrev pub names_row : List (List ℕ) → List (List ℕ) → List ℕ
names_row probes names = columns_among (length probes) (map (column_of probes) names)

-- the row of a clone: that of its probes
abbrev pub clone_row : List (List ℕ) → Data → List ℕ
clone_row probes clone = names_row probes (unwrap_or (probes_of clone) [])

-- the row of each clone
abbrev pub clone_rows : List (List ℕ) → Items → List (List ℕ)
clone_rows probes no_items = []
clone_rows probes (item clone clones) = clone_row probes clone ∷ clone_rows probes clones

-- the matrix of clones over these probes, or the first refusal of a clone
abbrev pub clone_matrix : List (List ℕ) → Items → Read RowList
clone_matrix probes clones = refused_or (first_refused probes 1 clones) (record { columns = length probes; rows = clone_rows probes clones })

-- the refusal of this code without a line, or what follows
abbrev pub unless_refused : Option ℕ → Read RowList → Read RowList
unless_refused (Some code) rest = answer.Refused (record { code = code; line = 0 })
unless_refused None rest = rest

-- the matrix of probes and clones, or their first refusal
abbrev pub matrix_of : List (List ℕ) → Items → Read RowList
matrix_of probes clones = unless_refused (head_code probes (count clones)) (clone_matrix probes clones)

-- the matrix, where there are an array of strings and an array
abbrev pub if_shaped : Option (List (List ℕ)) → Option Items → Read RowList
if_shaped (Some probes) (Some clones) = matrix_of probes clones
if_shaped probes clones = answer.Refused (record { code = SHAPE; line = 0 })

-- the matrix of a value, or its first refusal; bytes without a value are refused
abbrev pub if_read : Option Data → Read RowList
if_read None = answer.Refused (record { code = JSON; line = 0 })
if_read (Some value) = if_shaped (probes_of value) (array_at (codes "clones") value)
