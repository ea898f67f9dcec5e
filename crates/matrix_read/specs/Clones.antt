-- A matrix as probes and clones in JSON: each probe is a column, and each clone is a row.
use Rattle.std.specs.Prelude.{ℕ, suc, ◌+◌, ◌==◌, List, [], ◌∷◌, map, length, codes, if◌then◌else◌, Bool, nat_lt, is_some, unwrap_or, Option, Some, None, option_map, option_and_then}
use Rattle.std.specs.List.{list_any, list_all, position_or_len}
use Rattle.std.specs.Str.{bytes_eq, is_utf8}
use Rattle.serde_json.specs.Data.{Data, Items, no_items, item}
use Rattle.serde_json.specs.Find.{get, as_array, as_str}
use Rattle.serde_json.specs.Read.{read}
use Rattle.row_model.specs.Limits.{within_length}
use Rattle.row_model.specs.Rows.{RowList}
use Rattle.row_model.specs.declared.refusal.Refusal.{Refusal}
use Rattle.row_model.specs.declared.refusal.Read.{Read}
use Rattle.row_model.specs.declared.refusal.Read.TheVariants as answer
use Rattle.row_model.specs.declared.TheConstants.{MAX_COLUMNS, MAX_ROWS}
use Rattle.row_model.specs.declared.code.TheConstants.{EMPTY, RANGE, TWICE, LIMIT, JSON, SHAPE}
use Rattle.text_lines.specs.Lines.{without_mark}
use Rattle.text_lines.specs.Rows.{refusal_or, refused_or, columns_among}
use Rattle.matrix_read.specs.Names.{has_twice}

-- the value that `serde_json` reads; bytes that are no UTF-8 have none
abbrev pub reading : List ℕ → Option Data
reading text = if is_utf8 text then read text else None

-- the items of an array as a list
abbrev pub values_of : Items → List Data
values_of no_items = []
values_of (item value items) = value ∷ values_of items

-- the items of the array under a key of an object
abbrev pub values_at : List ℕ → Data → Option (List Data)
values_at key value = option_map values_of (option_and_then as_array (get key value))

-- the values as strings, where each is one
abbrev pub as_strings : List Data → Option (List (List ℕ))
as_strings values = if list_all (λ value. is_some (as_str value)) values then Some (map (λ value. unwrap_or (as_str value) []) values) else None

-- the strings under `probes`
abbrev pub probes_in : Data → Option (List (List ℕ))
probes_in value = option_and_then as_strings (values_at (codes "probes") value)

-- whether a probe has the name
abbrev pub is_probe : List (List ℕ) → List ℕ → Bool
is_probe probes name = list_any (bytes_eq name) probes

-- the column of a name: the place of the probe that has it, from 1
abbrev pub column_of : List (List ℕ) → List ℕ → ℕ
column_of probes name = suc (position_or_len (bytes_eq name) probes)

-- the code by which names are refused as the probes of a clone, if they are: there is an array of strings, and each is
-- a probe
abbrev pub names_code : List (List ℕ) → Option (List (List ℕ)) → Option ℕ
names_code probes None = Some SHAPE
names_code probes (Some names) = if list_all (is_probe probes) names then None else Some RANGE

-- the first refusal among clones, if there is one, where the first of them has this number
abbrev pub clones_refused : List (List ℕ) → ℕ → List Data → Option Refusal
clones_refused probes number [] = None
clones_refused probes number (clone ∷ clones) = refusal_or (names_code probes (probes_in clone)) number (clones_refused probes (number + 1) clones)

-- the row of a clone: the set of the columns of its probes
abbrev pub row_of_probes : List (List ℕ) → Data → List ℕ
row_of_probes probes clone = columns_among (length probes) (map (column_of probes) (unwrap_or (probes_in clone) []))

-- the code by which the probes or the number of clones is refused, if they are
abbrev pub head_code : List (List ℕ) → ℕ → Option ℕ
head_code probes clones =
    if length probes == 0 then Some EMPTY
    else if nat_lt MAX_COLUMNS (length probes) then Some LIMIT
    else if has_twice probes then Some TWICE
    else if nat_lt MAX_ROWS clones then Some LIMIT
    else None

-- the matrix of probes and clones, where there are both, or their first refusal
abbrev pub clones_over : Option (List (List ℕ)) → Option (List Data) → Read RowList
clones_over (Some probes) (Some clones) =
    refused_or (refusal_or (head_code probes (length clones)) 0 (clones_refused probes 1 clones))
    (record { columns = length probes; rows = map (row_of_probes probes) clones })
clones_over probes clones = answer.Refused (record { code = SHAPE; line = 0 })

-- the matrix of a value, or its first refusal; bytes without a value are refused
abbrev pub value_read : Option Data → Read RowList
value_read None = answer.Refused (record { code = JSON; line = 0 })
value_read (Some value) = clones_over (probes_in value) (values_at (codes "clones") value)

-- the matrix of the bytes of a file, or their first refusal
unfoldable pub clones : List ℕ → Read RowList
clones bytes = within_length bytes (value_read (reading (without_mark bytes)))
