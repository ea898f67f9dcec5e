-- What a clone file names: the probes, and the probes of each clone. All else of its value is passed over.
use Rattle.std.specs.Prelude.{◌≡◌, ℕ, ◌+◌, List, [], ◌∷◌, ◌++◌, map, length, codes, Option, Some, None, option_map, option_and_then, unwrap_or}
use Rattle.std.specs.Borrow.{Bor}
use Rattle.std.specs.declared.vec.Vec.{Vec}
use Rattle.std.specs.declared.alloc.Global.{Global}
use Rattle.json.specs.Token.{Token}
use Rattle.serde_json.specs.Data.{Data, object, Items, no_items, item, Members, put}
use Rattle.serde_json.specs.Find.{as_array}
use Rattle.row_model.specs.Rows.{RowList}
use Rattle.row_model.specs.declared.refusal.Refusal.{Refusal}
use Rattle.row_model.specs.declared.refusal.Read.{Read}
use Rattle.row_model.specs.declared.refusal.Read.TheVariants as answer
use Rattle.row_model.specs.declared.code.TheConstants.{SHAPE}
use Rattle.matrix_read.specs.declared.clone_names.CloneNames.{CloneNames}
use Rattle.matrix_read.specs.Names.{bytes_of}
use Rattle.text_lines.specs.Rows.{refusal_or, refused_or}
use Rattle.matrix_read.specs.Clones.{names_code, head_code}
use Rattle.matrix_read.specs.JsonSteps.{value_at}
use Rattle.matrix_read.specs.CloneSteps.{strings_of, array_at, probes_of, names_row, unless_refused}

-- the strings of an array of strings; another value has none
abbrev pub array_strings : Data → Option (List (List ℕ))
array_strings value = option_and_then strings_of (as_array value)

-- the probes of an object with these members
abbrev pub member_probes : Members → Option (List (List ℕ))
member_probes members = probes_of (object members)

-- the probes of each clone
abbrev pub clone_names : Items → List (Option (List (List ℕ)))
clone_names no_items = []
clone_names (item clone clones) = probes_of clone ∷ clone_names clones

-- the probes of each clone in an array; another value has none
abbrev pub array_clones : Data → Option (List (Option (List (List ℕ))))
array_clones value = option_map clone_names (as_array value)

-- the probes of each clone in the array under `clones`
abbrev pub clones_of : Data → Option (List (Option (List (List ℕ))))
clones_of value = option_map clone_names (array_at (codes "clones") value)

-- the probes of a value, and the probes of each of its clones
abbrev pub file_names : Data → Option (List (List ℕ)) × Option (List (Option (List (List ℕ))))
file_names value = (probes_of value, clones_of value)

-- the same of an object with these members
abbrev pub member_names : Members → Option (List (List ℕ)) × Option (List (Option (List (List ℕ))))
member_names members = file_names (object members)

-- a string behind strings; where one of them is none, all are
abbrev pub with_string : Option (List (List ℕ)) → Option (List ℕ) → Option (List (List ℕ))
with_string None string = None
with_string (Some strings) None = None
with_string (Some strings) (Some string) = Some (strings ++ string ∷ [])

-- the bytes of names, if there are any
abbrev pub names_view : Option (Vec (Bor (List ℕ)) Global) → Option (List (List ℕ))
names_view names = option_map (λ (list : Vec (Bor (List ℕ)) Global). bytes_of list.items) names

-- the bytes of the names of each clone
abbrev pub clones_view : List (Option (Vec (Bor (List ℕ)) Global)) → List (Option (List (List ℕ)))
clones_view clones = map names_view clones

-- the first refusal among clones of these names, if there is one, where the first of them has this number
unfoldable pub names_refused : List (List ℕ) → ℕ → List (Option (List (List ℕ))) → Option Refusal
names_refused probes number [] = None
names_refused probes number (names ∷ clones) = refusal_or (names_code probes names) number (names_refused probes (number + 1) clones)

-- the row of a clone of these names
abbrev pub row_of_clone : List (List ℕ) → Option (List (List ℕ)) → List ℕ
row_of_clone probes names = names_row probes (unwrap_or names [])

-- the matrix of clones of these names over the probes, or the first refusal of a clone
abbrev pub names_matrix : List (List ℕ) → List (Option (List (List ℕ))) → Read RowList
names_matrix probes clones = refused_or (names_refused probes 1 clones) (record { columns = length probes; rows = map (row_of_clone probes) clones })

-- the matrix of probes and the names of clones, or their first refusal
abbrev pub matrix_of_names : List (List ℕ) → List (Option (List (List ℕ))) → Read RowList
matrix_of_names probes clones = unless_refused (head_code probes (length clones)) (names_matrix probes clones)

-- the matrix of what a file names, or its first refusal
abbrev pub matrix_named : Option (List (List ℕ)) → Option (List (Option (List (List ℕ)))) → Read RowList
matrix_named (Some probes) (Some clones) = matrix_of_names probes clones
matrix_named probes clones = answer.Refused (record { code = SHAPE; line = 0 })

-- the bytes of the names of each clone, if there are clones
abbrev pub list_view : Option (Vec (Option (Vec (Bor (List ℕ)) Global)) Global) → Option (List (Option (List (List ℕ))))
list_view clones = option_map (λ (list : Vec (Option (Vec (Bor (List ℕ)) Global)) Global). clones_view list.items) clones

-- what a file names, by its bytes
abbrev pub file_view : CloneNames → Option (List (List ℕ)) × Option (List (Option (List (List ℕ))))
file_view file = (names_view file.probes, list_view file.clones)

-- the names that a file may have
abbrev pub NamesValue : Type 0
NamesValue = Option (List (List ℕ)) × Option (List (Option (List (List ℕ))))

-- The value at the front is that of a member with this key, and these tokens stand behind it. Put to members that name
-- what was named before, it makes members that name what is named after.
pub record IsMember {N : Type 0} (named : Members → N) (depth : ℕ) (key : List ℕ) (tokens rest : List Token) (before after : N) : Type 0 where
  pub value : Data
  pub is : value_at depth tokens ≡ Some (value, rest)
  pub names : (found : Members) → named found ≡ before → named (put key value found) ≡ after
