-- The words of the command line, and the commands that they may be.
use Rattle.std.specs.Prelude.{⊤, ℕ, ◌≤◌, nat_le, Bool, List, [], ◌∷◌, ◌&&◌, if◌then◌else◌, Option, Some, None, option_map, map, string_bytes, codes}
use Rattle.std.specs.List.{find}
use Rattle.std.specs.Str.{bytes_eq}
use Rattle.std.specs.declared.string.String.{String}
use Rattle.row_model.specs.declared.kind.Kind.{Kind}
use Rattle.row_model.specs.declared.kind.Kind.TheVariants.{Matrix, Rows, Table}
use Rattle.row_model.specs.declared.TheConstants.{MAX_COLUMNS, MAX_ROWS}
use Rattle.text_lines.specs.Words.{numeral_of}
use Rattle.text_lines.specs.declared.words.Numeral.{Numeral}
use Rattle.text_lines.specs.declared.words.Numeral.TheVariants.{Value, TooLarge, NotDigits}
use Rattle.order_list.specs.declared.TheConstants.{MAX_ORDERS}
use Rattle.text_parts.specs.Text.{kind_word}
use Rattle.text_parts.specs.Reading.{all_kinds, ◌>>=◌}

-- what the words ask for
pub data Command : Type 0 where
  -- `solve KIND FILE`
  Solve : (kind : Kind) (file : List ℕ) → Command
  -- `check KIND FILE VERDICT`
  Check : (kind : Kind) (file verdict : List ℕ) → Command
  -- `extend KIND FILE ROWS`
  Extend : (kind : Kind) (file rows : List ℕ) → Command
  -- `core KIND FILE`
  Core : (kind : Kind) (file : List ℕ) → Command
  -- `check-core KIND FILE CORE`
  CheckCore : (kind : Kind) (file core : List ℕ) → Command
  -- `gen SEED COLUMNS ROWS`
  Gen : (seed columns rows : ℕ) → Command
  -- `meet COLUMNS TREE1 TREE2`
  Meet : (columns : ℕ) (first second : List ℕ) → Command
  -- `list KIND FILE K`
  ListOrders : (kind : Kind) (file : List ℕ) (count : ℕ) → Command
  -- `unit FILE`
  UnitModel : (file : List ℕ) → Command
  -- `check-unit FILE UNIT`
  CheckUnit : (file unit : List ℕ) → Command

-- the words as bytes
abbrev pub texts : {A : Type 0} → List (String A) → List (List ℕ)
texts words = map string_bytes words

-- the kind of this word, among some
abbrev pub kind_among : List Kind → List ℕ → Option Kind
kind_among kinds word = find (λ kind. bytes_eq word (kind_word kind)) kinds

-- the kind of this word
abbrev pub kind_of : List ℕ → Option Kind
kind_of word = kind_among all_kinds word

-- `extend`, `core`, `check-core` and `list` take this kind
abbrev pub IsExtended : Kind → Type 0
IsExtended Matrix = Unit {0}
IsExtended Rows = Unit {0}
IsExtended Table = Unit {0}
IsExtended kind = ⊥

-- the kind of this word, among those that `extend`, `core`, `check-core` and `list` take
abbrev pub extended_kind_of : List ℕ → Option Kind
extended_kind_of word = kind_among (Matrix ∷ Rows ∷ Table ∷ []) word

-- both names are that of standard input, which can be read but once
abbrev pub are_both_input : List ℕ → List ℕ → Bool
are_both_input file other = bytes_eq file (codes "-") && bytes_eq other (codes "-")

-- a number, if it is not less than the one and not more than the other
abbrev pub in_range : ℕ → ℕ → Numeral → Option ℕ
in_range least most (Value n) = if nat_le least n && nat_le n most then Some n else None
in_range least most TooLarge = None
in_range least most NotDigits = None

-- the number that a word of digits writes, if it is in a range; leading zeros are allowed
abbrev pub number_in : ℕ → ℕ → List ℕ → Option ℕ
number_in least most word = in_range least most (numeral_of word)

-- `check` with these words
abbrev pub check_of : List ℕ → List ℕ → List ℕ → Option Command
check_of kind file verdict = if are_both_input file verdict then None else option_map (λ k. Check k file verdict) (kind_of kind)

-- `extend` with these words
abbrev pub extend_of : List ℕ → List ℕ → List ℕ → Option Command
extend_of kind file rows = if are_both_input file rows then None else option_map (λ k. Extend k file rows) (extended_kind_of kind)

-- `core` with these words
abbrev pub core_of : List ℕ → List ℕ → Option Command
core_of kind file = option_map (λ k. Core k file) (extended_kind_of kind)

-- `check-core` with these words
abbrev pub check_core_of : List ℕ → List ℕ → List ℕ → Option Command
check_core_of kind file core = if are_both_input file core then None else option_map (λ k. CheckCore k file core) (extended_kind_of kind)

-- `gen` with these words: a seed of 64 bits, and numbers of columns and of rows within the limits
abbrev pub gen_of : List ℕ → List ℕ → List ℕ → Option Command
gen_of seed columns rows = do
  s ← number_in 0 18446744073709551615 seed
  c ← number_in 1 MAX_COLUMNS columns
  r ← number_in 0 MAX_ROWS rows
  Some (Gen s c r)

-- `meet` with these words: a number of columns within the limit
abbrev pub meet_of : List ℕ → List ℕ → List ℕ → Option Command
meet_of columns first second = if are_both_input first second then None else option_map (λ c. Meet c first second) (number_in 1 MAX_COLUMNS columns)

-- `list` with these words: a kind that `extend` takes, and a number of orders within the limit
abbrev pub list_of : List ℕ → List ℕ → List ℕ → Option Command
list_of kind file count = do
  k ← extended_kind_of kind
  n ← number_in 1 MAX_ORDERS count
  Some (ListOrders k file n)

-- `check-unit` with these words
abbrev pub check_unit_of : List ℕ → List ℕ → Option Command
check_unit_of file unit = if are_both_input file unit then None else Some (CheckUnit file unit)

-- a command that has a number among its words, with these words
abbrev pub numbered_command_of : List ℕ → List ℕ → List ℕ → List ℕ → Option Command
numbered_command_of verb first second third =
    if bytes_eq verb (codes "gen") then gen_of first second third
    else if bytes_eq verb (codes "meet") then meet_of first second third
    else if bytes_eq verb (codes "list") then list_of first second third
    else None

-- the command of these words, or none where they are outside the grammar
abbrev pub command_of : List (List ℕ) → Option Command
command_of (verb ∷ file ∷ []) = if bytes_eq verb (codes "unit") then Some (UnitModel file) else None
command_of (verb ∷ first ∷ second ∷ []) =
    if bytes_eq verb (codes "solve") then option_map (λ k. Solve k second) (kind_of first)
    else if bytes_eq verb (codes "core") then core_of first second
    else if bytes_eq verb (codes "check-unit") then check_unit_of first second
    else None
command_of (verb ∷ first ∷ second ∷ third ∷ []) =
    if bytes_eq verb (codes "check") then check_of first second third
    else if bytes_eq verb (codes "extend") then extend_of first second third
    else if bytes_eq verb (codes "check-core") then check_core_of first second third
    else numbered_command_of verb first second third
command_of words = None

-- `extend`, `core`, `check-core` and `list` take their kind, and the numbers of `gen`, `meet` and `list` are within the limits
abbrev pub IsInGrammar : Command → Type 0
IsInGrammar (Extend kind file rows) = IsExtended kind
IsInGrammar (Core kind file) = IsExtended kind
IsInGrammar (CheckCore kind file core) = IsExtended kind
IsInGrammar (Gen seed columns rows) = (1 ≤ columns) × (columns ≤ MAX_COLUMNS) × (rows ≤ MAX_ROWS)
IsInGrammar (Meet columns first second) = (1 ≤ columns) × (columns ≤ MAX_COLUMNS)
IsInGrammar (ListOrders kind file count) = IsExtended kind × (1 ≤ count) × (count ≤ MAX_ORDERS)
IsInGrammar command = ⊤

-- the names of a command's files, in the order in which they are read
abbrev pub files_of : Command → List (List ℕ)
files_of (Solve kind file) = file ∷ []
files_of (Check kind file verdict) = file ∷ verdict ∷ []
files_of (Extend kind file rows) = file ∷ rows ∷ []
files_of (Core kind file) = file ∷ []
files_of (CheckCore kind file core) = file ∷ core ∷ []
files_of (Gen seed columns rows) = []
files_of (Meet columns first second) = first ∷ second ∷ []
files_of (ListOrders kind file count) = file ∷ []
files_of (UnitModel file) = file ∷ []
files_of (CheckUnit file unit) = file ∷ unit ∷ []
