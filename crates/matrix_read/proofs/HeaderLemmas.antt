-- The names in the header of a table, and the codes by which headers and records are refused.
use Rattle.std.proofs.Common.{◌≡◌, ℕ, suc, ◌+◌, not, Bool, true, false, List, [], ◌∷◌, length, drop, if◌then◌else◌, ap, refl, arith}
use Rattle.std.proofs.lemmas.Bool.{and_parts, lt-ltb, le-ltb, le-leb, lt-leb, ne_eqb}
use Rattle.row_model.specs.declared.TheConstants.{MAX_COLUMNS, MAX_ROWS}
use Rattle.text_lines.specs.Lines.{is_blank_byte, is_blank}
use Rattle.text_lines.specs.Words.{blank_len}
use Rattle.matrix_read.specs.Cells.{without_last_blanks, trimmed, is_empty}
use Rattle.matrix_read.specs.TableLaws.{HeaderNamesLaw, HeaderLaw, RecordLaw}
use Rattle.matrix_read.proofs.CellLemmas.{all_dropped}

-- a blank field has an empty cell, and any other a cell with a byte
blank_cell : (field : List ℕ) → is_blank field ≡ true → trimmed field ≡ []
blank_cell [] h = refl
blank_cell (b ∷ field) h = let parts = and_parts (is_blank_byte b) (is_blank field) h in rw parts.0 (blank_cell field parts.1)

cell_blank : (field : List ℕ) → trimmed field ≡ [] → is_blank field ≡ true
cell_blank [] e = refl
cell_blank (b ∷ field) e = by (is_blank_byte b) refl e (cell_blank field)
  where
    by : (v : Bool) → is_blank_byte b ≡ v → without_last_blanks (drop (if v then suc (blank_len field) else 0) (b ∷ field)) ≡ [] → (trimmed field ≡ [] → is_blank field ≡ true) → is_blank (b ∷ field) ≡ true
    by true h e later = rw h (later e)
    by false h e later = all_dropped (b ∷ field) e

is_filled : (cell : List ℕ) (blank : Bool) → (cell ≡ [] → blank ≡ true) → blank ≡ false → not (is_empty cell) ≡ true
is_filled [] blank h other = absurd (let is = h refl in cc)
is_filled (b ∷ cell) blank h other = ap not (ne_eqb (length (b ∷ cell)) 0 (λ e. omega (arith, e)))

pub header_names_law : HeaderNamesLaw
header_names_law = record {
  none = refl;
  corner = λ corner. refl;
  blank = λ corner field fields h. rw (blank_cell field h) refl;
  name = λ corner field fields h. rw (is_filled (trimmed field) (is_blank field) (cell_blank field) h) refl;
}

-- the tests of a header and of a record, in their order
pub header_law : HeaderLaw
header_law = record {
  no_column = λ header few. rw (lt-ltb (length header) 2 (omega (arith, few))) refl;
  many_columns = λ header many. rw (le-ltb (length header) 2 (omega (arith, many)), lt-ltb (MAX_COLUMNS + 1) (length header) many) refl;
  twice = λ header some narrow h. rw (le-ltb (length header) 2 (omega (arith, some)), le-ltb (MAX_COLUMNS + 1) (length header) narrow, h) refl;
  taken = λ header some narrow h. rw (le-ltb (length header) 2 (omega (arith, some)), le-ltb (MAX_COLUMNS + 1) (length header) narrow, h) refl;
}

pub record_law : RecordLaw
record_law = record {
  many_rows = λ before fields many. rw (le-leb MAX_ROWS before many) refl;
  foreign = λ before fields few h. rw (lt-leb MAX_ROWS before few, h) refl;
  taken = λ before fields few h. rw (lt-leb MAX_ROWS before few, h) refl;
}
