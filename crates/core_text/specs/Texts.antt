-- What the text of a core says, and the text, line by line. Each line ends with a line feed (byte 10), and one space (byte 32) stands
-- between its entries.
use Rattle.std.specs.Prelude.{◌≡◌, ℕ, ◌≤◌, List, [], ◌∷◌, ◌++◌, length, flat_map, codes}
use Rattle.std.specs.Fmt.{decimal}
use Rattle.std.specs.List.{AllByRecursion, zip}
use Rattle.row_model.specs.declared.kind.Kind.{Kind}
use Rattle.core_text.specs.Parts.{CoreParts}
use Rattle.text_parts.specs.Text.{kind_word, number_word, counted_text, counted_cycle}
use Rattle.text_parts.specs.Grammar.{Fits32, IsColumnCount, IsLine}

-- a kind, a number of columns, and the parts of a core
pub record TextValue : Type 0 where
  pub kind : Kind
  pub columns : ℕ
  pub parts : CoreParts

-- a row and its order: one number or more
abbrev pub IsEntry : (ℕ × List ℕ) → Type 0
IsEntry entry = Fits32 entry.0 × ((1 ≤ length entry.1) × AllByRecursion Fits32 entry.1)

-- the rows with their orders
abbrev pub entries : CoreParts → List (ℕ × List ℕ)
entries parts = zip parts.rows parts.orders

-- what the grammar has
pub record IsInGrammar (t : TextValue) : Type 0 where
  pub columns : IsColumnCount t.columns
  pub each : length t.parts.orders ≡ length t.parts.rows
  pub few_rows : Fits32 (length t.parts.rows)
  pub entries : AllByRecursion IsEntry (entries t.parts)
  pub few_lines : Fits32 (length t.parts.lines)
  pub lines : AllByRecursion IsLine t.parts.lines

-- `row R`, and `without` with the numbers of the order
abbrev pub entry_text : (ℕ × List ℕ) → List ℕ
entry_text entry = codes "row " ++ (decimal entry.0 ++ (codes "\nwithout" ++ (flat_map number_word entry.1 ++ 10 ∷ [])))

-- the whole text: `pq-core 1`, `kind K`, `columns C`, `core N` and N rows with their orders, `cycle L` and L lines, `end`
unfoldable pub core_text : TextValue → List ℕ
core_text t =
    codes "pq-core 1\nkind " ++ (kind_word t.kind ++ (codes "\ncolumns" ++ (number_word t.columns ++ (codes "\ncore " ++
    (counted_text entry_text (entries t.parts) ++ (counted_cycle t.parts.lines ++ codes "end\n"))))))
