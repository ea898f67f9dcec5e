-- Parts of texts. Each line ends with a line feed (byte 10), and one space (byte 32) stands between its entries.
use Rattle.std.specs.Prelude.{ℕ, List, [], ◌∷◌, ◌++◌, length, flat_map, codes}
use Rattle.std.specs.Fmt.{decimal}
use Rattle.row_model.specs.declared.kind.Kind.{Kind}
use Rattle.row_model.specs.declared.kind.Kind.TheVariants.{Matrix, Rows, Table, Circular, Convex, Doubly, Proper, Robinson, Clones}
use Rattle.row_model.specs.declared.graph.Line.{Line}
use Rattle.row_model.specs.declared.graph.Why.{Why}
use Rattle.row_model.specs.declared.graph.Why.TheVariants.{Flip, Row}

-- the word of a kind
abbrev pub kind_word : Kind → List ℕ
kind_word Matrix = codes "matrix"
kind_word Rows = codes "rows"
kind_word Table = codes "table"
kind_word Circular = codes "circular"
kind_word Convex = codes "convex"
kind_word Doubly = codes "doubly"
kind_word Proper = codes "proper"
kind_word Robinson = codes "robinson"
kind_word Clones = codes "clones"

-- a number after a space
abbrev pub number_word : ℕ → List ℕ
number_word n = 32 ∷ decimal n

-- the reason for which the pair of a line is joined to the next
abbrev pub why_text : Why → List ℕ
why_text Flip = codes " flip\n"
why_text (Row k) = codes " row " ++ (decimal k ++ 10 ∷ [])

-- `A B flip` or `A B row N`
abbrev pub cycle_line : Line → List ℕ
cycle_line line = decimal line.pair.a ++ (number_word line.pair.b ++ why_text line.why)

-- a count, and so many items from the next line on
abbrev pub counted_text : {A : Type 0} → (A → List ℕ) → List A → List ℕ
counted_text text items = decimal (length items) ++ (10 ∷ flat_map text items)

-- `cycle L` and L lines
abbrev pub counted_cycle : List Line → List ℕ
counted_cycle lines = codes "cycle " ++ counted_text cycle_line lines
