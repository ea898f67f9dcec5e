-- The tests of the text of a core, in their order, and what they ask. A test is named by the reason that is given where it fails.
use Rattle.std.specs.Prelude.{◌≡◌, ℕ, List, [], ◌∷◌, ◌++◌, length, map, slice_index_or}
use Rattle.std.specs.List.{AllByRecursion}
use Rattle.column_order.specs.Orders.{place, IsValidOrder}
use Rattle.row_model.specs.declared.kind.Kind.{Kind}
use Rattle.row_model.specs.declared.graph.Line.{Line}
use Rattle.row_model.specs.Rows.{RowList}
use Rattle.row_model.specs.Graph.{JoinedBy}
use Rattle.core_text.specs.Parts.{CoreParts}
use Rattle.core_text.specs.Cores.{AreRowNumbers, rows_at, but, IsCore}
use Rattle.core_text.specs.Told.{IsAmong, TellsCore}
use Rattle.core_text.specs.Texts.{TextValue}
use Rattle.verdict_judge.specs.Tests.{numbers}
use Rattle.verdict_judge.specs.NoTests.{HasLine, pair_after, PassesLength, PassesPair, PassesRepeat}
use Rattle.verdict_judge.specs.Accepted.{IsFirstFailing}
use Rattle.verdict_judge.specs.declared.core_outcome.CoreReason.{CoreReason}
use Rattle.verdict_judge.specs.declared.core_outcome.CoreReason.TheVariants as reason

-- of the lines of a cycle: their number, then the pair of each, then that each pair is a new one, then what each line joins
abbrev pub line_tests : ℕ → List CoreReason
line_tests count = reason.Length count ∷ (map reason.Pair (numbers count) ++ (map reason.Repeat (numbers count) ++ map reason.Join (numbers count)))

-- of the text: its kind, its columns, its rows, the order of each row, and its cycle
abbrev pub core_tests : TextValue → List CoreReason
core_tests t = reason.Kind ∷ reason.Columns ∷ reason.Rows ∷ (map reason.Order t.parts.rows ++ line_tests (length t.parts.lines))

-- the order of the row of this number
abbrev pub order_without : CoreParts → ℕ → List ℕ
order_without parts k = slice_index_or parts.orders (place parts.rows k) []

-- `order R`: the order of row R is valid for the other rows
abbrev pub PassesCoreOrder : RowList → CoreParts → ℕ → Type 0
PassesCoreOrder m parts k = IsValidOrder m.columns (rows_at m.rows (but k parts.rows)) (order_without parts k)

-- `join I`: the reason of line I is a flip or one of the rows, and joins its pair to that of the next line, and the last line's to that
-- of the first
abbrev pub PassesCoreJoin : RowList → List ℕ → List Line → ℕ → Type 0
PassesCoreJoin m rows lines n = HasLine lines n (λ line. IsAmong rows line.why × JoinedBy m.columns m.rows line.pair (pair_after lines n line.pair) line.why)

-- The text passes a test on a matrix of a kind. `kind`: its kind is that of the matrix. `columns`: so is its number of columns. `rows`:
-- its rows are rows of the matrix in strictly ascending order. The tests of the lines are those of a verdict, but for `join I`.
abbrev pub PassesCore : RowList → Kind → TextValue → CoreReason → Type 0
PassesCore m kind t reason.Kind = t.kind ≡ kind
PassesCore m kind t reason.Columns = t.columns ≡ m.columns
PassesCore m kind t reason.Rows = AreRowNumbers (length m.rows) t.parts.rows
PassesCore m kind t (reason.Order k) = PassesCoreOrder m t.parts k
PassesCore m kind t (reason.Length count) = PassesLength t.parts.lines
PassesCore m kind t (reason.Pair n) = PassesPair m.columns t.parts.lines n
PassesCore m kind t (reason.Repeat n) = PassesRepeat t.parts.lines n
PassesCore m kind t (reason.Join n) = PassesCoreJoin m t.parts.rows t.parts.lines n

-- the text passes each test
abbrev pub IsAcceptedCore : RowList → Kind → TextValue → Type 0
IsAcceptedCore m kind t = AllByRecursion (PassesCore m kind t) (core_tests t)

-- this test is the first that the text does not pass
abbrev pub FailsCoreFirst : RowList → Kind → TextValue → CoreReason → Type 0
FailsCoreFirst m kind t r = IsFirstFailing (PassesCore m kind t) (core_tests t) r

-- a text that is accepted names a core of the matrix
abbrev pub NamesCoreLaw : Type 0
NamesCoreLaw = (m : RowList) (kind : Kind) (t : TextValue) → IsAcceptedCore m kind t → IsCore m t.parts.rows

-- what is told of a core is accepted
abbrev pub ToldCoreLaw : Type 0
ToldCoreLaw = (m : RowList) (kind : Kind) (parts : CoreParts) → TellsCore m parts → IsAcceptedCore m kind (record { kind = kind; columns = m.columns; parts = parts })
