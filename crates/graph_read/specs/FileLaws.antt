-- What files give, in the words of graphs and of tables.
use Rattle.std.specs.Prelude.{◌≡◌, ◌≢◌, ◌↔◌, ℕ, ◌+◌, ◌*◌, ◌≤◌, ◌||◌, Bool, false, List, [], ◌∷◌, length, map, slice_get, slice_range, Some, All}
use Rattle.row_model.specs.declared.refusal.Read.TheVariants as read
use Rattle.row_model.specs.declared.TheConstants.{MAX_COLUMNS, MAX_FILE_BYTES, MAX_ITEMS}
use Rattle.text_lines.specs.Lines.{NumberedLine}
use Rattle.text_lines.specs.FirstRefusal.{filled_of}
use Rattle.text_lines.specs.Words.{words_of, numeral_of}
use Rattle.text_lines.specs.declared.words.Numeral.TheVariants.{Value}
use Rattle.graph_model.specs.Graphs.{has_edge, BigraphValue, IsBigraph, GraphValue, IsGraph}
use Rattle.graph_model.specs.Distances.{DistancesValue, IsDistances}
use Rattle.graph_read.specs.Numbers.{are_values, one_number, two_numbers}
use Rattle.graph_read.specs.Files.{bigraph, graph}
use Rattle.graph_read.specs.DistanceFiles.{distances}
use Rattle.graph_model.specs.declared.TheConstants.{LEFT_BOUND}

-- whether some line is exactly the two numbers x and y
abbrev pub names_edge : List NumberedLine → ℕ → ℕ → Bool
names_edge [] x y = false
names_edge (line ∷ lines) x y = are_values x y (two_numbers (words_of line.text)) || names_edge lines x y

-- a line that is exactly an x and a y of two sides of these sizes
abbrev pub IsEdgeLine : ℕ → ℕ → NumberedLine → Type 0
IsEdgeLine left right line =
    (x y : ℕ) × ((1 ≤ x) × (x ≤ left)) × ((1 ≤ y) × (y ≤ right)) × (two_numbers (words_of line.text) ≡ Some (record { first = Value x; second = Value y }))

-- lines that write a bipartite graph: its sizes, and behind them its edges, in any order and each as often as may be
pub record WritesBigraph (lines : List NumberedLine) (g : BigraphValue) : Type 0 where
  pub first : NumberedLine
  pub later : List NumberedLine
  pub are : lines ≡ first ∷ later
  pub sizes : two_numbers (words_of first.text) ≡ Some (record { first = Value g.left; second = Value g.right })
  pub within : All (IsEdgeLine g.left g.right) later
  pub edges : (x y : ℕ) → 1 ≤ x → x ≤ g.left → 1 ≤ y → y ≤ g.right → has_edge g.neighbours x y ≡ names_edge later x y

-- a bipartite graph within the limits, and bytes within theirs, whose lines that are not blank write it
pub record IsBigraphFile (limit : ℕ) (bytes : List ℕ) (g : BigraphValue) : Type 0 where
  pub bigraph : IsBigraph g
  pub left : g.left ≤ limit
  pub right : g.right ≤ MAX_COLUMNS
  pub short : length bytes ≤ MAX_FILE_BYTES
  pub writes : WritesBigraph (filled_of bytes) g

-- a file gives a bipartite graph exactly where it writes it
abbrev pub BigraphLaw : Type 0
BigraphLaw = (limit : ℕ) (bytes : List ℕ) (g : BigraphValue) → limit ≤ LEFT_BOUND → (bigraph limit bytes ≡ read.Ok g) ↔ IsBigraphFile limit bytes g

-- a line that is exactly two different vertices of so many
abbrev pub IsPairLine : ℕ → NumberedLine → Type 0
IsPairLine n line =
    (u v : ℕ) × ((1 ≤ u) × (u ≤ n)) × ((1 ≤ v) × (v ≤ n)) × (u ≢ v) × (two_numbers (words_of line.text) ≡ Some (record { first = Value u; second = Value v }))

-- lines that write a graph: the number of its vertices, and behind it its edges, in any order, either way round and
-- each as often as may be
pub record WritesGraph (lines : List NumberedLine) (g : GraphValue) : Type 0 where
  pub first : NumberedLine
  pub later : List NumberedLine
  pub are : lines ≡ first ∷ later
  pub size : one_number (words_of first.text) ≡ Some (Value g.vertices)
  pub within : All (IsPairLine g.vertices) later
  pub edges : (u v : ℕ) → 1 ≤ u → u ≤ g.vertices → 1 ≤ v → v ≤ g.vertices → has_edge g.neighbours u v ≡ (names_edge later u v || names_edge later v u)

-- a graph within the limit, and bytes within theirs, whose lines that are not blank write it
pub record IsGraphFile (bytes : List ℕ) (g : GraphValue) : Type 0 where
  pub graph : IsGraph g
  pub vertices : g.vertices ≤ MAX_COLUMNS
  pub short : length bytes ≤ MAX_FILE_BYTES
  pub writes : WritesGraph (filled_of bytes) g

-- a file gives a graph exactly where it writes it
abbrev pub GraphLaw : Type 0
GraphLaw = (bytes : List ℕ) (g : GraphValue) → (graph bytes ≡ read.Ok g) ↔ IsGraphFile bytes g

-- the distances of item x + 1 to all items
abbrev pub item_row : DistancesValue → ℕ → List ℕ
item_row d x = slice_range d.values (x * d.items) (x * d.items + d.items)

-- lines that write a table of distances: the number of items, and behind it a line for each row, which is exactly its
-- numbers
pub record WritesDistances (lines : List NumberedLine) (d : DistancesValue) : Type 0 where
  pub first : NumberedLine
  pub later : List NumberedLine
  pub are : lines ≡ first ∷ later
  pub size : one_number (words_of first.text) ≡ Some (Value d.items)
  pub count : length later ≡ d.items
  pub rows : (x : ℕ) (line : NumberedLine) → slice_get later x ≡ Some line → map numeral_of (words_of line.text) ≡ map (λ n. Value n) (item_row d x)

-- a table of distances within the limit, and bytes within theirs, whose lines that are not blank write it
pub record IsDistancesFile (bytes : List ℕ) (d : DistancesValue) : Type 0 where
  pub distances : IsDistances d
  pub items : d.items ≤ MAX_ITEMS
  pub short : length bytes ≤ MAX_FILE_BYTES
  pub writes : WritesDistances (filled_of bytes) d

-- a file gives a table of distances exactly where it writes it
abbrev pub DistancesLaw : Type 0
DistancesLaw = (bytes : List ℕ) (d : DistancesValue) → (distances bytes ≡ read.Ok d) ↔ IsDistancesFile bytes d
