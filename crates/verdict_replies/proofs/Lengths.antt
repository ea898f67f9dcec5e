-- How long the texts of verdicts are.
use Rattle.std.proofs.Common.{ℕ, ◌+◌, ◌-◌, ◌*◌, ◌≤◌, List, [], ◌∷◌, ◌++◌, length, arith}
use Rattle.std.specs.Prelude.{flat_map}
use Rattle.std.specs.List.{AllByRecursion}
use Rattle.std.specs.Fmt.{decimal}
use Rattle.std.proofs.lemmas.List.{length-append}
use Rattle.std.proofs.lemmas.Fmt.{length-decimal-le}
use Rattle.std.proofs.Math.Nat.{mul-le-mul_left}
use Rattle.row_model.specs.declared.kind.Kind.{Kind}
use Rattle.row_model.specs.declared.kind.Kind.TheVariants.{Matrix, Rows, Table, Circular, Convex, Doubly, Proper, Robinson, Clones}
use Rattle.row_model.specs.declared.graph.Line.{Line}
use Rattle.row_model.specs.declared.graph.Why.{Why}
use Rattle.row_model.specs.declared.graph.Why.TheVariants.{Flip, Row}
use Rattle.row_model.specs.Graph.{IsPair}
use Rattle.row_model.specs.declared.TheConstants.{MAX_COLUMNS, MAX_ROWS}
use Rattle.pq_tree.specs.Outline.{Outline, Forest, leaf, p_node, q_node, no_tree, tree_and, leaves, leaves_of}
use Rattle.pq_tree.specs.Proper.{HasArities, HaveArities, count}
use Rattle.pq_tree.specs.Text.{tree_text, forest_text, spaced_text}
use Rattle.verdict_text.specs.Grammar.{side_count}
use Rattle.text_parts.specs.Text.{kind_word, number_word, why_text, cycle_line}

-- a number of columns has at most four digits, one of rows at most six, one up to 9,999,999 at most seven
pub four_digits : (n : ℕ) → n ≤ MAX_COLUMNS → length (decimal n) ≤ 4
four_digits n le = length-decimal-le 4 n (omega arith) (omega arith) (omega arith)

pub six_digits : (n : ℕ) → n ≤ MAX_ROWS → length (decimal n) ≤ 6
six_digits n le = length-decimal-le 6 n (omega arith) (omega arith) (omega arith)

pub seven_digits : (n : ℕ) → n ≤ 9999999 → length (decimal n) ≤ 7
seven_digits n le = length-decimal-le 7 n (omega arith) (omega arith) (omega arith)

-- a kind has a word of at most eight letters, and at most two sides
pub small_kind : (kind : Kind) → (length (kind_word kind) ≤ 8) × (side_count kind ≤ 2)
small_kind Matrix = (omega arith, omega arith)
small_kind Rows = (omega arith, omega arith)
small_kind Table = (omega arith, omega arith)
small_kind Circular = (omega arith, omega arith)
small_kind Convex = (omega arith, omega arith)
small_kind Doubly = (omega arith, omega arith)
small_kind Proper = (omega arith, omega arith)
small_kind Robinson = (omega arith, omega arith)
small_kind Clones = (omega arith, omega arith)

-- a column of the greatest matrix
abbrev pub IsColumn : ℕ → Type 0
IsColumn a = a ≤ MAX_COLUMNS

-- what holds of the whole holds of each part
parts : {A : Type 0} (P : A → Type 0) (xs ys : List A) → AllByRecursion P (xs ++ ys) → AllByRecursion P xs × AllByRecursion P ys
parts P [] ys h = (tt, h)
parts P (x ∷ xs) ys h = let rest = parts P xs ys h.1 in ((h.0, rest.0), rest.1)

-- numbers, each after a space
pub words_length : (ns : List ℕ) → AllByRecursion IsColumn ns → length (flat_map number_word ns) ≤ 5 * length ns
words_length [] h = omega arith
words_length (n ∷ ns) h = omega (arith, four_digits n h.0, words_length ns h.1, length-append (number_word n) (flat_map number_word ns))

-- a tree has at most eight bytes for each leaf
mutual
  unfolding tree_text forest_text spaced_text

  pub tree_length : (t : Outline) → HasArities t → AllByRecursion IsColumn (leaves t) → length (tree_text t) + 3 ≤ 8 * length (leaves t)
  tree_length (leaf a) h k = omega (arith, four_digits a k.0)
  tree_length (p_node ts) h k = omega (arith, children_length ts (omega (arith, h.0)) h.1 k, length-append (forest_text ts) (41 ∷ []))
  tree_length (q_node ts) h k = omega (arith, children_length ts (omega (arith, h.0)) h.1 k, length-append (forest_text ts) (93 ∷ []))

  children_length : (ts : Forest) → 2 ≤ count ts → HaveArities ts → AllByRecursion IsColumn (leaves_of ts) → length (forest_text ts) + 5 ≤ 8 * length (leaves_of ts)
  children_length no_tree n h k = absurd (omega arith)
  children_length (tree_and t ts) n h k =
      let both = parts IsColumn (leaves t) (leaves_of ts) k in
      omega (arith, tree_length t h.0 both.0, spaced_length ts h.1 both.1, length-append (tree_text t) (spaced_text ts), length-append (leaves t) (leaves_of ts))

  spaced_length : (ts : Forest) → HaveArities ts → AllByRecursion IsColumn (leaves_of ts) → length (spaced_text ts) + 2 * count ts ≤ 8 * length (leaves_of ts)
  spaced_length no_tree h k = omega arith
  spaced_length (tree_and t ts) h k =
      let both = parts IsColumn (leaves t) (leaves_of ts) k in
      omega (arith, tree_length t h.0 both.0, spaced_length ts h.1 both.1, length-append (tree_text t) (spaced_text ts), length-append (leaves t) (leaves_of ts))

-- a reason that names no row, or one of the greatest matrix
abbrev pub IsRowReason : Why → Type 0
IsRowReason Flip = Unit {0}
IsRowReason (Row k) = k ≤ MAX_ROWS

-- a line of a cycle of a matrix within the limits
abbrev pub IsCycleLine : Line → Type 0
IsCycleLine line = IsPair MAX_COLUMNS line.pair × IsRowReason line.why

why_length : (why : Why) → IsRowReason why → length (why_text why) ≤ 12
why_length Flip h = omega arith
why_length (Row k) h = omega (arith, six_digits k h, length-append (decimal k) (10 ∷ []))

line_length : (line : Line) → IsCycleLine line → length (cycle_line line) ≤ 21
line_length line h =
    omega (
      arith,
      four_digits line.pair.a h.0.a_to,
      four_digits line.pair.b h.0.b_to,
      why_length line.why h.1,
      length-append (decimal line.pair.a) (number_word line.pair.b ++ why_text line.why),
      length-append (number_word line.pair.b) (why_text line.why),
    )

-- a line has at most 21 bytes
pub lines_length : (lines : List Line) → AllByRecursion IsCycleLine lines → length (flat_map cycle_line lines) ≤ 21 * length lines
lines_length [] h = omega arith
lines_length (line ∷ lines) h = omega (arith, line_length line h.0, lines_length lines h.1, length-append (cycle_line line) (flat_map cycle_line lines))

-- an odd cycle of a matrix within the limits has no more lines than there are pairs of its columns
pub few_lines : (c n : ℕ) → c ≤ MAX_COLUMNS → n ≤ c * (c - 1) → n ≤ 4192256
few_lines c n few le =
    let less : c - 1 ≤ 2047 = omega (arith, few) in
    omega (arith, few, le, mul-le-mul_left c less)
