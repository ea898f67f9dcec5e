-- What lines that were not refused name.
use Rattle.std.proofs.Common.{◌≡◌, ◌≢◌, ℕ, zero, suc, ◌≤◌, Bool, true, false, if◌then◌else◌, not, ◌==◌, ◌||◌, ◌&&◌, nat_lt, List, [], ◌∷◌, refl, ap, arith, Option, Some, None, Ok, Err}
use Rattle.std.proofs.lemmas.Bool.{and_parts, ltb-false}
use Rattle.std.specs.List.{AllByRecursion}
use Rattle.row_model.specs.declared.TheConstants.{MAX_COLUMNS, MAX_ITEMS}
use Rattle.row_model.specs.declared.code.TheConstants.{RANGE, LIMIT, SYMMETRY}
use Rattle.text_lines.specs.Lines.{NumberedLine}
use Rattle.text_lines.specs.Words.{words_of, numeral_of}
use Rattle.text_lines.specs.declared.words.Numeral.{Numeral}
use Rattle.text_lines.specs.declared.words.Numeral.TheVariants.{Value, TooLarge, NotDigits}
use Rattle.graph_read.specs.declared.edges.Edge.{Edge}
use Rattle.graph_read.specs.declared.edges.Shape.{Shape}
use Rattle.graph_read.specs.declared.edges.Shape.TheVariants.{Bipartite, Plain}
use Rattle.graph_read.specs.declared.numbers.NumberPair.{NumberPair}
use Rattle.graph_read.specs.Numbers.{is_within, both_numbers, two_numbers, if_number, one_number}
use Rattle.graph_read.specs.Edges.{left_of, right_of, unless_loop, edge_named, edge_refusal, sides_named, vertices_named}
use Rattle.graph_read.specs.DistanceFiles.{items_named}
use Rattle.graph_read.specs.FileLaws.{IsEdgeLine, IsPairLine}
use Rattle.graph_read.proofs.EdgeLemmas.{pair_no_loop}
use Rattle.graph_read.proofs.EdgeSteps.{names_first}

-- two numbers of a line
abbrev pub pair_of : ℕ → ℕ → Option NumberPair
pair_of x y = Some (record { first = Value x; second = Value y })

past_right : (b : Bool) → (b || true) ≡ true
past_right true = refl
past_right false = refl

-- a first line with two sizes
tests_passed : (x y left right : ℕ) (none past : Bool) → (if none then Err RANGE else if past then Err LIMIT else Ok (Bipartite x y)) ≡ Ok (Bipartite left right) → pair_of x y ≡ pair_of left right
tests_passed x y left right true past h = absurd (cc)
tests_passed x y left right false true h = absurd (cc)
tests_passed x y left right false false h =
    let a : x ≡ left = cc in
    let b : y ≡ right = cc in
    rw (a, b) refl

tests_past : (A : Type 0) (shape found : Shape) (none past : Bool) → past ≡ true → (if none then Err RANGE else if past then Err LIMIT else Ok shape) ≡ Ok found → A
tests_past A shape found true past e h = absurd (cc)
tests_past A shape found false true e h = absurd (cc)
tests_past A shape found false false e h = absurd (cc)

sizes_of : (limit : ℕ) (a b : Numeral) (left right : ℕ) → sides_named limit (both_numbers a b) ≡ Ok (Bipartite left right) → both_numbers a b ≡ pair_of left right
sizes_of limit (Value x) (Value y) left right h = tests_passed x y left right ((x == 0) || (y == 0)) (nat_lt limit x || nat_lt MAX_COLUMNS y) h
sizes_of limit (Value x) TooLarge left right h = tests_past _ (Bipartite x 0) (Bipartite left right) ((x == 0) || false) (nat_lt limit x || true) (past_right (nat_lt limit x)) h
sizes_of limit (Value x) NotDigits left right h = absurd (cc)
sizes_of limit TooLarge (Value y) left right h = tests_past _ (Bipartite 0 y) (Bipartite left right) (y == 0) true refl h
sizes_of limit TooLarge TooLarge left right h = absurd (cc)
sizes_of limit TooLarge NotDigits left right h = absurd (cc)
sizes_of limit NotDigits b left right h = absurd (cc)

pub sizes_written : (limit : ℕ) (words : List (List ℕ)) (left right : ℕ) → sides_named limit (two_numbers words) ≡ Ok (Bipartite left right) → two_numbers words ≡ pair_of left right
sizes_written limit [] left right h = absurd (cc)
sizes_written limit (a ∷ []) left right h = absurd (cc)
sizes_written limit (a ∷ b ∷ []) left right h = sizes_of limit (numeral_of a) (numeral_of b) left right h
sizes_written limit (a ∷ b ∷ d ∷ words) left right h = absurd (cc)

-- a first line with one size
size_of : (a : Numeral) (n : ℕ) → vertices_named (if_number a) ≡ Ok (Plain n) → if_number a ≡ Some (Value n)
size_of (Value x) n h = by (x == 0) (nat_lt MAX_COLUMNS x) h
  where
    by : (none past : Bool) → (if none then Err RANGE else if past then Err LIMIT else Ok (Plain x)) ≡ Ok (Plain n) → Some (Value x) ≡ Some (Value n)
    by true past k = absurd (cc)
    by false true k = absurd (cc)
    by false false k = let same : x ≡ n = cc in ap (λ m. Some (Value m)) same
size_of TooLarge n h = absurd (cc)
size_of NotDigits n h = absurd (cc)

pub size_written : (words : List (List ℕ)) (n : ℕ) → vertices_named (one_number words) ≡ Ok (Plain n) → one_number words ≡ Some (Value n)
size_written [] n h = absurd (cc)
size_written (a ∷ []) n h = size_of (numeral_of a) n h
size_written (a ∷ b ∷ words) n h = absurd (cc)

-- a first line with a number of items
items_of : (a : Numeral) (n : ℕ) → items_named (if_number a) ≡ Ok n → if_number a ≡ Some (Value n)
items_of (Value x) n h = by (x == 0) (nat_lt MAX_ITEMS x) h
  where
    by : (none past : Bool) → (if none then Err RANGE else if past then Err LIMIT else Ok x) ≡ Ok n → Some (Value x) ≡ Some (Value n)
    by true past k = absurd (cc)
    by false true k = absurd (cc)
    by false false k = let same : x ≡ n = cc in ap (λ m. Some (Value m)) same
items_of TooLarge n h = absurd (cc)
items_of NotDigits n h = absurd (cc)

pub items_written : (words : List (List ℕ)) (n : ℕ) → items_named (one_number words) ≡ Ok n → one_number words ≡ Some (Value n)
items_written [] n h = absurd (cc)
items_written (a ∷ []) n h = items_of (numeral_of a) n h
items_written (a ∷ b ∷ words) n h = absurd (cc)

-- a number of 1 to n
not_true : (b : Bool) → not b ≡ true → b ≡ false
not_true true h = absurd (cc)
not_true false h = refl

bounds_of : (n x : ℕ) → is_within n (Value x) ≡ true → (1 ≤ x) × (x ≤ n)
bounds_of n zero h = absurd (cc)
bounds_of n (suc x) h =
    let parts = and_parts (not (suc x == 0)) (not (nat_lt n (suc x))) h in
    (omega arith, ltb-false n (suc x) (not_true (nat_lt n (suc x)) parts.1))

-- a later line with an edge
pub record IsNamed (shape : Shape) (pair : Option NumberPair) (edge : Edge) : Type 0 where
  pub from : (1 ≤ edge.from) × (edge.from ≤ left_of shape)
  pub to : (1 ≤ edge.to) × (edge.to ≤ right_of shape)
  pub is : pair ≡ pair_of edge.from edge.to

same_edge : (shape : Shape) (edge found : Edge) → unless_loop shape edge ≡ Ok found → edge ≡ found
same_edge (Bipartite left right) edge found h = cc
same_edge (Plain n) edge found h = by (edge.from == edge.to) h
  where
    by : (loop : Bool) → (if loop then Err SYMMETRY else Ok edge) ≡ Ok found → edge ≡ found
    by true k = absurd (cc)
    by false k = cc

edge_of : (shape : Shape) (a b : Numeral) (edge : Edge) → edge_named shape (both_numbers a b) ≡ Ok edge → IsNamed shape (both_numbers a b) edge
edge_of shape (Value x) (Value y) edge h = by (is_within (left_of shape) (Value x) && is_within (right_of shape) (Value y)) refl h
  where
    by : (inside : Bool) → (is_within (left_of shape) (Value x) && is_within (right_of shape) (Value y)) ≡ inside
        → (if inside then unless_loop shape (record { from = x; to = y }) else Err RANGE) ≡ Ok edge → IsNamed shape (pair_of x y) edge
    by false e k = absurd (cc)
    by true e k =
        let parts = and_parts (is_within (left_of shape) (Value x)) (is_within (right_of shape) (Value y)) e in
        let same : record { from = x; to = y } ≡ edge = same_edge shape (record { from = x; to = y }) edge k in
        rw (← same) (record { from = bounds_of (left_of shape) x parts.0; to = bounds_of (right_of shape) y parts.1; is = refl })
edge_of shape (Value x) TooLarge edge h = past_edge (is_within (left_of shape) (Value x)) h
  where
    past_edge : (inside : Bool) → (if inside && false then unless_loop shape (record { from = x; to = 0 }) else Err RANGE) ≡ Ok edge → IsNamed shape (both_numbers (Value x) TooLarge) edge
    past_edge true k = absurd (cc)
    past_edge false k = absurd (cc)
edge_of shape (Value x) NotDigits edge h = absurd (cc)
edge_of shape TooLarge (Value y) edge h = absurd (cc)
edge_of shape TooLarge TooLarge edge h = absurd (cc)
edge_of shape TooLarge NotDigits edge h = absurd (cc)
edge_of shape NotDigits b edge h = absurd (cc)

pub edge_written : (shape : Shape) (words : List (List ℕ)) (edge : Edge) → edge_named shape (two_numbers words) ≡ Ok edge → IsNamed shape (two_numbers words) edge
edge_written shape [] edge h = absurd (cc)
edge_written shape (a ∷ []) edge h = absurd (cc)
edge_written shape (a ∷ b ∷ []) edge h = edge_of shape (numeral_of a) (numeral_of b) edge h
edge_written shape (a ∷ b ∷ d ∷ words) edge h = absurd (cc)

-- lines none of which is refused
pub edge_lines_of : (left right : ℕ) (lines : List NumberedLine) → edge_refusal (Bipartite left right) lines ≡ None → AllByRecursion (IsEdgeLine left right) lines
edge_lines_of left right [] h = tt
edge_lines_of left right (line ∷ lines) h =
    let first = names_first (Bipartite left right) line lines h in
    let named = edge_written (Bipartite left right) (words_of line.text) first.edge first.named in
    ((first.edge.from, first.edge.to, named.from, named.to, named.is), edge_lines_of left right lines first.later)

pub pair_lines_of : (n : ℕ) (lines : List NumberedLine) → edge_refusal (Plain n) lines ≡ None → AllByRecursion (IsPairLine n) lines
pair_lines_of n [] h = tt
pair_lines_of n (line ∷ lines) h =
    let first = names_first (Plain n) line lines h in
    let named = edge_written (Plain n) (words_of line.text) first.edge first.named in
    let apart : first.edge.from ≢ first.edge.to = pair_no_loop n (two_numbers (words_of line.text)) first.edge first.named in
    ((first.edge.from, first.edge.to, named.from, named.to, apart, named.is), pair_lines_of n lines first.later)
