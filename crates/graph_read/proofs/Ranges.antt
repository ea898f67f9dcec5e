-- What is known of each graph and each table of distances that a file gives.
use Rattle.std.proofs.Common.{◌≡◌, ◌∙◌, ℕ, zero, suc, ◌≤◌, Bool, true, false, if◌then◌else◌, ◌||◌, ◌&&◌, List, [], ◌∷◌, length, refl, sym, ap, arith, subst, Option, Some, None, Result, Ok, Err}
use Rattle.std.proofs.lemmas.Bool.{and_parts, or_parts, ltb-false}
use Rattle.row_model.specs.Rows.{RowList}
use Rattle.row_model.specs.declared.refusal.Refusal.{Refusal}
use Rattle.row_model.specs.declared.refusal.Read.TheVariants as read
use Rattle.row_model.specs.declared.TheConstants.{MAX_COLUMNS, MAX_FILE_BYTES, MAX_ITEMS}
use Rattle.row_model.specs.declared.code.TheConstants.{RANGE, LIMIT}
use Rattle.text_lines.specs.Lines.{NumberedLine}
use Rattle.std.proofs.lemmas.List.Elements.{All-from_recursion}
use Rattle.row_model.specs.Rows.{IsRow}
use Rattle.graph_read.specs.Edges.{both_ways, lists_from}
use Rattle.text_lines.specs.FirstRefusal.{filled_of}
use Rattle.text_lines.specs.Rows.{refused_or}
use Rattle.column_order.specs.declared.TheConstants.{COLUMN_BOUND}
use Rattle.graph_model.specs.declared.TheConstants.{LEFT_BOUND}
use Rattle.text_lines.specs.Words.{words_of, numeral_of}
use Rattle.text_lines.specs.declared.words.Numeral.{Numeral}
use Rattle.text_lines.specs.declared.words.Numeral.TheVariants.{Value, TooLarge, NotDigits}
use Rattle.graph_model.specs.Graphs.{BigraphValue, IsBigraph, GraphValue, IsGraph}
use Rattle.graph_model.specs.Distances.{DistancesValue}
use Rattle.graph_read.specs.Numbers.{is_number, is_zero, is_past, value_of, both_numbers, two_numbers, if_number, one_number}
use Rattle.graph_read.specs.Edges.{left_of, right_of, edges_of, edge_refusal, lists_of_lines, sides_named, vertices_named}
use Rattle.graph_read.specs.GraphFiles.{bigraph_with, bigraph_behind, bigraph_lines, graph_with, graph_behind, graph_lines}
use Rattle.graph_read.specs.Files.{bigraph, graph}
use Rattle.graph_read.specs.DistanceFiles.{items_named, distances, distances_behind, distances_lines}
use Rattle.graph_read.specs.DistanceSteps.{table_behind, distances_with}
use Rattle.graph_read.specs.declared.edges.Shape.{Shape}
use Rattle.graph_read.specs.declared.edges.Shape.TheVariants.{Bipartite, Plain}
use Rattle.graph_read.proofs.ListLemmas.{length-lists_from, lists_from-rows}
use Rattle.graph_read.specs.RefusalLaws.{sides_head, vertices_head, items_head}
use Rattle.graph_read.proofs.HeadLemmas.{bigraph_reads, graph_reads, distances_reads, given}
use Rattle.graph_read.proofs.FileLemmas.{is_graph}
use Rattle.graph_read.proofs.TableSteps.{read_behind}

-- a number of digits that is not 0 and not past a limit
pub number_within : (limit : ℕ) (n : Numeral) → is_number n ≡ true → is_zero n ≡ false → is_past limit n ≡ false → (1 ≤ value_of n) × (value_of n ≤ limit)
number_within limit (Value zero) digits some few = absurd (cc)
number_within limit (Value (suc n)) digits some few = (omega arith, ltb-false limit (suc n) few)
number_within limit TooLarge digits some few = absurd (cc)
number_within limit NotDigits digits some few = absurd (cc)

-- the sides of a first line
abbrev pub IsBipartite : Shape → Type 0
IsBipartite (Bipartite left right) = Unit {0}
IsBipartite (Plain n) = ⊥

pub record SidesWithin (limit : ℕ) (shape : Shape) : Type 0 where
  pub bipartite : IsBipartite shape
  pub left : (1 ≤ left_of shape) × (left_of shape ≤ limit)
  pub right : (1 ≤ right_of shape) × (right_of shape ≤ MAX_COLUMNS)

pair_within : (limit : ℕ) (a b : Numeral) (shape : Shape) → sides_named limit (both_numbers a b) ≡ Ok shape → SidesWithin limit shape
pair_within limit a b shape h = by_digits (is_number a && is_number b) refl h
  where
    by_limit : (is_number a && is_number b) ≡ true → (is_zero a || is_zero b) ≡ false → (past : Bool) → (is_past limit a || is_past MAX_COLUMNS b) ≡ past
        → (if past then Err LIMIT else Ok (Bipartite (value_of a) (value_of b))) ≡ Ok shape → SidesWithin limit shape
    by_limit digits some true few k = absurd (cc)
    by_limit digits some false few k =
        let is : Bipartite (value_of a) (value_of b) ≡ shape = cc in
        let numbers = and_parts (is_number a) (is_number b) digits in
        let filled = or_parts (is_zero a) (is_zero b) some in
        let small = or_parts (is_past limit a) (is_past MAX_COLUMNS b) few in
        rw (← is) (record { bipartite = tt; left = number_within limit a numbers.0 filled.0 small.0; right = number_within MAX_COLUMNS b numbers.1 filled.1 small.1 })

    by_zero : (is_number a && is_number b) ≡ true → (none : Bool) → (is_zero a || is_zero b) ≡ none
        → (if none then Err RANGE else if is_past limit a || is_past MAX_COLUMNS b then Err LIMIT else Ok (Bipartite (value_of a) (value_of b))) ≡ Ok shape → SidesWithin limit shape
    by_zero digits true some k = absurd (cc)
    by_zero digits false some k = by_limit digits some (is_past limit a || is_past MAX_COLUMNS b) refl k

    by_digits : (digits : Bool) → (is_number a && is_number b) ≡ digits → sides_named limit (if digits then Some (record { first = a; second = b }) else None) ≡ Ok shape → SidesWithin limit shape
    by_digits false digits k = absurd (cc)
    by_digits true digits k = by_zero digits (is_zero a || is_zero b) refl k

pub sides_within : (limit : ℕ) (words : List (List ℕ)) (shape : Shape) → sides_named limit (two_numbers words) ≡ Ok shape → SidesWithin limit shape
sides_within limit [] shape h = absurd (cc)
sides_within limit (a ∷ []) shape h = absurd (cc)
sides_within limit (a ∷ b ∷ []) shape h = pair_within limit (numeral_of a) (numeral_of b) shape h
sides_within limit (a ∷ b ∷ d ∷ words) shape h = absurd (cc)

-- the vertices of a first line
pub record VerticesWithin (shape : Shape) : Type 0 where
  pub vertices : ℕ
  pub is : shape ≡ Plain vertices
  pub some : 1 ≤ vertices
  pub few : vertices ≤ MAX_COLUMNS

vertex_number_within : (a : Numeral) (shape : Shape) → vertices_named (if_number a) ≡ Ok shape → VerticesWithin shape
vertex_number_within a shape h = by_digits (is_number a) refl h
  where
    by_limit : is_number a ≡ true → is_zero a ≡ false → (past : Bool) → is_past MAX_COLUMNS a ≡ past → (if past then Err LIMIT else Ok (Plain (value_of a))) ≡ Ok shape → VerticesWithin shape
    by_limit digits some true few k = absurd (cc)
    by_limit digits some false few k =
        let within = number_within MAX_COLUMNS a digits some few in
        record { vertices = value_of a; is = cc; some = within.0; few = within.1 }

    by_zero : is_number a ≡ true → (none : Bool) → is_zero a ≡ none → (if none then Err RANGE else if is_past MAX_COLUMNS a then Err LIMIT else Ok (Plain (value_of a))) ≡ Ok shape → VerticesWithin shape
    by_zero digits true some k = absurd (cc)
    by_zero digits false some k = by_limit digits some (is_past MAX_COLUMNS a) refl k

    by_digits : (digits : Bool) → is_number a ≡ digits → vertices_named (if digits then Some a else None) ≡ Ok shape → VerticesWithin shape
    by_digits false digits k = absurd (cc)
    by_digits true digits k = by_zero digits (is_zero a) refl k

pub vertices_within : (words : List (List ℕ)) (shape : Shape) → vertices_named (one_number words) ≡ Ok shape → VerticesWithin shape
vertices_within [] shape h = absurd (cc)
vertices_within (a ∷ []) shape h = vertex_number_within (numeral_of a) shape h
vertices_within (a ∷ b ∷ words) shape h = absurd (cc)

-- the items of a first line
item_number_within : (a : Numeral) (n : ℕ) → items_named (if_number a) ≡ Ok n → (1 ≤ n) × (n ≤ MAX_ITEMS)
item_number_within a n h = by_digits (is_number a) refl h
  where
    by_limit : is_number a ≡ true → is_zero a ≡ false → (past : Bool) → is_past MAX_ITEMS a ≡ past → (if past then Err LIMIT else Ok (value_of a)) ≡ Ok n → (1 ≤ n) × (n ≤ MAX_ITEMS)
    by_limit digits some true few k = absurd (cc)
    by_limit digits some false few k = let is : value_of a ≡ n = cc in rw (← is) (number_within MAX_ITEMS a digits some few)

    by_zero : is_number a ≡ true → (none : Bool) → is_zero a ≡ none → (if none then Err RANGE else if is_past MAX_ITEMS a then Err LIMIT else Ok (value_of a)) ≡ Ok n → (1 ≤ n) × (n ≤ MAX_ITEMS)
    by_zero digits true some k = absurd (cc)
    by_zero digits false some k = by_limit digits some (is_past MAX_ITEMS a) refl k

    by_digits : (digits : Bool) → is_number a ≡ digits → items_named (if digits then Some a else None) ≡ Ok n → (1 ≤ n) × (n ≤ MAX_ITEMS)
    by_digits false digits k = absurd (cc)
    by_digits true digits k = by_zero digits (is_zero a) refl k

pub items_within : (words : List (List ℕ)) (n : ℕ) → items_named (one_number words) ≡ Ok n → (1 ≤ n) × (n ≤ MAX_ITEMS)
items_within [] n h = absurd (cc)
items_within (a ∷ []) n h = item_number_within (numeral_of a) n h
items_within (a ∷ b ∷ words) n h = absurd (cc)

-- a bipartite graph that lines give
pub record BigraphRead (limit : ℕ) (lines : List NumberedLine) (g : BigraphValue) : Type 0 where
  pub first : NumberedLine
  pub later : List NumberedLine
  pub are : lines ≡ first ∷ later
  pub left : ℕ
  pub right : ℕ
  pub named : sides_named limit (two_numbers (words_of first.text)) ≡ Ok (Bipartite left right)
  pub sides : SidesWithin limit (Bipartite left right)
  pub none : edge_refusal (Bipartite left right) later ≡ None
  pub is : g ≡ record { left = left; right = right; neighbours = lists_from 1 left right (edges_of (Bipartite left right) later) }

module _ (limit : ℕ) (g : BigraphValue) (first : NumberedLine) (later : List NumberedLine) where
  listed : (left right : ℕ) → sides_named limit (two_numbers (words_of first.text)) ≡ Ok (Bipartite left right) → SidesWithin limit (Bipartite left right)
      → (refusal : Option Refusal) → edge_refusal (Bipartite left right) later ≡ refusal
      → bigraph_with (Bipartite left right) (refused_or refusal (record { columns = right; rows = lists_from 1 left right (edges_of (Bipartite left right) later) })) ≡ read.Ok g
      → BigraphRead limit (first ∷ later) g
  listed left right named sides (Some refusal) e h = absurd (cc)
  listed left right named sides None e h = record { first = first; later = later; are = refl; left = left; right = right; named = named; sides = sides; none = e; is = cc }

  headed : (sides : Result Shape ℕ) → sides_named limit (two_numbers (words_of first.text)) ≡ sides → bigraph_behind first.number sides later ≡ read.Ok g → BigraphRead limit (first ∷ later) g
  headed (Err code) e h = absurd (cc)
  headed (Ok (Bipartite left right)) e h = listed left right e (sides_within limit (words_of first.text) (Bipartite left right) e) (edge_refusal (Bipartite left right) later) refl h
  headed (Ok (Plain n)) e h = absurd (no_plain (sides_within limit (words_of first.text) (Plain n) e).bipartite)
    where
      no_plain : IsBipartite (Plain n) → ⊥
      no_plain k = k

pub bigraph_from : (limit : ℕ) (g : BigraphValue) (bytes : List ℕ) → limit ≤ LEFT_BOUND → bigraph limit bytes ≡ read.Ok g → (length bytes ≤ MAX_FILE_BYTES) × BigraphRead limit (filled_of bytes) g
bigraph_from limit g bytes small h = given (bigraph limit) (bigraph_lines limit) bigraph_behind (sides_head limit) (bigraph_reads limit small) (λ head later. refl) (BigraphRead limit) (λ head later found v e k. headed limit v head later found e k) bytes g h

-- what is known of it
pub record BigraphRange (limit : ℕ) (g : BigraphValue) : Type 0 where
  pub bigraph : IsBigraph g
  pub left : g.left ≤ limit
  pub right : g.right ≤ MAX_COLUMNS

pub bigraph_range : (limit : ℕ) (lines : List NumberedLine) (g : BigraphValue) → limit ≤ LEFT_BOUND → BigraphRead limit lines g → BigraphRange limit g
bigraph_range limit lines g small r =
    let edges = edges_of (Bipartite r.left r.right) r.later in
    rw r.is (record {
      bigraph = record {
        left = (r.sides.left.0, omega (arith, r.sides.left.1));
        right = (r.sides.right.0, omega (arith, r.sides.right.1));
        lists = length-lists_from 1 r.left r.right edges;
        ascending = All-from_recursion (IsRow r.right) (lists_from 1 r.left r.right edges) (lists_from-rows 1 r.left r.right edges);
      };
      left = r.sides.left.1;
      right = r.sides.right.1;
    })

-- a graph that lines give
pub record GraphRead (lines : List NumberedLine) (g : GraphValue) : Type 0 where
  pub first : NumberedLine
  pub later : List NumberedLine
  pub are : lines ≡ first ∷ later
  pub vertices : ℕ
  pub named : vertices_named (one_number (words_of first.text)) ≡ Ok (Plain vertices)
  pub some : 1 ≤ vertices
  pub few : vertices ≤ MAX_COLUMNS
  pub none : edge_refusal (Plain vertices) later ≡ None
  pub is : g ≡ record { vertices = vertices; neighbours = lists_from 1 vertices vertices (both_ways (edges_of (Plain vertices) later)) }

module _ (g : GraphValue) (first : NumberedLine) (later : List NumberedLine) where
  listed_plain : (n : ℕ) → vertices_named (one_number (words_of first.text)) ≡ Ok (Plain n) → 1 ≤ n → n ≤ MAX_COLUMNS
      → (refusal : Option Refusal) → edge_refusal (Plain n) later ≡ refusal
      → graph_with (Plain n) (refused_or refusal (record { columns = n; rows = lists_from 1 n n (both_ways (edges_of (Plain n) later)) })) ≡ read.Ok g
      → GraphRead (first ∷ later) g
  listed_plain n named some few (Some refusal) e h = absurd (cc)
  listed_plain n named some few None e h = record { first = first; later = later; are = refl; vertices = n; named = named; some = some; few = few; none = e; is = cc }

  headed_plain : (vertices : Result Shape ℕ) → vertices_named (one_number (words_of first.text)) ≡ vertices → graph_behind first.number vertices later ≡ read.Ok g → GraphRead (first ∷ later) g
  headed_plain (Err code) e h = absurd (cc)
  headed_plain (Ok shape) e h =
      let v = vertices_within (words_of first.text) shape e in
      listed_plain v.vertices (e ∙ ap (λ s. Ok s) v.is) v.some v.few (edge_refusal (Plain v.vertices) later) refl (ap (λ s. graph_behind first.number (Ok s) later) (sym v.is) ∙ h)

pub graph_from : (g : GraphValue) (bytes : List ℕ) → graph bytes ≡ read.Ok g → (length bytes ≤ MAX_FILE_BYTES) × GraphRead (filled_of bytes) g
graph_from g bytes h = given graph graph_lines graph_behind vertices_head graph_reads (λ head later. refl) GraphRead (λ head later found v e k. headed_plain v head later found e k) bytes g h

-- what is known of it
pub record GraphRange (g : GraphValue) : Type 0 where
  pub graph : IsGraph g
  pub vertices : g.vertices ≤ MAX_COLUMNS

pub graph_range : (lines : List NumberedLine) (g : GraphValue) → GraphRead lines g → GraphRange g
graph_range lines g r =
    let edges = edges_of (Plain r.vertices) r.later in
    let m : RowList = record { columns = r.vertices; rows = lists_from 1 r.vertices r.vertices (both_ways edges) } in
    let made : read.Ok m ≡ lists_of_lines (Plain r.vertices) r.later = sym (ap (λ refusal. refused_or refusal m) r.none) in
    let small : r.vertices ≤ COLUMN_BOUND = omega (arith, r.few) in
    rw r.is (record { graph = is_graph (Plain r.vertices) r.vertices r.later m refl r.some small made; vertices = r.few })

-- a table of distances that lines give
pub record DistancesRead (lines : List NumberedLine) (d : DistancesValue) : Type 0 where
  pub first : NumberedLine
  pub later : List NumberedLine
  pub are : lines ≡ first ∷ later
  pub named : items_named (one_number (words_of first.text)) ≡ Ok d.items
  pub within : (1 ≤ d.items) × (d.items ≤ MAX_ITEMS)
  pub table : table_behind d.items 0 [] later ≡ Ok d.values

module _ (d : DistancesValue) (first : NumberedLine) (later : List NumberedLine) where
  tabled : (n : ℕ) → items_named (one_number (words_of first.text)) ≡ Ok n → (1 ≤ n) × (n ≤ MAX_ITEMS) → (table : Result (List ℕ) Refusal) → table_behind n 0 [] later ≡ table
      → distances_with n table ≡ read.Ok d → DistancesRead (first ∷ later) d
  tabled n named within (Err refusal) e h = absurd (cc)
  tabled n named within (Ok values) e h =
      let is : (record { items = n; values = values }) ≡ d = cc in
      subst (DistancesRead (first ∷ later)) is (record { first = first; later = later; are = refl; named = named; within = within; table = e })

  headed_items : (items : Result ℕ ℕ) → items_named (one_number (words_of first.text)) ≡ items → distances_behind first.number items later ≡ read.Ok d → DistancesRead (first ∷ later) d
  headed_items (Err code) e h = absurd (cc)
  headed_items (Ok n) e h = tabled n e (items_within (words_of first.text) n e) (table_behind n 0 [] later) refl (sym (read_behind n later first.number) ∙ h)

pub distances_from : (d : DistancesValue) (bytes : List ℕ) → distances bytes ≡ read.Ok d → (length bytes ≤ MAX_FILE_BYTES) × DistancesRead (filled_of bytes) d
distances_from d bytes h = given distances distances_lines distances_behind items_head distances_reads (λ head later. refl) DistancesRead (λ head later found v e k. headed_items v head later found e k) bytes d h
