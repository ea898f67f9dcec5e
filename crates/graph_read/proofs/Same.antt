-- The graphs and the tables as they are read are those that files write.
use Rattle.std.proofs.Common.{◌≡◌, ◌∙◌, ℕ, zero, suc, ◌+◌, ◌^◌, ◌<◌, ◌≤◌, Bool, true, false, if◌then◌else◌, cond, not, ◌==◌, ◌||◌, ◌&&◌, nat_lt, List, [], ◌∷◌, map, refl, sym, ap, arith, Option, Some, None, Result, Ok, Err}
use Rattle.std.proofs.lemmas.Bool.{ne_eqb, lt-ltb, ltb-false}
use Rattle.std.specs.List.{filter, range_with_len}
use mathlib.Core.Path.{fun_ext}
use Rattle.column_order.specs.Orders.{has}
use Rattle.row_model.specs.Limits.{within_length}
use Rattle.row_model.specs.Rows.{columns_where}
use Rattle.row_model.specs.declared.refusal.Refusal.{Refusal}
use Rattle.row_model.specs.declared.refusal.Read.TheVariants as read
use Rattle.row_model.specs.declared.TheConstants.{MAX_COLUMNS, MAX_ITEMS}
use Rattle.row_model.specs.declared.code.TheConstants.{GRAMMAR, RANGE, SYMMETRY, LIMIT}
use Rattle.text_lines.specs.Lines.{NumberedLine}
use Rattle.text_lines.specs.FirstRefusal.{filled_of}
use Rattle.text_lines.specs.Heads.{size_given, if_head, from_head}
use Rattle.text_lines.specs.Rows.{code_or, first_refusal, refused_or}
use Rattle.text_lines.specs.Words.{words_of, number_of, numbers_in, numeral}
use Rattle.text_lines.specs.declared.words.Numeral.{Numeral}
use Rattle.text_lines.specs.declared.words.Numeral.TheVariants.{Value, TooLarge, NotDigits}
use Rattle.graph_model.specs.declared.TheConstants.{LEFT_BOUND}
use Rattle.graph_read.specs.declared.edges.Edge.{Edge}
use Rattle.graph_read.specs.declared.edges.Shape.{Shape}
use Rattle.graph_read.specs.declared.edges.Shape.TheVariants.{Bipartite, Plain}
use Rattle.graph_read.specs.Numbers.{is_zero, is_past, size_named, is_within, value_of, both_numbers, two_numbers, if_number, one_number, is_value, are_values}
use Rattle.graph_read.specs.Edges.{refused_as, edge_named, edge_code, both_ways, ends_from, edges_of, edge_refusal, lists_from, sides_named, vertices_named}
use Rattle.graph_read.specs.GraphFiles.{bigraph_with, bigraph_behind, bigraph_lines, graph_with, graph_behind, graph_lines}
use Rattle.graph_read.specs.DistanceFiles.{items_named, distances_sized, distances_behind, distances_lines, distances}
use Rattle.graph_read.specs.FileLaws.{names_edge}
use Rattle.graph_read.specs.Files.{sizes_given, ends_code, pair_code, are_ends, line_joins, joined_lists, bigraph_sized, bigraph, graph_sized, graph}
use Rattle.graph_read.proofs.EdgeLemmas.{ends_either}
use Rattle.graph_read.proofs.EdgeNames.{lines_name}

-- a head of another form
abbrev pub shaped : {A B : Type 0} → (A → B) → Result A ℕ → Result B ℕ
shaped f (Ok head) = Ok (f head)
shaped f (Err code) = Err code

tests_shaped : {A B : Type 0} (f : A → B) (head : A) (none past : Bool) →
    (if none then Err RANGE else if past then Err LIMIT else Ok (f head)) ≡ shaped f (if none then Err RANGE else if past then Err LIMIT else Ok head)
tests_shaped f head true past = refl
tests_shaped f head false true = refl
tests_shaped f head false false = refl

-- a number that is not one of 64 bits is past each limit below that
large_some : (u : ℕ) → nat_lt u (2 ^ 64) ≡ false → (u == 0) ≡ false
large_some u large = let far : 2 ^ 64 ≤ u = ltb-false u (2 ^ 64) large in ne_eqb u 0 (λ e. absurd (omega arith))

large_past : (limit u : ℕ) → limit < 2 ^ 64 → nat_lt u (2 ^ 64) ≡ false → nat_lt limit u ≡ true
large_past limit u small large = let far : 2 ^ 64 ≤ u = ltb-false u (2 ^ 64) large in lt-ltb limit u (omega arith)

-- the vertices by the number that a first line gives
pub vertices_shaped : (o : Option Numeral) → vertices_named o ≡ shaped (λ n. Plain n) (size_named MAX_COLUMNS o)
vertices_shaped None = refl
vertices_shaped (Some n) = tests_shaped (λ n. Plain n) (value_of n) (is_zero n) (is_past MAX_COLUMNS n)

-- a first line with one number
module _ (limit : ℕ) (small : limit < 2 ^ 64) where
  other_numbers : (o p : Option ℕ) (numbers : List (Option ℕ)) → size_given limit (o ∷ p ∷ numbers) ≡ Err GRAMMAR
  other_numbers None p numbers = refl
  other_numbers (Some n) p numbers = refl

vertices_same : (words : List (List ℕ)) → vertices_named (one_number words) ≡ shaped (λ n. Plain n) (size_given MAX_COLUMNS (map number_of words))
vertices_same [] = refl
vertices_same (a ∷ []) = by (number_of a)
  where
    by_size : (u : ℕ) (fits : Bool) → nat_lt u (2 ^ 64) ≡ fits → vertices_named (if_number (if fits then Value u else TooLarge)) ≡ shaped (λ n. Plain n) (size_given MAX_COLUMNS (Some u ∷ []))
    by_size u true e = tests_shaped (λ n. Plain n) u (u == 0) (nat_lt MAX_COLUMNS u)
    by_size u false e = rw (large_some u e, large_past MAX_COLUMNS u (omega arith) e) refl

    by : (o : Option ℕ) → vertices_named (if_number (numeral o)) ≡ shaped (λ n. Plain n) (size_given MAX_COLUMNS (o ∷ []))
    by None = refl
    by (Some u) = by_size u (nat_lt u (2 ^ 64)) refl
vertices_same (a ∷ b ∷ words) = ap (shaped (λ n. Plain n)) (sym (other_numbers MAX_COLUMNS (omega arith) (number_of a) (number_of b) (map number_of words)))

items_same : (words : List (List ℕ)) → items_named (one_number words) ≡ size_given MAX_ITEMS (map number_of words)
items_same [] = refl
items_same (a ∷ []) = by (number_of a)
  where
    by_size : (u : ℕ) (fits : Bool) → nat_lt u (2 ^ 64) ≡ fits → items_named (if_number (if fits then Value u else TooLarge)) ≡ size_given MAX_ITEMS (Some u ∷ [])
    by_size u true e = refl
    by_size u false e = rw (large_some u e, large_past MAX_ITEMS u (omega arith) e) refl

    by : (o : Option ℕ) → items_named (if_number (numeral o)) ≡ size_given MAX_ITEMS (o ∷ [])
    by None = refl
    by (Some u) = by_size u (nat_lt u (2 ^ 64)) refl
items_same (a ∷ b ∷ words) = sym (other_numbers MAX_ITEMS (omega arith) (number_of a) (number_of b) (map number_of words))

-- a first line with two numbers
abbrev sides : ℕ × ℕ → Shape
sides sizes = Bipartite sizes.0 sizes.1

sides_same : (limit : ℕ) → limit < 2 ^ 64 → (words : List (List ℕ)) → sides_named limit (two_numbers words) ≡ shaped sides (sizes_given limit (map number_of words))
sides_same limit small [] = refl
sides_same limit small (a ∷ []) = by (number_of a)
  where
    by : (o : Option ℕ) → Err GRAMMAR ≡ shaped sides (sizes_given limit (o ∷ []))
    by None = refl
    by (Some u) = refl
sides_same limit small (a ∷ b ∷ []) = by (number_of a) (number_of b)
  where
    by_sizes : (u v : ℕ) (fits also : Bool) → nat_lt u (2 ^ 64) ≡ fits → nat_lt v (2 ^ 64) ≡ also →
        sides_named limit (both_numbers (if fits then Value u else TooLarge) (if also then Value v else TooLarge)) ≡ shaped sides (sizes_given limit (Some u ∷ Some v ∷ []))
    by_sizes u v true true e k = tests_shaped sides (u, v) ((u == 0) || (v == 0)) (nat_lt limit u || nat_lt MAX_COLUMNS v)
    by_sizes u v false true e k = rw (large_some u e, large_past limit u small e) (elim (v == 0) as (λ t. (if t then Err RANGE else Err LIMIT) ≡ shaped sides (if t then Err RANGE else Err LIMIT)) [ true ↦ refl | false ↦ refl ])
    by_sizes u v true false e k =
        rw (large_some v k, large_past MAX_COLUMNS v (omega arith) k)
        (elim (u == 0) as (λ t. (if t || false then Err RANGE else if nat_lt limit u || true then Err LIMIT else Ok (Bipartite u 0)) ≡ shaped sides (if t || false then Err RANGE else if nat_lt limit u || true then Err LIMIT else Ok (u, v))) [
          | true ↦ refl
          | false ↦ elim (nat_lt limit u) as (λ p. (if p || true then Err LIMIT else Ok (Bipartite u 0)) ≡ shaped sides (if p || true then Err LIMIT else Ok (u, v))) [ true ↦ refl | false ↦ refl ]
        ])
    by_sizes u v false false e k = rw (large_some u e, large_past limit u small e, large_some v k) refl

    by_first : (u : ℕ) (fits : Bool) → sides_named limit (both_numbers (if fits then Value u else TooLarge) NotDigits) ≡ Err GRAMMAR
    by_first u true = refl
    by_first u false = refl

    by : (o p : Option ℕ) → sides_named limit (both_numbers (numeral o) (numeral p)) ≡ shaped sides (sizes_given limit (o ∷ p ∷ []))
    by None p = refl
    by (Some u) None = by_first u (nat_lt u (2 ^ 64))
    by (Some u) (Some v) = by_sizes u v (nat_lt u (2 ^ 64)) (nat_lt v (2 ^ 64)) refl refl
sides_same limit small (a ∷ b ∷ d ∷ words) = by (number_of a) (number_of b)
  where
    by : (o p : Option ℕ) → Err GRAMMAR ≡ shaped sides (sizes_given limit (o ∷ p ∷ number_of d ∷ map number_of words))
    by None p = refl
    by (Some u) None = refl
    by (Some u) (Some v) = refl

-- what a number of a line is within a bound below 64 bits
not_or : (a b : Bool) → (not a && not b) ≡ not (a || b)
not_or true b = refl
not_or false true = refl
not_or false false = refl

or_true : (a b : Bool) → b ≡ true → false ≡ not (a || b)
or_true true b e = refl
or_true false b e = rw e refl

module _ (n : ℕ) (small : n < 2 ^ 64) (u : ℕ) where
  within_same : is_within n (numeral (Some u)) ≡ not ((u == 0) || nat_lt n u)
  within_same = by (nat_lt u (2 ^ 64)) refl
    where
      by : (fits : Bool) → nat_lt u (2 ^ 64) ≡ fits → is_within n (if fits then Value u else TooLarge) ≡ not ((u == 0) || nat_lt n u)
      by true e = not_or (u == 0) (nat_lt n u)
      by false e = or_true (u == 0) (nat_lt n u) (large_past n u small e)

  value_same : ((u == 0) || nat_lt n u) ≡ false → value_of (numeral (Some u)) ≡ u
  value_same h = by (nat_lt u (2 ^ 64)) refl
    where
      past : (a b : Bool) → (a || b) ≡ false → b ≡ false
      past true b e = absurd (cc)
      past false b e = e

      by : (fits : Bool) → nat_lt u (2 ^ 64) ≡ fits → value_of (if fits then Value u else TooLarge) ≡ u
      by true e = refl
      by false e = let far : nat_lt n u ≡ true = large_past n u small e in let near : nat_lt n u ≡ false = past (u == 0) (nat_lt n u) h in absurd (cc)

both_numerals : (u v : ℕ) → both_numbers (numeral (Some u)) (numeral (Some v)) ≡ Some (record { first = numeral (Some u); second = numeral (Some v) })
both_numerals u v = by (nat_lt u (2 ^ 64)) (nat_lt v (2 ^ 64))
  where
    by : (fits also : Bool) → both_numbers (if fits then Value u else TooLarge) (if also then Value v else TooLarge) ≡ Some (record { first = if fits then Value u else TooLarge; second = if also then Value v else TooLarge })
    by true true = refl
    by true false = refl
    by false true = refl
    by false false = refl

no_second : (u : ℕ) → both_numbers (numeral (Some u)) NotDigits ≡ None
no_second u = by (nat_lt u (2 ^ 64))
  where
    by : (fits : Bool) → both_numbers (if fits then Value u else TooLarge) NotDigits ≡ None
    by true = refl
    by false = refl

-- the code of a line by its words, for each way to tell the code of two numbers
module _ (shape : Shape) (code_of : List (Option ℕ) → Option ℕ)
    (none : code_of [] ≡ Some GRAMMAR) (one : (o : Option ℕ) → code_of (o ∷ []) ≡ Some GRAMMAR) (no_first : (p : Option ℕ) → code_of (None ∷ p ∷ []) ≡ Some GRAMMAR)
    (no_other : (u : ℕ) → code_of (Some u ∷ None ∷ []) ≡ Some GRAMMAR) (more : (o p q : Option ℕ) (numbers : List (Option ℕ)) → code_of (o ∷ p ∷ q ∷ numbers) ≡ Some GRAMMAR)
    (two : (u v : ℕ) → refused_as (edge_named shape (Some (record { first = numeral (Some u); second = numeral (Some v) }))) ≡ code_of (Some u ∷ Some v ∷ [])) where
  code_by : (words : List (List ℕ)) → refused_as (edge_named shape (two_numbers words)) ≡ code_of (map number_of words)
  code_by [] = sym none
  code_by (a ∷ []) = sym (one (number_of a))
  code_by (a ∷ b ∷ []) = by (number_of a) (number_of b)
    where
      by : (o p : Option ℕ) → refused_as (edge_named shape (both_numbers (numeral o) (numeral p))) ≡ code_of (o ∷ p ∷ [])
      by None p = sym (no_first p)
      by (Some u) None = ap (λ pair. refused_as (edge_named shape pair)) (no_second u) ∙ sym (no_other u)
      by (Some u) (Some v) = ap (λ pair. refused_as (edge_named shape pair)) (both_numerals u v) ∙ two u v
  code_by (a ∷ b ∷ d ∷ words) = sym (more (number_of a) (number_of b) (number_of d) (map number_of words))

edge_tests : (edge : Edge) (w1 w2 z1 z2 : Bool) → w1 ≡ not z1 → w2 ≡ not z2 → refused_as (if w1 && w2 then Ok edge else Err RANGE) ≡ (if z1 || z2 then Some RANGE else None)
edge_tests edge w1 w2 true z2 a b = rw a refl
edge_tests edge w1 w2 false true a b = rw (a, b) refl
edge_tests edge w1 w2 false false a b = rw (a, b) refl

ends_same : (n c : ℕ) → n < 2 ^ 64 → c < 2 ^ 64 → (line : List ℕ) → edge_code (Bipartite n c) line ≡ ends_code n c (numbers_in line)
ends_same n c small also line =
    code_by (Bipartite n c) (ends_code n c) refl one (λ p. refl) (λ u. refl) more
    (λ u v. edge_tests (record { from = value_of (numeral (Some u)); to = value_of (numeral (Some v)) }) (is_within n (numeral (Some u))) (is_within c (numeral (Some v)))
    ((u == 0) || nat_lt n u) ((v == 0) || nat_lt c v) (within_same n small u) (within_same c also v))
    (words_of line)
  where
    one : (o : Option ℕ) → ends_code n c (o ∷ []) ≡ Some GRAMMAR
    one None = refl
    one (Some u) = refl

    more : (o p q : Option ℕ) (numbers : List (Option ℕ)) → ends_code n c (o ∷ p ∷ q ∷ numbers) ≡ Some GRAMMAR
    more None p q numbers = refl
    more (Some u) None q numbers = refl
    more (Some u) (Some v) q numbers = refl

pair_tests : (x y u v : ℕ) (w1 w2 z1 z2 : Bool) → w1 ≡ not z1 → w2 ≡ not z2 → (z1 ≡ false → x ≡ u) → (z2 ≡ false → y ≡ v) →
    refused_as (if w1 && w2 then (if x == y then Err SYMMETRY else Ok (record { from = x; to = y })) else Err RANGE) ≡ code_or (if z1 || z2 then Some RANGE else None) (if u == v then Some SYMMETRY else None)
pair_tests x y u v w1 w2 true z2 a b f g = rw a refl
pair_tests x y u v w1 w2 false true a b f g = rw (a, b) refl
pair_tests x y u v w1 w2 false false a b f g =
    rw (a, b, f refl, g refl) (elim (u == v) as (λ t. refused_as (if t then Err SYMMETRY else Ok (record { from = u; to = v })) ≡ (if t then Some SYMMETRY else None)) [ true ↦ refl | false ↦ refl ])

pair_same : (n : ℕ) → n < 2 ^ 64 → (line : List ℕ) → edge_code (Plain n) line ≡ pair_code n (numbers_in line)
pair_same n small line =
    code_by (Plain n) (pair_code n) refl one (λ p. refl) (λ u. refl) more
    (λ u v. pair_tests (value_of (numeral (Some u))) (value_of (numeral (Some v))) u v (is_within n (numeral (Some u))) (is_within n (numeral (Some v)))
    ((u == 0) || nat_lt n u) ((v == 0) || nat_lt n v) (within_same n small u) (within_same n small v) (value_same n small u) (value_same n small v))
    (words_of line)
  where
    one : (o : Option ℕ) → pair_code n (o ∷ []) ≡ Some GRAMMAR
    one None = refl
    one (Some u) = refl

    more : (o p q : Option ℕ) (numbers : List (Option ℕ)) → pair_code n (o ∷ p ∷ q ∷ numbers) ≡ Some GRAMMAR
    more None p q numbers = refl
    more (Some u) None q numbers = refl
    more (Some u) (Some v) q numbers = refl

-- the edges that lines name
pair_ends : (x y u v : ℕ) → x < 2 ^ 64 → y < 2 ^ 64 → are_values x y (Some (record { first = numeral (Some u); second = numeral (Some v) })) ≡ are_ends x y (Some u ∷ Some v ∷ [])
pair_ends x y u v px py = ap (λ b. b && is_value y (numeral (Some v))) (value_is x u px) ∙ ap (λ b. (u == x) && b) (value_is y v py)
  where
    value_is : (n a : ℕ) → n < 2 ^ 64 → is_value n (numeral (Some a)) ≡ (a == n)
    value_is n a small = by (nat_lt a (2 ^ 64)) refl
      where
        by : (fits : Bool) → nat_lt a (2 ^ 64) ≡ fits → is_value n (if fits then Value a else TooLarge) ≡ (a == n)
        by true e = refl
        by false e = let far : 2 ^ 64 ≤ a = ltb-false a (2 ^ 64) e in sym (ne_eqb a n (λ k. absurd (omega arith)))

ends_named : (x y : ℕ) → x < 2 ^ 64 → y < 2 ^ 64 → (words : List (List ℕ)) → are_values x y (two_numbers words) ≡ are_ends x y (map number_of words)
ends_named x y px py [] = refl
ends_named x y px py (a ∷ []) = by (number_of a)
  where
    by : (o : Option ℕ) → false ≡ are_ends x y (o ∷ [])
    by None = refl
    by (Some u) = refl
ends_named x y px py (a ∷ b ∷ []) = by (number_of a) (number_of b)
  where
    by : (o p : Option ℕ) → are_values x y (both_numbers (numeral o) (numeral p)) ≡ are_ends x y (o ∷ p ∷ [])
    by None p = refl
    by (Some u) None = ap (are_values x y) (no_second u)
    by (Some u) (Some v) = ap (are_values x y) (both_numerals u v) ∙ pair_ends x y u v px py
ends_named x y px py (a ∷ b ∷ d ∷ words) = by (number_of a) (number_of b)
  where
    by : (o p : Option ℕ) → false ≡ are_ends x y (o ∷ p ∷ number_of d ∷ map number_of words)
    by None p = refl
    by (Some u) None = refl
    by (Some u) (Some v) = refl

joins_same : (x y : ℕ) → x < 2 ^ 64 → y < 2 ^ 64 → (lines : List NumberedLine) → names_edge lines x y ≡ line_joins lines x y
joins_same x y px py [] = refl
joins_same x y px py (line ∷ lines) =
    ap (λ b. b || names_edge lines x y) (ends_named x y px py (words_of line.text))
    ∙ ap (λ b. are_ends x y (numbers_in line.text) || b) (joins_same x y px py lines)

-- the lists of the vertices
filter_same : (p q : ℕ → Bool) (n a : ℕ) → ((y : ℕ) → a ≤ y → y < a + n → p y ≡ q y) → filter p (range_with_len a n) ≡ filter q (range_with_len a n)
filter_same p q zero a h = refl
filter_same p q (suc n) a h =
    ap (λ t. cond t (a ∷ filter p (range_with_len (a + 1) n)) (filter p (range_with_len (a + 1) n))) (h a (omega arith) (omega arith))
    ∙ ap (λ xs. cond (q a) (a ∷ xs) xs) (filter_same p q n (a + 1) (λ y l u. h y (omega (arith, l)) (omega (arith, u))))

lists_same : (joined : ℕ → ℕ → Bool) (c : ℕ) (edges : List Edge) (n x : ℕ) → ((u v : ℕ) → x ≤ u → u < x + n → 1 ≤ v → v ≤ c → has (ends_from u edges) v ≡ joined u v)
    → lists_from x n c edges ≡ map (λ u. columns_where c (joined u)) (range_with_len x n)
lists_same joined c edges zero x h = refl
lists_same joined c edges (suc n) x h =
    ap (λ list. list ∷ lists_from (x + 1) n c edges) (filter_same (has (ends_from x edges)) (joined x) c 1 (λ v l u. h x v (omega arith) (omega arith) l (omega (arith, u))))
    ∙ ap (λ lists. columns_where c (joined x) ∷ lists) (lists_same joined c edges n (x + 1) (λ u v a b l k. h u v (omega (arith, a)) (omega (arith, b)) l k))

module _ (lines : List NumberedLine) where
  bigraph_lists : (n c : ℕ) → n < 2 ^ 64 → c < 2 ^ 64 → edge_refusal (Bipartite n c) lines ≡ None → lists_from 1 n c (edges_of (Bipartite n c) lines) ≡ joined_lists n c (line_joins lines)
  bigraph_lists n c small also none =
      lists_same (line_joins lines) c (edges_of (Bipartite n c) lines) n 1
      (λ u v a b l k. lines_name u v a l (Bipartite n c) lines none ∙ joins_same u v (omega (arith, b, small)) (omega (arith, k, also)) lines)

  graph_lists : (n : ℕ) → n < 2 ^ 64 → edge_refusal (Plain n) lines ≡ None → lists_from 1 n n (both_ways (edges_of (Plain n) lines)) ≡ joined_lists n n (λ u v. line_joins lines u v || line_joins lines v u)
  graph_lists n small none =
      lists_same (λ u v. line_joins lines u v || line_joins lines v u) n (both_ways (edges_of (Plain n) lines)) n 1
      (λ u v a b l k.
      ends_either u v (edges_of (Plain n) lines)
      ∙ ap (λ t. t || has (ends_from v (edges_of (Plain n) lines)) u) (lines_name u v a l (Plain n) lines none ∙ joins_same u v (omega (arith, b, small)) (omega (arith, k, small)) lines)
      ∙ ap (λ t. line_joins lines u v || t) (lines_name v u l a (Plain n) lines none ∙ joins_same v u (omega (arith, k, small)) (omega (arith, b, small)) lines))

  -- behind a head
  bigraph_behind_same : (n c : ℕ) → n < 2 ^ 64 → c < 2 ^ 64 → (number : ℕ) → bigraph_sized (n, c) lines ≡ bigraph_behind number (Ok (Bipartite n c)) lines
  bigraph_behind_same n c small also number =
      ap (λ refusal. refused_or refusal (record { left = n; right = c; neighbours = joined_lists n c (line_joins lines) })) codes
      ∙ by (edge_refusal (Bipartite n c) lines) refl
    where
      codes : first_refusal (λ before line. ends_code n c (numbers_in line)) 0 lines ≡ edge_refusal (Bipartite n c) lines
      codes = ap (λ code_of. first_refusal code_of 0 lines) (fun_ext (λ before. fun_ext (λ line. sym (ends_same n c small also line))))

      by : (found : Option Refusal) → edge_refusal (Bipartite n c) lines ≡ found →
          refused_or found (record { left = n; right = c; neighbours = joined_lists n c (line_joins lines) })
          ≡ bigraph_with (Bipartite n c) (refused_or found (record { columns = c; rows = lists_from 1 n c (edges_of (Bipartite n c) lines) }))
      by (Some refusal) e = refl
      by None e = ap (λ lists. read.Ok (record { left = n; right = c; neighbours = lists })) (sym (bigraph_lists n c small also e))

  graph_behind_same : (n : ℕ) → n < 2 ^ 64 → (number : ℕ) → graph_sized n lines ≡ graph_behind number (Ok (Plain n)) lines
  graph_behind_same n small number =
      ap (λ refusal. refused_or refusal (record { vertices = n; neighbours = joined_lists n n (λ u v. line_joins lines u v || line_joins lines v u) })) codes
      ∙ by (edge_refusal (Plain n) lines) refl
    where
      codes : first_refusal (λ before line. pair_code n (numbers_in line)) 0 lines ≡ edge_refusal (Plain n) lines
      codes = ap (λ code_of. first_refusal code_of 0 lines) (fun_ext (λ before. fun_ext (λ line. sym (pair_same n small line))))

      by : (found : Option Refusal) → edge_refusal (Plain n) lines ≡ found →
          refused_or found (record { vertices = n; neighbours = joined_lists n n (λ u v. line_joins lines u v || line_joins lines v u) })
          ≡ graph_with (Plain n) (refused_or found (record { columns = n; rows = lists_from 1 n n (both_ways (edges_of (Plain n) lines)) }))
      by (Some refusal) e = refl
      by None e = ap (λ lists. read.Ok (record { vertices = n; neighbours = lists })) (sym (graph_lists n small e))

-- a size that is given is within its limit
tests_within : (limit u n : ℕ) (none past : Bool) → nat_lt limit u ≡ past → (if none then Err RANGE else if past then Err LIMIT else Ok u) ≡ Ok n → n ≤ limit
tests_within limit u n true past e h = absurd (cc)
tests_within limit u n false true e h = absurd (cc)
tests_within limit u n false false e h = let same : u ≡ n = cc in let small : u ≤ limit = ltb-false limit u e in omega (arith, same)

size_within : (limit : ℕ) (numbers : List (Option ℕ)) (n : ℕ) → size_given limit numbers ≡ Ok n → n ≤ limit
size_within limit [] n h = absurd (cc)
size_within limit (None ∷ numbers) n h = absurd (cc)
size_within limit (Some u ∷ []) n h = tests_within limit u n (u == 0) (nat_lt limit u) refl h
size_within limit (Some u ∷ o ∷ numbers) n h = absurd (cc)

abbrev by_tests : Bool → Bool → ℕ × ℕ → Result (ℕ × ℕ) ℕ
by_tests none past sizes = if none then Err RANGE else if past then Err LIMIT else Ok sizes

both_within : (limit u v n c : ℕ) (none a b : Bool) → nat_lt limit u ≡ a → nat_lt MAX_COLUMNS v ≡ b → by_tests none (a || b) (u, v) ≡ Ok (n, c) → (n ≤ limit) × (c ≤ MAX_COLUMNS)
both_within limit u v n c true a b e k h = absurd (cc)
both_within limit u v n c false true b e k h = absurd (cc)
both_within limit u v n c false false true e k h = absurd (cc)
both_within limit u v n c false false false e k h =
    let given : ℕ × ℕ = (u, v) in
    let found : ℕ × ℕ = (n, c) in
    let both : given ≡ found = cc in
    let same : u ≡ n = ap (λ (s : ℕ × ℕ). s.0) both in
    let also : v ≡ c = ap (λ (s : ℕ × ℕ). s.1) both in
    let left : u ≤ limit = ltb-false limit u e in
    let right : v ≤ MAX_COLUMNS = ltb-false MAX_COLUMNS v k in
    (omega (arith, same), omega (arith, also))

sizes_within : (limit : ℕ) (numbers : List (Option ℕ)) (n c : ℕ) → sizes_given limit numbers ≡ Ok (n, c) → (n ≤ limit) × (c ≤ MAX_COLUMNS)
sizes_within limit [] n c h = absurd (cc)
sizes_within limit (None ∷ numbers) n c h = absurd (cc)
sizes_within limit (Some u ∷ []) n c h = absurd (cc)
sizes_within limit (Some u ∷ None ∷ numbers) n c h = absurd (cc)
sizes_within limit (Some u ∷ Some v ∷ []) n c h = both_within limit u v n c ((u == 0) || (v == 0)) (nat_lt limit u) (nat_lt MAX_COLUMNS v) refl refl h
sizes_within limit (Some u ∷ Some v ∷ o ∷ numbers) n c h = absurd (cc)

-- all lines
bigraph_lines_same : (limit : ℕ) → limit ≤ LEFT_BOUND → (lines : List NumberedLine) → from_head (λ line. sizes_given limit (numbers_in line)) bigraph_sized lines ≡ bigraph_lines limit lines
bigraph_lines_same limit small [] = refl
bigraph_lines_same limit small (first ∷ lines) =
    by (sizes_given limit (numbers_in first.text)) refl
    ∙ ap (λ found. bigraph_behind first.number found lines) (sym (sides_same limit (omega (arith, small)) (words_of first.text)))
  where
    by : (found : Result (ℕ × ℕ) ℕ) → sizes_given limit (numbers_in first.text) ≡ found → if_head first.number found (λ sizes. bigraph_sized sizes lines) ≡ bigraph_behind first.number (shaped sides found) lines
    by (Err code) e = refl
    by (Ok sizes) e =
        let within = sizes_within limit (numbers_in first.text) sizes.0 sizes.1 e in
        bigraph_behind_same lines sizes.0 sizes.1 (omega (arith, within.0, small)) (omega (arith, within.1)) first.number

graph_lines_same : (lines : List NumberedLine) → from_head (λ line. size_given MAX_COLUMNS (numbers_in line)) graph_sized lines ≡ graph_lines lines
graph_lines_same [] = refl
graph_lines_same (first ∷ lines) =
    by (size_given MAX_COLUMNS (numbers_in first.text)) refl
    ∙ ap (λ found. graph_behind first.number found lines) (sym (vertices_same (words_of first.text)))
  where
    by : (found : Result ℕ ℕ) → size_given MAX_COLUMNS (numbers_in first.text) ≡ found → if_head first.number found (λ n. graph_sized n lines) ≡ graph_behind first.number (shaped (λ n. Plain n) found) lines
    by (Err code) e = refl
    by (Ok n) e = let within : n ≤ MAX_COLUMNS = size_within MAX_COLUMNS (numbers_in first.text) n e in graph_behind_same lines n (omega arith) first.number

distances_lines_same : (lines : List NumberedLine) → from_head (λ line. size_given MAX_ITEMS (numbers_in line)) distances_sized lines ≡ distances_lines lines
distances_lines_same [] = refl
distances_lines_same (first ∷ lines) = ap (λ found. distances_behind first.number found lines) (sym (items_same (words_of first.text)))

pub bigraph_same : (limit : ℕ) → limit ≤ LEFT_BOUND → (bytes : List ℕ) → bigraph limit bytes ≡ within_length bytes (bigraph_lines limit (filled_of bytes))
unfolding bigraph
bigraph_same limit small bytes = ap (within_length bytes) (bigraph_lines_same limit small (filled_of bytes))

pub graph_same : (bytes : List ℕ) → graph bytes ≡ within_length bytes (graph_lines (filled_of bytes))
unfolding graph
graph_same bytes = ap (within_length bytes) (graph_lines_same (filled_of bytes))

pub distances_same : (bytes : List ℕ) → distances bytes ≡ within_length bytes (distances_lines (filled_of bytes))
unfolding distances
distances_same bytes = ap (within_length bytes) (distances_lines_same (filled_of bytes))
