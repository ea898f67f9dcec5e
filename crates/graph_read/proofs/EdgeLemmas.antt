-- The lists of edges both ways are those of a graph.
use Rattle.std.proofs.Common.{◌≡◌, ◌≢◌, ◌⊎◌, ◌∙◌, ℕ, zero, suc, ◌+◌, ◌-◌, ◌<◌, ◌≤◌, Bool, true, false, if◌then◌else◌, ◌||◌, ◌&&◌, eqb, List, [], ◌∷◌, get_or, refl, sym, ap, inl, inr, arith, eq-eqb, Option, Some, None, Result, Ok, Err}
use Rattle.std.proofs.lemmas.Bool.{cases_eq, cases_lt, ne_eqb}
use Rattle.std.proofs.lemmas.List.{get_or_past}
use Rattle.std.specs.List.{AllByRecursion}
use Rattle.column_order.specs.Orders.{has}
use Rattle.row_model.specs.Rows.{IsRow}
use Rattle.row_model.specs.declared.code.TheConstants.{SYMMETRY, RANGE}
use Rattle.row_model.proofs.Ascending.{row_within}
use Rattle.row_model.proofs.Filtered.{has_filtered, filtered_row}
use Rattle.text_lines.specs.Lines.{NumberedLine}
use Rattle.text_lines.specs.Rows.{columns_among}
use Rattle.text_lines.specs.Words.{words_of}
use Rattle.graph_read.specs.declared.edges.Edge.{Edge}
use Rattle.graph_read.specs.declared.edges.Shape.TheVariants.{Plain}
use Rattle.graph_read.specs.declared.numbers.NumberPair.{NumberPair}
use Rattle.graph_model.specs.Graphs.{has_edge}
use Rattle.graph_read.specs.Numbers.{is_within, value_of, two_numbers}
use Rattle.graph_read.specs.Edges.{both_ways, ends_from, lists_from, edge_named, edge_before, edges_of, unless_loop}
use Rattle.graph_read.proofs.ListLemmas.{length-lists_from}

-- the list of a vertex
list_at : (x n c i : ℕ) (edges : List Edge) → i < n → get_or (lists_from x n c edges) i [] ≡ columns_among c (ends_from (x + i) edges)
list_at x zero c i edges lt = absurd (omega arith)
list_at x (suc n) c zero edges lt = ap (λ a. columns_among c (ends_from a edges)) (omega arith)
list_at x (suc n) c (suc i) edges lt = list_at (x + 1) n c i edges (omega arith) ∙ ap (λ a. columns_among c (ends_from a edges)) (omega arith)

list_of : (n c u : ℕ) (edges : List Edge) → 1 ≤ u → u ≤ n → get_or (lists_from 1 n c edges) (u - 1) [] ≡ columns_among c (ends_from u edges)
list_of n c u edges some le =
    let at : 1 + (u - 1) ≡ u = omega arith in
    list_at 1 n c (u - 1) edges (omega arith) ∙ ap (λ a. columns_among c (ends_from a edges)) at

pub edge_inside : (n c u v : ℕ) (edges : List Edge) → 1 ≤ u → u ≤ n → 1 ≤ v → v ≤ c → has_edge (lists_from 1 n c edges) u v ≡ has (ends_from u edges) v
edge_inside n c u v edges pu lu pv lv = ap (λ list. has list v) (list_of n c u edges pu lu) ∙ has_filtered (has (ends_from u edges)) c v pv lv

lacks : (b : Bool) → (b ≡ true → ⊥) → b ≡ false
lacks true h = absurd (h refl)
lacks false h = refl

list_past : (n u v : ℕ) (edges : List Edge) → 1 ≤ u → n < u → has_edge (lists_from 1 n n edges) u v ≡ false
list_past n u v edges pu far = ap (λ list. has list v) (get_or_past (lists_from 1 n n edges) (u - 1) [] (omega (arith, length-lists_from 1 n n edges)))

edge_outside : (n u v : ℕ) (edges : List Edge) → 1 ≤ u → (n < u) ⊎ (n < v) → has_edge (lists_from 1 n n edges) u v ≡ false
edge_outside n u v edges pu (inl far) = list_past n u v edges pu far
edge_outside n u v edges pu (inr far) =
    elim (cases_lt n u) [
      | inl out ↦ list_past n u v edges pu out
      | inr le ↦
          let row : IsRow n (columns_among n (ends_from u edges)) = filtered_row (has (ends_from u edges)) n in
          ap (λ list. has list v) (list_of n n u edges pu le) ∙ lacks (has (columns_among n (ends_from u edges)) v) (λ e. absurd (omega (arith, (row_within n (columns_among n (ends_from u edges)) row v e).1)))
    ]

-- edges both ways
pub ends_step : (u v : ℕ) (edge : Edge) (edges : List Edge) → has (ends_from u (edge ∷ edges)) v ≡ ((eqb edge.from u && eqb edge.to v) || has (ends_from u edges) v)
ends_step u v edge edges = elim (eqb edge.from u) as (λ p. has (if p then edge.to ∷ ends_from u edges else ends_from u edges) v ≡ ((p && eqb edge.to v) || has (ends_from u edges) v)) [ true ↦ refl | false ↦ refl ]

turn : (p q r s h : Bool) → ((p && q) || ((r && s) || h)) ≡ ((s && r) || ((q && p) || h))
turn true true true true h = refl
turn true true true false h = refl
turn true true false true h = refl
turn true true false false h = refl
turn true false true true h = refl
turn true false true false h = refl
turn true false false true h = refl
turn true false false false h = refl
turn false true true true h = refl
turn false true true false h = refl
turn false true false true h = refl
turn false true false false h = refl
turn false false true true h = refl
turn false false true false h = refl
turn false false false true h = refl
turn false false false false h = refl

-- edges both ways are those of either way
shuffle : (p r s a b : Bool) → (p || ((r && s) || (a || b))) ≡ ((p || a) || ((s && r) || b))
shuffle true r s a b = refl
shuffle false true true true b = refl
shuffle false true true false b = refl
shuffle false true false a b = refl
shuffle false false true a b = refl
shuffle false false false a b = refl

pub ends_either : (u v : ℕ) (edges : List Edge) → has (ends_from u (both_ways edges)) v ≡ (has (ends_from u edges) v || has (ends_from v edges) u)
ends_either u v [] = refl
ends_either u v (e ∷ edges) =
    let back : Edge = record { from = e.to; to = e.from } in
    let rest = both_ways edges in
    ends_step u v e (back ∷ rest)
    ∙ ap (λ h. (eqb e.from u && eqb e.to v) || h) (ends_step u v back rest ∙ ap (λ h. (eqb e.to u && eqb e.from v) || h) (ends_either u v edges))
    ∙ shuffle (eqb e.from u && eqb e.to v) (eqb e.to u) (eqb e.from v) (has (ends_from u edges) v) (has (ends_from v edges) u)
    ∙ sym (ap (λ h. h || has (ends_from v (e ∷ edges)) u) (ends_step u v e edges) ∙ ap (λ h. ((eqb e.from u && eqb e.to v) || has (ends_from u edges) v) || h) (ends_step v u e edges))

ends_turned : (u v : ℕ) (edges : List Edge) → has (ends_from u (both_ways edges)) v ≡ has (ends_from v (both_ways edges)) u
ends_turned u v [] = refl
ends_turned u v (e ∷ edges) =
    let back : Edge = record { from = e.to; to = e.from } in
    let rest = both_ways edges in
    ends_step u v e (back ∷ rest)
    ∙ ap (λ h. (eqb e.from u && eqb e.to v) || h) (ends_step u v back rest)
    ∙ ap (λ h. (eqb e.from u && eqb e.to v) || ((eqb e.to u && eqb e.from v) || h)) (ends_turned u v edges)
    ∙ turn (eqb e.from u) (eqb e.to v) (eqb e.to u) (eqb e.from v) (has (ends_from v rest) u)
    ∙ sym (ends_step v u e (back ∷ rest) ∙ ap (λ h. (eqb e.from v && eqb e.to u) || h) (ends_step v u back rest))

abbrev pub NoLoop : Edge → Type 0
NoLoop e = e.from ≢ e.to

no_loop_at : (a b v : ℕ) → a ≢ b → (eqb a v && eqb b v) ≡ false
no_loop_at a b v apart =
    elim (cases_eq a v) [
      | inl e ↦ rw (eq-eqb a v e, ne_eqb b v (λ s. apart (e ∙ sym s))) refl
      | inr n ↦ rw (ne_eqb a v n) refl
    ]

ends_loopless : (v : ℕ) (edges : List Edge) → AllByRecursion NoLoop edges → has (ends_from v (both_ways edges)) v ≡ false
ends_loopless v [] h = refl
ends_loopless v (e ∷ edges) h =
    let back : Edge = record { from = e.to; to = e.from } in
    ends_step v v e (back ∷ both_ways edges)
    ∙ ap (λ t. (eqb e.from v && eqb e.to v) || t) (ends_step v v back (both_ways edges))
    ∙ rw (no_loop_at e.from e.to v h.0, no_loop_at e.to e.from v (λ s. h.0 (sym s)), ends_loopless v edges h.1) refl

-- edges that lines name are no loops
named_no_loop : (n : ℕ) (edge : Edge) (found : Edge) → unless_loop (Plain n) edge ≡ Ok found → NoLoop found
named_no_loop n edge found h same =
    (elim (eqb edge.from edge.to) as (λ v. eqb edge.from edge.to ≡ v → (if v then Err SYMMETRY else Ok edge) ≡ Ok found → ⊥) [
      | true ↦ λ e k. absurd (cc)
      | false ↦ λ e k.
          let is : edge ≡ found = cc in
          let equal : edge.from ≡ edge.to = ap (λ (x : Edge). x.from) is ∙ same ∙ sym (ap (λ (x : Edge). x.to) is) in
          absurd (cc (eq-eqb edge.from edge.to equal))
    ]) refl h

in_range_no_loop : (n : ℕ) (inside : Bool) (edge found : Edge) → (if inside then unless_loop (Plain n) edge else Err RANGE) ≡ Ok found → NoLoop found
in_range_no_loop n true edge found h = named_no_loop n edge found h
in_range_no_loop n false edge found h = absurd (cc)

pub pair_no_loop : (n : ℕ) (pair : Option NumberPair) (found : Edge) → edge_named (Plain n) pair ≡ Ok found → NoLoop found
pair_no_loop n None found h = absurd (cc)
pair_no_loop n (Some pair) found h =
    in_range_no_loop n (is_within n pair.first && is_within n pair.second) (record { from = value_of pair.first; to = value_of pair.second }) found h

module _ (n : ℕ) (edges : List Edge) where
  pub graph_symmetric : (u v : ℕ) → 1 ≤ u → 1 ≤ v → has_edge (lists_from 1 n n (both_ways edges)) u v ≡ has_edge (lists_from 1 n n (both_ways edges)) v u
  graph_symmetric u v pu pv =
      elim (cases_lt n u) [
        | inl out ↦ edge_outside n u v (both_ways edges) pu (inl out) ∙ sym (edge_outside n v u (both_ways edges) pv (inr out))
        | inr lu ↦ elim (cases_lt n v) [
          | inl out ↦ edge_outside n u v (both_ways edges) pu (inr out) ∙ sym (edge_outside n v u (both_ways edges) pv (inl out))
          | inr lv ↦ edge_inside n n u v (both_ways edges) pu lu pv lv ∙ ends_turned u v edges ∙ sym (edge_inside n n v u (both_ways edges) pv lv pu lu)
        ]
      ]

  pub graph_loopless : AllByRecursion NoLoop edges → (v : ℕ) → 1 ≤ v → has_edge (lists_from 1 n n (both_ways edges)) v v ≡ false
  graph_loopless all v pv =
      elim (cases_lt n v) [
        | inl out ↦ edge_outside n v v (both_ways edges) pv (inl out)
        | inr lv ↦ edge_inside n n v v (both_ways edges) pv lv pv lv ∙ ends_loopless v edges all
      ]

pub edges_no_loop : (n : ℕ) (lines : List NumberedLine) → AllByRecursion NoLoop (edges_of (Plain n) lines)
edges_no_loop n [] = tt
edges_no_loop n (line ∷ lines) = by (edge_named (Plain n) (two_numbers (words_of line.text))) refl (edges_no_loop n lines)
  where
    by : (found : Result Edge ℕ) → edge_named (Plain n) (two_numbers (words_of line.text)) ≡ found → AllByRecursion NoLoop (edges_of (Plain n) lines) → AllByRecursion NoLoop (edge_before found (edges_of (Plain n) lines))
    by (Err code) e later = later
    by (Ok edge) e later = (pair_no_loop n (two_numbers (words_of line.text)) edge e, later)
