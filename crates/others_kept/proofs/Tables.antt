-- From the spans of rows to the number of rows that have two columns.
use Rattle.std.proofs.Common.{◌≡◌, ◌≢◌, ◌↔◌, ◌∙◌, ℕ, zero, suc, min, max, ◌+◌, ◌*◌, ◌-◌, ◌<◌, ◌≤◌, Bool, true, false, cond, ◌&&◌, eqb, leb, List, [], ◌∷◌, ◌++◌, length, drop, get_or, slice_get, Some, IsFalse, refl, sym, ap, subst, inl, inr, arith, length-append, length-drop}
use Rattle.std.proofs.lemmas.Bool.{cases_eq, cases_lt, cond-false, lt-ltb, le-ltb, and_left, and_right}
use Rattle.std.proofs.lemmas.List.{get_or-drop}
use Rattle.std.proofs.lemmas.Option.{get_or_from_slice_get}
use Rattle.column_order.specs.Orders.{has, place, IsOrder, Keeps}
use Rattle.column_order.proofs.Lists.{at_place, place-inj}
use Rattle.column_order.proofs.Counts.{order_has, order_length}
use Rattle.row_model.specs.Graph.{row_at}
use Rattle.row_model.specs.Positions.{position_of, ArePositions}
use Rattle.row_model.specs.Rows.{IsRow, RowList}
use Rattle.row_model.specs.declared.lists.Span.{Span}
use Rattle.others_kept.specs.Others.{numbered, KeepsOthers, IsValidForOthers}
use Rattle.others_kept.specs.Counts.{sum_below, both, joins, joins_of_all, rows_with, within_span, LiesIn, IsSpanOf, begins, reaches, cell, AreCounts}
use Rattle.others_kept.specs.declared.table.Table.{Table}
use Rattle.others_kept.proofs.Sums.{sum_below-same, sum_below-swap, sum_below-bound, others_equal, equal_others}
use Rattle.others_kept.proofs.Squares.{reaches_sum}
use Rattle.others_kept.proofs.Neighbours.{joins_few, joins_kept}

-- the spans of the first rows
pub record HasSpans (m : RowList) (numbers o : List ℕ) (n : ℕ) (spans : List Span) : Type 0 where
  pub len : length spans ≡ n
  pub each : (j : ℕ) (d : Span) → j < n → IsSpanOf m.columns o (numbered m.rows numbers j) (get_or spans j d)

pushed_other : (spans : List Span) (span d : Span) (j : ℕ) → j < length spans → get_or (spans ++ span ∷ []) j d ≡ get_or spans j d
pushed_other [] span d j l = absurd (omega (arith, l))
pushed_other (x ∷ spans) span d zero l = refl
pushed_other (x ∷ spans) span d (suc j) l = pushed_other spans span d j (omega arith)

pushed_last : (spans : List Span) (span d : Span) → get_or (spans ++ span ∷ []) (length spans) d ≡ span
pushed_last [] span d = refl
pushed_last (x ∷ spans) span d = pushed_last spans span d

pub spans_more : (m : RowList) (numbers o : List ℕ) (n : ℕ) (spans now : List Span) (span : Span) → now ≡ spans ++ span ∷ [] → IsSpanOf m.columns o (numbered m.rows numbers n) span
    → HasSpans m numbers o n spans → HasSpans m numbers o (n + 1) now
spans_more m numbers o n spans now span e is h = rw e (record {
  len = omega (arith, length-append spans (span ∷ []), h.len);
  each = λ j d l. elim (cases_eq j n) [
    | inl s ↦
        let there : get_or (spans ++ span ∷ []) j d ≡ span = ap (λ k. get_or (spans ++ span ∷ []) k d) (s ∙ sym h.len) ∙ pushed_last spans span d in
        subst (IsSpanOf m.columns o (numbered m.rows numbers j)) (sym there) (subst (λ k. IsSpanOf m.columns o (numbered m.rows numbers k) span) (sym s) is)
    | inr t ↦ subst (IsSpanOf m.columns o (numbered m.rows numbers j)) (sym (pushed_other spans span d j (omega (arith, l, t, h.len)))) (h.each j d (omega (arith, l, t)))
  ];
})

-- a span has two places of an order exactly where the row has both columns
reaches-both : (c : ℕ) (o row : List ℕ) (span : Span) (a b : ℕ) → IsSpanOf c o row span → a < b → b < length o → reaches a b span ≡ both row (get_or o a 0) (get_or o b 0)
reaches-both c o row span a b is l u =
    elim (cases_lt b span.last) [
      | inl v ↦ sym (
          rw (is.fills a (omega (arith, l, u)), is.fills b u)
          (ap (λ t. cond {A = ℕ} ((t && leb span.first (a + 1)) && within_span span b) 1 0) (lt-ltb a span.last (omega (arith, l, v)))))
      | inr v ↦
          let none : IsFalse (within_span span b) = and_left _ _ (le-ltb b span.last v) in
          cond-false {A = ℕ} (leb span.first (a + 1) && within_span span b) 1 0 (and_right (leb span.first (a + 1)) _ none)
          ∙ sym (cond-false {A = ℕ} (has row (get_or o a 0) && has row (get_or o b 0)) 1 0 (and_right (has row (get_or o a 0)) _ (is.fills b u ∙ none)))
    ]

cond_few : (b : Bool) → cond {A = ℕ} b 1 0 ≤ 1
cond_few true = omega arith
cond_few false = omega arith

abbrev pub none : Span
none = record { first = 1; last = 0 }

pub begins_few : (n a b : ℕ) (spans : List Span) → sum_below n (λ j. begins a b (get_or spans j none)) ≤ n
begins_few n a b spans = omega (arith, sum_below-bound n 1 (λ j. begins a b (get_or spans j none)) (λ j l. cond_few (eqb (get_or spans j none).first (a + 1) && within_span (get_or spans j none) b)))

-- beginnings added up
module _ (c n : ℕ) (spans : List Span) (old : List ℕ) (lies : (j : ℕ) → j < n → LiesIn c (get_or spans j none))
    (cells : (a b : ℕ) → a < c → b < c → get_or old (a * c + b) 0 ≡ sum_below n (λ j. begins a b (get_or spans j none))) where
  pub added_up : (a b : ℕ) → a < c → b < c → sum_below (suc a) (λ s. get_or old (s * c + b) 0) ≡ sum_below n (λ j. reaches a b (get_or spans j none))
  added_up a b u v =
      sum_below-same (suc a) (λ s. get_or old (s * c + b) 0) (λ s. sum_below n (λ j. begins s b (get_or spans j none))) (λ s l. cells s b (omega arith) v)
      ∙ sum_below-swap (suc a) n (λ s j. begins s b (get_or spans j none))
      ∙ sum_below-same n (λ j. sum_below (suc a) (λ s. begins s b (get_or spans j none))) (λ j. reaches a b (get_or spans j none)) (λ j l. reaches_sum a b (get_or spans j none) (lies j l).from_1)

  pub added_few : (a b : ℕ) → a < c → b < c → sum_below (suc a) (λ s. get_or old (s * c + b) 0) ≤ n
  added_few a b u v =
      omega (
        arith,
        added_up a b u v,
        sum_below-bound n 1 (λ j. reaches a b (get_or spans j none)) (λ j l. cond_few (leb (get_or spans j none).first (a + 1) && within_span (get_or spans j none) b)),
      )

both_turned : (row : List ℕ) (x y : ℕ) → both row x y ≡ both row y x
both_turned row x y = elim (has row x) as (λ p. cond {A = ℕ} (p && has row y) 1 0 ≡ cond {A = ℕ} (has row y && p) 1 0) [
  | true ↦ elim (has row y) as (λ q. cond {A = ℕ} q 1 0 ≡ cond {A = ℕ} (q && true) 1 0) [ true ↦ refl | false ↦ refl ]
  | false ↦ elim (has row y) as (λ q. 0 ≡ cond {A = ℕ} (q && false) 1 0) [ true ↦ refl | false ↦ refl ]
]

-- the counts by the columns
module _ (m : RowList) (numbers o positions : List ℕ) (order : IsOrder m.columns o) (are : ArePositions o positions) (spans : List Span) (has_spans : HasSpans m numbers o (length numbers) spans)
    (counts : List ℕ) (cells : (a b : ℕ) → a < m.columns → b < m.columns → get_or counts (a * m.columns + b) 0 ≡ sum_below (length numbers) (λ j. reaches a b (get_or spans j none))) where
  at : (x : ℕ) → 1 ≤ x → x ≤ m.columns → (place o x < m.columns) × (get_or o (place o x) 0 ≡ x) × (position_of positions x ≡ place o x + 1)
  at x l u =
      let there = order_has m.columns o order x l u in
      let p = at_place o x there in
      (omega (arith, p.0, order_length m.columns o order), p.1, are.places x there)

  pub near_is : (x : ℕ) → 1 ≤ x → x ≤ m.columns → (1 ≤ position_of positions x) × (position_of positions x ≤ m.columns)
  near_is x l u = let p = at x l u in (omega (arith, p.2), omega (arith, p.0, p.2))

  lower : (x y : ℕ) → 1 ≤ x → x ≤ m.columns → 1 ≤ y → y ≤ m.columns → place o x < place o y → get_or counts (place o x * m.columns + place o y) 0 ≡ rows_with m.rows numbers x y
  lower x y xl xu yl yu l =
      let p = at x xl xu in
      let q = at y yl yu in
      cells (place o x) (place o y) p.0 q.0
      ∙ sum_below-same (length numbers) (λ j. reaches (place o x) (place o y) (get_or spans j none)) (λ j. both (numbered m.rows numbers j) x y)
      (λ j u. reaches-both m.columns o (numbered m.rows numbers j) (get_or spans j none) (place o x) (place o y) (has_spans.each j none u) l (omega (arith, q.0, order_length m.columns o order))
      ∙ ap (λ z. both (numbered m.rows numbers j) z (get_or o (place o y) 0)) p.1 ∙ ap (λ z. both (numbered m.rows numbers j) x z) q.1)

  pub counted_is : (x y : ℕ) → 1 ≤ x → x ≤ m.columns → 1 ≤ y → y ≤ m.columns → (x ≡ y → ⊥) → get_or counts (cell m.columns positions x y) 0 ≡ rows_with m.rows numbers x y
  counted_is x y xl xu yl yu n =
      let p = at x xl xu in
      let q = at y yl yu in
      let c : ℕ = m.columns in
      elim (cases_lt (place o x) (place o y)) [
        | inl l ↦
            let low : min (position_of positions x) (position_of positions y) - 1 ≡ place o x = omega (arith, p.2, q.2, l) in
            let high : max (position_of positions x) (position_of positions y) - 1 ≡ place o y = omega (arith, p.2, q.2, l) in
            ap (λ k. get_or counts (k * c + (max (position_of positions x) (position_of positions y) - 1)) 0) low ∙ ap (λ k. get_or counts (place o x * c + k) 0) high
            ∙ lower x y xl xu yl yu l
        | inr l ↦
            let d : place o x ≢ place o y = λ e. n (place-inj o x y e) in
            let low : min (position_of positions x) (position_of positions y) - 1 ≡ place o y = omega (arith, p.2, q.2, l) in
            let high : max (position_of positions x) (position_of positions y) - 1 ≡ place o x = omega (arith, p.2, q.2, l) in
            ap (λ k. get_or counts (k * c + (max (position_of positions x) (position_of positions y) - 1)) 0) low ∙ ap (λ k. get_or counts (place o y * c + k) 0) high
            ∙ lower y x yl yu xl xu (omega (arith, l, d))
            ∙ sum_below-same (length numbers) (λ j. both (numbered m.rows numbers j) y x) (λ j. both (numbered m.rows numbers j) x y) (λ j u. both_turned (numbered m.rows numbers j) y x)
      ]

-- one order judged by the table
module _ (m : RowList) (numbers : List ℕ) (t : Table) (h : AreCounts m (drop 1 numbers) t) (o : List ℕ) (order : IsOrder m.columns o) (i : ℕ) (from : 1 ≤ i) (to : i < length numbers)
    (first own : List ℕ) (is_first : numbered m.rows numbers 0 ≡ first) (is_own : numbered m.rows numbers i ≡ own) (row_first : IsRow m.columns first) where
  later : (j : ℕ) → numbered m.rows (drop 1 numbers) j ≡ numbered m.rows numbers (suc j)
  later j = ap (row_at m.rows) (get_or-drop 1 numbers j 0 ∙ ap (λ k. get_or numbers k 0) (omega arith))

  -- the rows behind the first
  abbrev r : ℕ → List ℕ
  r j = numbered m.rows (drop 1 numbers) j

  abbrev count : ℕ
  count = length (drop 1 numbers)

  count_is : count + 1 ≡ length numbers
  count_is = omega (arith, length-drop 1 numbers, to)

  own_is : r (i - 1) ≡ own
  own_is = later (i - 1) ∙ ap (λ k. numbered m.rows numbers k) (omega (arith, from)) ∙ is_own

  few : (j : ℕ) → j < count → joins o (r j) ≤ length (r j) - 1
  few j l = joins_few m.columns o order (r j) (h.rows j l)

  -- the pairs of neighbours in all rows behind the first
  abbrev total : ℕ
  total = sum_below (length o - 1) (λ k. rows_with m.rows (drop 1 numbers) (get_or o k 0) (get_or o (suc k) 0))

  total_is : total ≡ sum_below count (λ j. joins o (r j))
  total_is = sum_below-swap (length o - 1) (length (drop 1 numbers)) (λ k j. both (r j) (get_or o k 0) (get_or o (suc k) 0))

  wanted_is : t.wanted ≡ sum_below count (λ j. length (r j) - 1)
  wanted_is = h.wanted

  own_joins : joins o (r (i - 1)) ≡ joins o own
  own_joins = ap (joins o) own_is

  own_most : length (r (i - 1)) - 1 ≡ length own - 1
  own_most = ap (λ (xs : List ℕ). length xs - 1) own_is

  judged_valid : joins o first ≡ length first - 1 → total + (length own - 1) ≡ t.wanted + joins o own → IsValidForOthers m numbers i o
  judged_valid one rest =
      let sums : sum_below count (λ j. joins o (r j)) + (length (r (i - 1)) - 1) ≡ sum_below count (λ j. length (r j) - 1) + joins o (r (i - 1)) =
      omega (arith, rest, total_is, wanted_is, own_joins, own_most) in
      let equal = others_equal count (i - 1) (λ j. joins o (r j)) (λ j. length (r j) - 1) (omega (arith, count_is, from, to)) few sums in
      record { order = order; kept = each equal }
    where
      each : ((j : ℕ) → j < count → (j ≡ i - 1 → ⊥) → joins o (r j) ≡ length (r j) - 1) → KeepsOthers m.rows numbers i o (length numbers)
      each equal zero l n = subst (Keeps o) (sym is_first) ((joins_kept m.columns o order first row_first).0 one)
      each equal (suc j) l n =
          let within : j < length (drop 1 numbers) = omega (arith, length-drop 1 numbers, l) in
          subst (Keeps o) (later j) ((joins_kept m.columns o order (r j) (h.rows j within)).0 (equal j within (λ e. n (omega (arith, e, from)))))

  valid_judged : IsValidForOthers m numbers i o → (joins o first ≡ length first - 1) × (total + (length own - 1) ≡ t.wanted + joins o own)
  valid_judged v =
      let equal = equal_others count (i - 1) (λ j. joins o (r j)) (λ j. length (r j) - 1) (omega (arith, count_is, from, to)) each in (
        (joins_kept m.columns o order first row_first).1 (subst (Keeps o) is_first (v.kept 0 (omega (arith, to)) (λ e. omega (arith, e, from)))),
        omega (arith, equal, total_is, wanted_is, own_joins, own_most),
      )
    where
      each : (j : ℕ) → j < count → (j ≡ i - 1 → ⊥) → joins o (r j) ≡ length (r j) - 1
      each j l n =
          (joins_kept m.columns o order (r j) (h.rows j l)).1
          (subst (Keeps o) (sym (later j)) (v.kept (suc j) (omega (arith, length-drop 1 numbers, l)) (λ e. n (omega (arith, e)))))

-- an order is valid for the others exactly where both counts are right
pub counts_exactly : (m : RowList) (numbers : List ℕ) (t : Table) → AreCounts m (drop 1 numbers) t → (o : List ℕ) → IsOrder m.columns o → (i : ℕ) → 1 ≤ i → i < length numbers
    → (first own : List ℕ) → slice_get m.rows (get_or numbers 0 0 - 1) ≡ Some first → slice_get m.rows (get_or numbers i 0 - 1) ≡ Some own → IsRow m.columns first
    → ((joins o first ≡ length first - 1) × (joins_of_all m.rows (drop 1 numbers) o + (length own - 1) ≡ t.wanted + joins o own)) ↔ IsValidForOthers m numbers i o
counts_exactly m numbers t h o is i from to first own at_first at_own row_first =
    let is_first : numbered m.rows numbers 0 ≡ first = get_or_from_slice_get m.rows (get_or numbers 0 0 - 1) first [] at_first in
    let is_own : numbered m.rows numbers i ≡ own = get_or_from_slice_get m.rows (get_or numbers i 0 - 1) own [] at_own in (
      λ both. judged_valid m numbers t h o is i from to first own is_first is_own row_first both.0 both.1,
      λ v. valid_judged m numbers t h o is i from to first own is_first is_own row_first v,
    )
