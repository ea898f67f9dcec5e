-- Pairs of the columns at two positions of an order, and the steps between them across open gaps.
use Rattle.std.proofs.Common.{◌≢◌, ℕ, ◌+◌, ◌-◌, ◌<◌, ◌≤◌, List, length, slice_index, IsTrue, refl, sym, ap, subst, inl, inr, arith}
use Rattle.std.proofs.lemmas.Bool.{both_ways, cases_eq, false_from_ne_true}
use Rattle.std.specs.Prelude.{[]}
use Rattle.column_order.specs.Orders.{has, place, Keeps, IsValidOrder}
use Rattle.column_order.proofs.Counts.{order_once, order_within}
use Rattle.column_order.proofs.Lists.{has_at, place_at}
use Rattle.row_model.specs.declared.graph.Pair.{Pair}
use Rattle.row_model.specs.declared.graph.Why.TheVariants.{Flip, Row}
use Rattle.row_model.specs.Graph.{pair, row_at, IsPair, Joined, Evenly}
use Rattle.row_model.proofs.Walks.{is_pair_turned, evenly-two}
use Rattle.open_gaps.specs.Gaps.{IsOpen}

-- the pair of the columns at two positions
abbrev pub cell : List ℕ → ℕ → ℕ → Pair
cell o x p = pair (slice_index o x) (slice_index o p)

module _ (c : ℕ) (rows : List (List ℕ)) (o : List ℕ) (valid : IsValidOrder c rows o) where
  -- two positions have two columns
  pub cell_pair : (x p : ℕ) → x < length o → p < length o → slice_index o x ≢ slice_index o p → IsPair c (cell o x p)
  cell_pair x p lx lp n =
      let a = order_within c o valid.order (slice_index o x) (has_at o x lx) in
      let b = order_within c o valid.order (slice_index o p) (has_at o p lp) in
      record { a_from = a.0; a_to = a.1; b_from = b.0; b_to = b.1; distinct = n }

  -- an open gap leads from the one column next to it to the other by a walk of even length
  pub open_evenly : (q p : ℕ) → q + 1 < length o → p < length o → IsOpen rows o q p → Evenly c rows (cell o q p) (cell o (q + 1) p)
  open_evenly q p lq lp h =
      let k = h.0 in
      let opens = h.1 in
      let other : (x : ℕ) → IsTrue (has (row_at rows k) (slice_index o x)) → slice_index o x ≢ slice_index o p =
      λ x i e. both_ways (has (row_at rows k) (slice_index o p)) opens.lacks (subst (λ y. IsTrue (has (row_at rows k) y)) e i) in
      let ends : slice_index o q ≢ slice_index o (q + 1) =
      λ e. absurd (omega (arith, place_at o (order_once c o valid.order) q (omega arith), place_at o (order_once c o valid.order) (q + 1) lq, ap (place o) e)) in
      let v : IsPair c (cell o q p) = cell_pair q p (omega arith) lp (other q opens.low) in
      let w : IsPair c (cell o (q + 1) p) = cell_pair (q + 1) p lq lp (other (q + 1) opens.high) in
      evenly-two (Joined c rows) (cell o q p) (cell o p (q + 1)) (cell o (q + 1) p)
      (Row k, record { from = v; to = is_pair_turned c (cell o (q + 1) p) w; fits = (opens.from, opens.to, inl (record { middle = refl; ends = ends; has_first = opens.low; has_last = opens.high; lacks_middle = opens.lacks })) })
      (Flip, record { from = is_pair_turned c (cell o (q + 1) p) w; to = w; fits = (refl, refl) })

  pub row_keeps : (k : ℕ) → 1 ≤ k → k ≤ length rows → Keeps o (row_at rows k)
  row_keeps k from to = valid.kept (k - 1) [] (omega (arith, from, to))

  -- a row that opens a gap for one column opens it for another, if it has the one where it has the other
  open_too : (q p r : ℕ) (h : IsOpen rows o q p) → (IsTrue (has (row_at rows h.0) (slice_index o r)) → IsTrue (has (row_at rows h.0) (slice_index o p))) → IsOpen rows o q r
  open_too q p r h both =
      let opens = h.1 in (
        h.0,
        record {
          from = opens.from;
          to = opens.to;
          low = opens.low;
          high = opens.high;
          lacks = false_from_ne_true (has (row_at rows h.0) (slice_index o r)) (λ t. both_ways (has (row_at rows h.0) (slice_index o p)) opens.lacks (both t));
        },
      )

  -- a gap that is open for a column behind it is open for each column farther behind
  pub open_behind : (q p r : ℕ) → q + 1 < p → p ≤ r → r < length o → IsOpen rows o q p → IsOpen rows o q r
  open_behind q p r l m u h =
      open_too q p r h (λ t.
      elim (cases_eq p r) [
        | inl e ↦ subst (λ i. IsTrue (has (row_at rows h.0) (slice_index o i))) (sym e) t
        | inr n ↦ row_keeps h.0 h.1.from h.1.to (q + 1) p r l (omega arith) u h.1.high t
      ])

  -- and one that is open for a column before it is open for each column farther before
  pub open_before : (q p r : ℕ) → r ≤ p → p < q → q + 1 < length o → IsOpen rows o q p → IsOpen rows o q r
  open_before q p r m l u h =
      open_too q p r h (λ t.
      elim (cases_eq r p) [
        | inl e ↦ subst (λ i. IsTrue (has (row_at rows h.0) (slice_index o i))) e t
        | inr n ↦ row_keeps h.0 h.1.from h.1.to r p q (omega arith) l (omega arith) t h.1.low
      ])
