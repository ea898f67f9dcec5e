-- The pairs that an open gap joins.
use Rattle.std.proofs.Common.{◌≢◌, ℕ, ◌+◌, ◌<◌, List, length, slice_index, IsTrue, refl, sym, ap, subst, inr, arith}
use Rattle.std.proofs.lemmas.Bool.{both_ways}
use Rattle.column_order.specs.Orders.{has, place, IsOrder}
use Rattle.column_order.proofs.Counts.{order_once, order_within}
use Rattle.column_order.proofs.Lists.{has_at, place_at}
use Rattle.row_model.specs.declared.graph.Why.TheVariants.{Row}
use Rattle.row_model.specs.Graph.{pair, row_at, IsPair, JoinedBy}
use Rattle.row_model.proofs.Walks.{is_pair_turned}
use Rattle.open_gaps.specs.Gaps.{Opens}

module _ (c : ℕ) (rows : List (List ℕ)) (o : List ℕ) (order : IsOrder c o) (k q b : ℕ) (l : q + 1 < length o) (ob : IsTrue (has o b)) (opens : Opens rows o k q b) where
  pair_with : (a : ℕ) → IsTrue (has o a) → IsTrue (has (row_at rows k) a) → IsPair c (pair b a)
  pair_with a oa ha =
      let r = order_within c o order b ob in
      let s = order_within c o order a oa in
      record { a_from = r.0; a_to = r.1; b_from = s.0; b_to = s.1; distinct = λ e. both_ways (has (row_at rows k) b) opens.lacks (subst (λ x. IsTrue (has (row_at rows k) x)) (sym e) ha) }

  apart : slice_index o q ≢ slice_index o (q + 1)
  apart e =
      absurd (omega (arith, place_at o (order_once c o order) q (omega arith), place_at o (order_once c o order) (q + 1) l, ap (place o) e))

  -- the pair of the column before the gap is joined to that of the column behind it
  pub joined_before : JoinedBy c rows (pair b (slice_index o q)) (pair (slice_index o (q + 1)) b) (Row k)
  joined_before =
      record {
        from = pair_with (slice_index o q) (has_at o q (omega arith)) opens.low;
        to = is_pair_turned c (pair b (slice_index o (q + 1))) (pair_with (slice_index o (q + 1)) (has_at o (q + 1) l) opens.high);
        fits = (opens.from, opens.to, inr (record { middle = refl; ends = λ e. apart (sym e); has_first = opens.high; has_last = opens.low; lacks_middle = opens.lacks }));
      }

  -- and the other way round
  pub joined_behind : JoinedBy c rows (pair b (slice_index o (q + 1))) (pair (slice_index o q) b) (Row k)
  joined_behind =
      record {
        from = pair_with (slice_index o (q + 1)) (has_at o (q + 1) l) opens.high;
        to = is_pair_turned c (pair b (slice_index o q)) (pair_with (slice_index o q) (has_at o q (omega arith)) opens.low);
        fits = (opens.from, opens.to, inr (record { middle = refl; ends = apart; has_first = opens.low; has_last = opens.high; lacks_middle = opens.lacks }));
      }
