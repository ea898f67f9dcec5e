-- The intervals of an order, one by one.
use Rattle.std.proofs.Common.{◌≡◌, ◌∙◌, ℕ, zero, suc, ◌+◌, ◌-◌, ◌<◌, ◌≤◌, true, false, if◌then◌else◌, List, map, length, IsTrue, refl, ap, subst, inl, inr, arith}
use Rattle.std.proofs.lemmas.Bool.{cases_eq, both_ways}
use Rattle.std.proofs.lemmas.List.FromFn.{length-map-range_with_len, get_or-map-range_with_len}
use Rattle.std.specs.List.{range_with_len}
use Rattle.column_order.specs.Orders.{place, IsOrder}
use Rattle.column_order.proofs.Lists.{has_at, place_at}
use Rattle.column_order.proofs.Counts.{order_length, order_once, order_within}
use Rattle.row_model.specs.declared.lists.Interval.{Interval}
use Rattle.graph_model.specs.Graphs.{GraphValue, has_edge}
use Rattle.proper_interval.specs.Formula.{vertex_at, SameOrAdjacent, IsReach, AreIntervals, interval_at}

module _ (g : GraphValue) (o : List ℕ) where
  -- the last of the d positions behind i with a vertex adjacent to that at i, or i
  abbrev reach : ℕ → ℕ → ℕ
  reach i zero = i
  reach i (suc d) = if has_edge g.neighbours (vertex_at o i) (vertex_at o (i + suc d)) then i + suc d else reach i d

  record ReachesBy (i d r : ℕ) : Type 0 where
    from : i ≤ r
    to : r ≤ i + d
    reached : SameOrAdjacent g o i r
    whole : (j : ℕ) → j ≤ i + d → SameOrAdjacent g o i j → j ≤ r

  reaches : (i d : ℕ) → ReachesBy i d (reach i d)
  reaches i zero = record { from = omega arith; to = omega arith; reached = inl refl; whole = λ j l n. omega arith }
  reaches i (suc d) =
      (elim (has_edge g.neighbours (vertex_at o i) (vertex_at o (i + suc d))) as (λ b. has_edge g.neighbours (vertex_at o i) (vertex_at o (i + suc d)) ≡ b → ReachesBy i (suc d) (if b then i + suc d else reach i d)) [
        | true ↦ λ e. record { from = omega arith; to = omega arith; reached = inr e; whole = λ j l n. l }
        | false ↦ λ e. record {
          from = (reaches i d).from;
          to = omega (arith, (reaches i d).to);
          reached = (reaches i d).reached;
          whole = λ j l n. elim (cases_eq j (i + suc d)) [
            | inl s ↦ elim n [
              | inl t ↦ absurd (omega arith)
              | inr t ↦ absurd (both_ways (has_edge g.neighbours (vertex_at o i) (vertex_at o (i + suc d))) e (subst (λ x. IsTrue (has_edge g.neighbours (vertex_at o i) (vertex_at o x))) s t))
            ]
            | inr s ↦ (reaches i d).whole j (omega arith) n
          ];
        }
      ]) refl

  reach_is : (i : ℕ) → i ≤ g.vertices → IsReach g o i (reach i (g.vertices - i))
  reach_is i l =
      let r = reaches i (g.vertices - i) in
      record {
        from = r.from;
        to = omega (arith, r.to);
        reached = r.reached;
        whole = λ j u m n. r.whole j (omega arith) n;
      }

  -- the interval at a position, and the vertices' one by one
  abbrev at_position : ℕ → Interval
  at_position i = interval_at g.vertices i (reach i (g.vertices - i))

  abbrev pub intervals_to : List Interval
  intervals_to = map (λ v. at_position (place o v + 1)) (range_with_len 1 g.vertices)

  pub intervals_made : IsOrder g.vertices o → AreIntervals g o intervals_to
  intervals_made order = record {
    count = length-map-range_with_len (λ v. at_position (place o v + 1)) 1 g.vertices;
    each = λ i l m.
        let long = order_length g.vertices o order in
        let inside : i - 1 < length o = omega (arith, long) in
        let v = vertex_at o i in
        let r = order_within g.vertices o order v (has_at o (i - 1) inside) in
        let none : Interval = record { left = 0; right = 0 } in
        let is = get_or-map-range_with_len (λ v. at_position (place o v + 1)) 1 g.vertices (v - 1) v none (omega (arith, r.0, r.1)) (omega (arith, r.0)) in
        let back : place o v + 1 ≡ i = omega (arith, place_at o (order_once g.vertices o order) (i - 1) inside) in
        (reach i (g.vertices - i), (reach_is i m, is ∙ ap at_position back));
  }
