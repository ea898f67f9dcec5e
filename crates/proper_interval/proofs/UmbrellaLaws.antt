-- Umbrella orders are the valid orders of the closed rows.
use Rattle.std.proofs.Common.{◌≡◌, ◌∙◌, ℕ, ◌+◌, ◌-◌, ◌<◌, ◌≤◌, List, length, get_or, IsTrue, All, sym, ap, subst, inl, inr, arith}
use Rattle.std.proofs.lemmas.Bool.{cases_eq, cases_lt}
use Rattle.std.proofs.lemmas.List.Elements.{All-contains}
use Rattle.std.proofs.lemmas.List.FromFn.{get_or-map-range_with_len, length-map-range_with_len}
use Rattle.std.specs.List.{Contains}
use Rattle.column_order.specs.Orders.{place, IsOrder, Keeps}
use Rattle.column_order.proofs.Lists.{has_at, at_place, place_at}
use Rattle.column_order.proofs.Counts.{order_once, order_within, order_has}
use Rattle.graph_model.specs.Graphs.{GraphValue, IsGraph, has_edge}
use Rattle.proper_interval.specs.Umbrellas.{closed_row, closed_to, IsUmbrellaOrder}
use Rattle.proper_interval.specs.Laws.{UmbrellaLaw}
use Rattle.proper_interval.proofs.ClosedLemmas.{closed_cases, closed_edge, closed_self}

-- among the closed rows is that of each vertex
closed_has : (g : GraphValue) (v : ℕ) → 1 ≤ v → v ≤ g.vertices → Contains (closed_to g g.vertices) (closed_row g v)
closed_has g v l u =
    let within : v - 1 < g.vertices = omega arith in (
      v - 1,
      omega (arith, within, length-map-range_with_len (closed_row g) 1 g.vertices),
      get_or-map-range_with_len (closed_row g) 1 g.vertices (v - 1) v (closed_row g v) within (omega arith),
    )

module _ (g : GraphValue) (o : List ℕ) (h : IsGraph g) (order : IsOrder g.vertices o) where
  vertex : (i : ℕ) → i < length o → (1 ≤ get_or o i 0) × (get_or o i 0 ≤ g.vertices)
  vertex i l = order_within g.vertices o order (get_or o i 0) (has_at o i l)

  place_is : (i : ℕ) → i < length o → place o (get_or o i 0) ≡ i
  place_is i l = place_at o (order_once g.vertices o order) i l

  turned : (a b : ℕ) → 1 ≤ a → 1 ≤ b → IsTrue (has_edge g.neighbours a b) → IsTrue (has_edge g.neighbours b a)
  turned a b la lb e = h.symmetric b a lb la ∙ e

  -- in an umbrella order no closed row has a gap
  closed_kept : IsUmbrellaOrder g o → (v : ℕ) → 1 ≤ v → v ≤ g.vertices → Keeps o (closed_row g v)
  closed_kept r v lv uv i j k ij jk u hi hk =
      let at = at_place o v (order_has g.vertices o order v lv uv) in
      let p = place o v in
      let a = get_or o i 0 in
      let m = get_or o j 0 in
      let b = get_or o k 0 in
      let li : i < length o = omega (arith, ij, jk, u) in
      let rm = vertex j (omega (arith, jk, u)) in
      elim (cases_lt p j) [
        | inl before ↦ elim (closed_cases g v b hk) [
          | inr e ↦
              let outer : IsTrue (has_edge g.neighbours (get_or o p 0) b) = rw at.1 e in
              closed_edge g v m rm.0 rm.1 (subst (λ x. IsTrue (has_edge g.neighbours x m)) at.1 (r.under p j k before jk u outer).0)
          | inl e ↦ absurd (omega (arith, before, jk, place_is k u, ap (place o) e))
        ]
        | inr l ↦ elim (cases_eq p j) [
          | inl e ↦ closed_self g v m rm.0 rm.1 (ap (λ q. get_or o q 0) (sym e) ∙ at.1)
          | inr n ↦ elim (closed_cases g v a hi) [
            | inr e ↦
                let outer : IsTrue (has_edge g.neighbours a (get_or o p 0)) = rw at.1 (turned v a lv (vertex i li).0 e) in
                let inner : IsTrue (has_edge g.neighbours m v) = subst (λ x. IsTrue (has_edge g.neighbours m x)) at.1 (r.under i j p ij (omega (arith, l, n)) at.0 outer).1 in
                closed_edge g v m rm.0 rm.1 (turned m v rm.0 lv inner)
            | inl e ↦ absurd (omega (arith, l, n, ij, place_is i li, ap (place o) e))
          ]
        ]
      ]

  all_kept : IsUmbrellaOrder g o → All (Keeps o) (closed_to g g.vertices)
  all_kept r k d l =
      let within : k < g.vertices = omega (arith, l, length-map-range_with_len (closed_row g) 1 g.vertices) in
      subst (Keeps o) (sym (get_or-map-range_with_len (closed_row g) 1 g.vertices k (k + 1) d within (omega arith)))
      (closed_kept r (k + 1) (omega arith) (omega (arith, within)))

  -- where the closed rows are kept, an edge covers all between its ends
  under_from : All (Keeps o) (closed_to g g.vertices) → (i j k : ℕ) → i < j → j < k → k < length o → IsTrue (has_edge g.neighbours (get_or o i 0) (get_or o k 0)) →
      IsTrue (has_edge g.neighbours (get_or o i 0) (get_or o j 0)) × IsTrue (has_edge g.neighbours (get_or o j 0) (get_or o k 0))
  under_from kept i j k ij jk u e =
      let a = get_or o i 0 in
      let m = get_or o j 0 in
      let b = get_or o k 0 in
      let li : i < length o = omega (arith, ij, jk, u) in
      let lj : j < length o = omega (arith, jk, u) in
      let ra = vertex i li in
      let rm = vertex j lj in
      let rb = vertex k u in
      let left : Keeps o (closed_row g a) = All-contains (Keeps o) (closed_to g g.vertices) (closed_row g a) kept (closed_has g a ra.0 ra.1) in
      let right : Keeps o (closed_row g b) = All-contains (Keeps o) (closed_to g g.vertices) (closed_row g b) kept (closed_has g b rb.0 rb.1) in
      let from_a = left i j k ij jk u (closed_self g a a ra.0 ra.1 cc) (closed_edge g a b rb.0 rb.1 e) in
      let from_b = right i j k ij jk u (closed_edge g b a ra.0 ra.1 (turned a b ra.0 rb.0 e)) (closed_self g b b rb.0 rb.1 cc) in (
        elim (closed_cases g a m from_a) [ inr t ↦ t | inl s ↦ absurd (omega (arith, ij, place_is i li, place_is j lj, ap (place o) s)) ],
        elim (closed_cases g b m from_b) [ inr t ↦ turned b m rb.0 rm.0 t | inl s ↦ absurd (omega (arith, jk, place_is k u, place_is j lj, ap (place o) s)) ],
      )

pub umbrella_exactly : UmbrellaLaw
umbrella_exactly g o h = (
  λ r. record { order = r.order; kept = all_kept g o h r.order r },
  λ v. record { order = v.order; under = under_from g o h v.order v.kept },
)
