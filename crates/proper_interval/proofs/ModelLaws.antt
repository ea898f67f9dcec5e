-- The vertices of a proper model, from left to right, are an umbrella order, and each umbrella order gives one.
use Rattle.std.proofs.Common.{◌≡◌, ◌≢◌, ℕ, ◌<◌, ◌≤◌, List, length, get_or, IsTrue, ap, inl, inr, arith}
use Rattle.std.proofs.lemmas.Bool.{cases_lt}
use Rattle.row_model.specs.declared.lists.Interval.{Interval}
use Rattle.column_order.specs.Orders.{place}
use Rattle.column_order.proofs.Lists.{has_at, place_at}
use Rattle.column_order.proofs.Counts.{order_once, order_within}
use Rattle.graph_model.specs.Graphs.{GraphValue, has_edge}
use Rattle.proper_interval.specs.Umbrellas.{IsUmbrellaOrder}
use Rattle.proper_interval.specs.Models.{IsVertex, IsProperModel, interval_of}
use Rattle.proper_interval.specs.Laws.{ModelLaw, OneListLaw, ProperLaw}
use Rattle.proper_interval.proofs.IntervalLemmas.{shares}
use Rattle.proper_interval.proofs.FormulaLaws.{intervals_fit, same_intervals}
use Rattle.proper_interval.proofs.ListMade.{intervals_to, intervals_made}
use Rattle.proper_interval.proofs.SortedOrders.{sorted_to, sorted_order, sorted_between}
use Rattle.proper_interval.proofs.UmbrellaLaws.{umbrella_exactly}

module _ (g : GraphValue) (list : List Interval) (m : IsProperModel g list) where
  abbrev left_of : ℕ → ℕ
  left_of v = (interval_of list v).left

  abbrev by_left : List ℕ
  by_left = sorted_to left_of g.vertices

  -- where one interval begins no later than another, it ends no later
  ends_rise : (u v : ℕ) → IsVertex g u → IsVertex g v → left_of u ≤ left_of v → (interval_of list u).right ≤ (interval_of list v).right
  ends_rise u v ru rv l = elim (cases_lt (interval_of list v).right (interval_of list u).right) [
    | inl lt ↦
        let equal = m.proper u v ru rv (λ n t. (omega (arith, t.0), omega (arith, t.1))) in
        let ends : (interval_of list u).right ≡ (interval_of list v).right = ap (λ (a : Interval). a.right) equal in
        absurd (omega arith)
    | inr le ↦ le
  ]

  -- of three vertices from left to right, an edge between the outer ones implies both others
  covered : (u v w : ℕ) → IsVertex g u → IsVertex g v → IsVertex g w → u ≢ v → v ≢ w → u ≢ w → left_of u ≤ left_of v → left_of v ≤ left_of w →
      IsTrue (has_edge g.neighbours u w) → IsTrue (has_edge g.neighbours u v) × IsTrue (has_edge g.neighbours v w)
  covered u v w ru rv rw' uv vw uw first second e =
      let s = (m.meet u w ru rw' uw).1 e in
      let over : left_of w ≤ (interval_of list u).right = omega (arith, s.1.1.0, s.1.0.1) in
      let ou = m.ends u ru in
      let ov = m.ends v rv in
      let ow = m.ends w rw' in
      let ends = ends_rise u v ru rv first in (
        (m.meet u v ru rv uv).0 (shares (interval_of list u) (interval_of list v) ou ov (omega arith) (omega arith)),
        (m.meet v w rv rw' vw).0 (shares (interval_of list v) (interval_of list w) ov ow (omega arith) (omega arith)),
      )

  at_vertex : (i : ℕ) → i < length by_left → IsVertex g (get_or by_left i 0)
  at_vertex i l = order_within g.vertices by_left (sorted_order left_of g.vertices) (get_or by_left i 0) (has_at by_left i l)

  apart : (i j : ℕ) → i < j → j < length by_left → get_or by_left i 0 ≢ get_or by_left j 0
  apart i j ij l e =
      let once = order_once g.vertices by_left (sorted_order left_of g.vertices) in
      let pi = place_at by_left once i (omega arith) in
      let pj = place_at by_left once j l in
      omega (arith, ap (place by_left) e, pi, pj)

  pub umbrella : IsUmbrellaOrder g by_left
  umbrella = record {
    order = sorted_order left_of g.vertices;
    under = λ i j k ij jk l e.
        let li : i < length by_left = omega arith in
        let lj : j < length by_left = omega arith in
        let ik : i < k = omega arith in
        covered (get_or by_left i 0) (get_or by_left j 0) (get_or by_left k 0) (at_vertex i li) (at_vertex j lj) (at_vertex k l) (apart i j ij lj) (apart j k jk l) (apart i k ik l)
        (sorted_between left_of g.vertices i j ij lj) (sorted_between left_of g.vertices j k jk l) e;
  }

pub from_model : ModelLaw
from_model g list h m = (sorted_to (λ v. (interval_of list v).left) g.vertices, umbrella g list m)

pub one_list : OneListLaw
one_list g o h u =
    let made = intervals_made g o u.order in
    (intervals_to g o, (made, λ other f. same_intervals g o other (intervals_to g o) h u f made))

pub proper_exactly : ProperLaw
proper_exactly g h = (
  λ m. (let o = from_model g m.0 h m.1 in (o.0, (umbrella_exactly g o.0 h).0 o.1)),
  λ v.
      let u = (umbrella_exactly g v.0 h).1 v.1 in
      let list = one_list g v.0 h u in
      (list.0, intervals_fit g v.0 list.0 h u list.1.0),
)
