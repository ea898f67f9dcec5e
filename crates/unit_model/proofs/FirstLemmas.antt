-- The first neighbour of a vertex, by the span of its neighbours' positions.
use Rattle.std.proofs.Common.{◌≡◌, ◌∙◌, ℕ, ◌+◌, ◌-◌, ◌<◌, ◌≤◌, List, [], length, get_or, slice_get, Option, Some, None, IsTrue, false, refl, sym, ap, subst, arith}
use Rattle.std.specs.Prelude.{IfNone}
use Rattle.std.proofs.lemmas.Bool.{both_ways}
use Rattle.std.proofs.lemmas.Option.{get_or_from_slice_get}
use Rattle.column_order.specs.Orders.{has, place}
use Rattle.column_order.proofs.Counts.{order_has, order_length}
use Rattle.row_model.specs.Rows.{IsRow}
use Rattle.row_model.specs.Positions.{position_of, ArePositions, IsSpan}
use Rattle.row_model.specs.declared.lists.Span.{Span}
use Rattle.row_model.proofs.Ascending.{row_within}
use Rattle.graph_model.specs.Graphs.{GraphValue, IsGraph}
use Rattle.proper_interval.specs.Models.{IsVertex}
use Rattle.proper_interval.specs.Umbrellas.{IsUmbrellaOrder}
use Rattle.unit_model.specs.Drawing.{IsNeighbour, HasNoneBefore, IsFirstBefore}
use Rattle.unit_model.proofs.WalkLemmas.{vertex, back, turned}

pub on_none : (o : Option ℕ) {P : Type 0} → P → IfNone o P
on_none None p = p
on_none (Some x) p = tt

module _ (g : GraphValue) (o : List ℕ) (h : IsGraph g) (r : IsUmbrellaOrder g o) (positions row : List ℕ) (i : ℕ) (l : i < length o) (p : ArePositions o positions)
    (its : slice_get g.neighbours (get_or o i 0 - 1) ≡ Some row) (ascends : IsRow g.vertices row) where
  row_is : get_or g.neighbours (get_or o i 0 - 1) [] ≡ row
  row_is = get_or_from_slice_get g.neighbours (get_or o i 0 - 1) row [] its

  joined_from_row : (w : ℕ) → IsTrue (has row w) → IsNeighbour g w (get_or o i 0)
  joined_from_row w t = turned g o h r (get_or o i 0) w (vertex g o h r i l) (row_within g.vertices row ascends w t) (ap (λ xs. has xs w) row_is ∙ t)

  row_from_joined : (w : ℕ) → IsVertex g w → IsNeighbour g w (get_or o i 0) → IsTrue (has row w)
  row_from_joined w vw e = ap (λ xs. has xs w) (sym row_is) ∙ turned g o h r w (get_or o i 0) vw (vertex g o h r i l) e

  position_is : (w : ℕ) → IsVertex g w → position_of positions w ≡ place o w + 1
  position_is w vw = p.places w (order_has g.vertices o r.order w vw.0 vw.1)

  pub all_within : (w : ℕ) → IsTrue (has row w) → (1 ≤ w) × (w ≤ length positions)
  all_within w t = let s = row_within g.vertices row ascends w t in (s.0, omega (arith, s.1, p.columns, order_length g.vertices o r.order))

  pub no_neighbour : row ≡ [] → HasNoneBefore g o i (get_or o i 0)
  no_neighbour none w vw e = absurd (both_ways false refl (ap (λ xs. has xs w) (sym none) ∙ row_from_joined w vw e))

  module _ (span : Span) (s : IsSpan positions row span) where
    from_vertex : IsVertex g s.from
    from_vertex = row_within g.vertices row ascends s.from s.has_from

    first_place : place o s.from + 1 ≡ span.first
    first_place = sym (position_is s.from from_vertex) ∙ s.at_first

    pub first_some : 1 ≤ span.first
    first_some = omega (arith, first_place)

    least : (w : ℕ) → IsVertex g w → IsNeighbour g w (get_or o i 0) → place o s.from ≤ place o w
    least w vw e = omega (arith, first_place, (s.whole w (row_from_joined w vw e)).0, position_is w vw)

    pub first_is : span.first - 1 < i → IsFirstBefore g o i (get_or o (span.first - 1) 0) (get_or o i 0)
    first_is k =
        let at : span.first - 1 ≡ place o s.from = omega (arith, first_place) in
        let is : get_or o (span.first - 1) 0 ≡ s.from = ap (λ j. get_or o j 0) at ∙ (back g o h r s.from from_vertex).1 in
        subst (λ u. IsFirstBefore g o i u (get_or o i 0)) (sym is) (record {
          vertex = from_vertex;
          joined = joined_from_row s.from s.has_from;
          before = omega (arith, at, k);
          first = least;
        })

    pub none_before : i ≤ span.first - 1 → HasNoneBefore g o i (get_or o i 0)
    none_before k w vw e = omega (arith, k, first_place, least w vw e)
