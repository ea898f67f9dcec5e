-- In a valid order exactly one of two joined pairs has its first column first.
use Rattle.std.proofs.Common.{◌≡◌, ◌≢◌, ◌∙◌, ℕ, ◌-◌, ◌<◌, Bool, true, false, not, ltb, List, [], get_or, IsTrue, IsFalse, sym, ap, inl, inr, arith}
use Rattle.std.proofs.lemmas.Bool.{both_ways, cases_lt, lt-ltb, le-ltb}
use Rattle.row_model.specs.declared.graph.Pair.{Pair}
use Rattle.row_model.specs.declared.graph.Why.TheVariants.{Flip, Row}
use Rattle.column_order.specs.Orders.{has, place, IsOrder, Keeps, IsValidOrder}
use Rattle.row_model.specs.Graph.{IsPair, Crosses, row_at, Joined}
use Rattle.column_order.proofs.Lists.{place-inj, at_place}
pub use Rattle.column_order.proofs.Counts.{order_has}

-- whether the pair's first column stands before its second
abbrev pub side : List ℕ → Pair → Bool
side o v = ltb (place o v.a) (place o v.b)

-- no column that the row lacks stands between two of its columns
pub between : (o row : List ℕ) (a b d : ℕ) → Keeps o row → IsTrue (has o a) → IsTrue (has o b) → IsTrue (has o d) →
    IsTrue (has row a) → IsTrue (has row d) → IsFalse (has row b) → place o a < place o b → place o b < place o d → ⊥
between o row a b d keeps oa ob od ra rd rb l u =
    let t : IsTrue (has row (get_or o (place o b) 0)) =
    keeps (place o a) (place o b) (place o d) l u (at_place o d od).0 (rw (at_place o a oa).1 ra) (rw (at_place o d od).1 rd) in
    both_ways (has row b) rb (rw (at_place o b ob).1 at t)

pub other_side : (x y : ℕ) → x ≢ y → ltb y x ≡ not (ltb x y)
other_side x y n =
    elim (cases_lt x y) [
      | inl l ↦ rw (lt-ltb x y l) (le-ltb y x (omega arith))
      | inr l ↦ rw (le-ltb x y l) (lt-ltb y x (omega arith))
    ]

-- neither x < y < z nor z < y < x
pub opposite : (x y z : ℕ) → x ≢ y → y ≢ z → (x < y → y < z → ⊥) → (z < y → y < x → ⊥) → ltb y z ≡ not (ltb x y)
opposite x y z n m up down =
    elim (cases_lt x y) [
      | inl l ↦ rw (lt-ltb x y l) (elim (cases_lt y z) [ inl k ↦ absurd (up l k) | inr k ↦ le-ltb y z k ])
      | inr l ↦ rw (le-ltb x y l) (elim (cases_lt y z) [ inl k ↦ lt-ltb y z k | inr k ↦ absurd (down (omega arith) (omega arith)) ])
    ]

crossed : (c : ℕ) (o row : List ℕ) (v w : Pair) → IsOrder c o → Keeps o row → IsPair c v → IsPair c w → Crosses row v w →
    side o w ≡ not (side o v)
crossed c o row v w order keeps pv pw x =
    let oa : IsTrue (has o v.a) = order_has c o order v.a pv.a_from pv.a_to in
    let ob : IsTrue (has o v.b) = order_has c o order v.b pv.b_from pv.b_to in
    let od : IsTrue (has o w.b) = order_has c o order w.b pw.b_from pw.b_to in
    let far : v.b ≢ w.b = λ e. pw.distinct (sym x.middle ∙ e) in
    rw (← x.middle)
    (opposite
    (place o v.a)
    (place o v.b)
    (place o w.b)
    (λ e. pv.distinct (place-inj o v.a v.b e))
    (λ e. far (place-inj o v.b w.b e))
    (between o row v.a v.b w.b keeps oa ob od x.has_first x.has_last x.lacks_middle)
    (between o row w.b v.b v.a keeps od ob oa x.has_last x.has_first x.lacks_middle))

not_not : (b c : Bool) → b ≡ not c → c ≡ not b
not_not true true e = e
not_not true false e = sym (ap not e)
not_not false true e = sym (ap not e)
not_not false false e = e

-- exactly one of two joined pairs has its first column before its second
pub joined_side : (c : ℕ) (rows : List (List ℕ)) (o : List ℕ) → IsValidOrder c rows o → (v w : Pair) → Joined c rows v w →
    side o w ≡ not (side o v)
joined_side c rows o valid v w (Flip, j) =
    rw (← j.fits.0, ← j.fits.1) (other_side (place o v.a) (place o v.b) (λ e. j.from.distinct (place-inj o v.a v.b e)))
joined_side c rows o valid v w (Row k, j) =
    let keeps : Keeps o (row_at rows k) = valid.kept (k - 1) [] (omega arith) in
    elim j.fits.2 [
      | inl x ↦ crossed c o (row_at rows k) v w valid.order keeps j.from j.to x
      | inr x ↦ not_not (side o v) (side o w) (crossed c o (row_at rows k) w v valid.order keeps j.to j.from x)
    ]
