-- Steps from a column to the next one in the order.
use Rattle.std.proofs.Common.{◌≡◌, ◌≢◌, ◌∙◌, ℕ, ◌+◌, ◌-◌, ◌<◌, List, length, slice_index, IsTrue, sym, ap, subst, arith}
use Rattle.column_order.specs.Orders.{has, place, IsOrder}
use Rattle.column_order.proofs.Counts.{order_has}
use Rattle.column_order.proofs.Lists.{at_place}
use Rattle.row_model.specs.declared.graph.Pair.{Pair}
use Rattle.row_model.specs.declared.graph.Line.{Line}
use Rattle.row_model.specs.declared.graph.Why.{Why}
use Rattle.row_model.specs.declared.graph.Why.TheVariants.{Row}
use Rattle.row_model.specs.Graph.{pair, IsPair, JoinedBy}
use Rattle.open_gaps.specs.Gaps.{Opens}
use Rattle.open_gaps.proofs.Sound.{joined_before, joined_behind}

module _ (rows : List (List ℕ)) (o : List ℕ) (order : IsOrder (length o) o) (v : Pair) (p : IsPair (length o) v) where
  has_b : IsTrue (has o v.b)
  has_b = order_has (length o) o order v.b p.b_from p.b_to

  at_a : slice_index o (place o v.a) ≡ v.a
  at_a = (at_place o v.a (order_has (length o) o order v.a p.a_from p.a_to)).1

  at_b : slice_index o (place o v.b) ≡ v.b
  at_b = (at_place o v.b has_b).1

  -- what is open for the column at the place of b is open for b
  pub opens_b : (k q y : ℕ) → y ≡ place o v.b → Opens rows o k q (slice_index o y) → Opens rows o k q v.b
  opens_b k q y e h = subst (Opens rows o k q) (ap (slice_index o) e ∙ at_b) h

  pub opens_there : (k q y : ℕ) → y ≡ place o v.b → Opens rows o k q v.b → Opens rows o k q (slice_index o y)
  opens_there k q y e h = subst (Opens rows o k q) (sym (ap (slice_index o) e ∙ at_b)) h

  line_joined : (line : Line) (d k : ℕ) → line.pair ≡ pair v.b d → line.why ≡ Row k → JoinedBy (length o) rows (pair v.b d) v (Row k) → JoinedBy (length o) rows line.pair v line.why
  line_joined line d k e f j = subst (λ (w : Pair). JoinedBy (length o) rows w v line.why) (sym e) (subst (λ (y : Why). JoinedBy (length o) rows (pair v.b d) v y) (sym f) j)

  module _ (x y d k : ℕ) (ex : x ≡ place o v.a) (ey : y ≡ place o v.b) (line : Line) (e : line.pair ≡ pair v.b d) (f : line.why ≡ Row k) where
    pub step_before : x ≢ 0 → x < length o → d ≡ slice_index o (x - 1) → Opens rows o k (x - 1) (slice_index o y) → JoinedBy (length o) rows line.pair v line.why
    step_before n l at h =
        let up : x - 1 + 1 ≡ place o v.a = omega (arith, n, ex) in
        let a : slice_index o (x - 1 + 1) ≡ v.a = ap (slice_index o) up ∙ at_a in
        let j = joined_before (length o) rows o order k (x - 1) v.b (omega (arith, n, l)) has_b (opens_b k (x - 1) y ey h) in
        line_joined line d k e f (subst (λ z. JoinedBy (length o) rows (pair v.b z) v (Row k)) (sym at) (subst (λ z. JoinedBy (length o) rows (pair v.b (slice_index o (x - 1))) (pair z v.b) (Row k)) a j))

    pub step_behind : x + 1 < length o → d ≡ slice_index o (x + 1) → Opens rows o k x (slice_index o y) → JoinedBy (length o) rows line.pair v line.why
    step_behind l at h =
        let a : slice_index o x ≡ v.a = ap (slice_index o) ex ∙ at_a in
        let j = joined_behind (length o) rows o order k x v.b l has_b (opens_b k x y ey h) in
        line_joined line d k e f (subst (λ z. JoinedBy (length o) rows (pair v.b z) v (Row k)) (sym at) (subst (λ z. JoinedBy (length o) rows (pair v.b (slice_index o (x + 1))) (pair z v.b) (Row k)) a j))
