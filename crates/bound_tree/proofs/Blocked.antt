-- A pair of positions from which no gap leads outwards: no walk leads out of the columns between them.
use Rattle.std.proofs.Common.{◌≡◌, ◌⊎◌, ℕ, ◌+◌, ◌-◌, ◌<◌, ◌≤◌, List, [], ◌∷◌, length, slice_index, IsTrue, sym, subst, inl, inr, arith}
use Rattle.std.proofs.lemmas.Bool.{both_ways, cases_eq, cases_lt, true_from_ne_false}
use Rattle.column_order.specs.Orders.{has, place, IsValidOrder}
use Rattle.column_order.proofs.Counts.{order_once, order_has}
use Rattle.column_order.proofs.Lists.{at_place, place_at}
use Rattle.row_model.specs.declared.graph.Pair.{Pair}
use Rattle.row_model.specs.declared.graph.Why.TheVariants.{Flip, Row}
use Rattle.row_model.specs.Graph.{row_at, Joined, IsWalk, Evenly}
use Rattle.open_gaps.specs.Gaps.{IsOpen}
use Rattle.bound_tree.proofs.Cells.{cell, row_keeps}

module _ (c : ℕ) (rows : List (List ℕ)) (o : List ℕ) (valid : IsValidOrder c rows o) (x p : ℕ) (u : p < length o)
    (before : (q : ℕ) → q + 1 ≡ x → IsOpen rows o q p → ⊥) (behind : p + 1 < length o → IsOpen rows o p x → ⊥) where
  -- the column stands between the two positions
  abbrev Between : ℕ → Type 0
  Between a = (x ≤ place o a) × (place o a ≤ p)

  abbrev Inside : Pair → Type 0
  Inside v = Between v.a × Between v.b

  module _ (k : ℕ) (from : 1 ≤ k) (to : k ≤ length rows) where
    abbrev Has : ℕ → Type 0
    Has i = IsTrue (has (row_at rows k) (slice_index o i))

    -- the row has what stands at or between two positions where it has both
    spans : (i j l : ℕ) → i ≤ j → j ≤ l → l < length o → Has i → Has l → Has j
    spans i j l a b w hi hl =
        elim (cases_eq i j) [
          | inl e ↦ subst Has e hi
          | inr n ↦ elim (cases_eq j l) [
            | inl e ↦ subst Has (sym e) hl
            | inr m ↦ row_keeps c rows o valid k from to i j l (omega arith) (omega arith) w hi hl
          ]
        ]

    -- a row with a column between the two positions and one that is not there has all columns between them
    covers : (y z : ℕ) → x ≤ y → y ≤ p → z < length o → (z < x) ⊎ (p < z) → Has y → Has z → (i : ℕ) → x ≤ i → i ≤ p → Has i
    covers y z ly uy lz out hy hz i li ui =
        elim out [
          | inl l ↦
              let low : Has (x - 1) = spans z (x - 1) y (omega arith) (omega arith) (omega arith) hz hy in
              let high : Has x = spans z x y (omega arith) (omega arith) (omega arith) hz hy in
              let end : Has p =
              true_from_ne_false (has (row_at rows k) (slice_index o p)) (λ f.
              before (x - 1) (omega arith)
              (k, record { from = from; to = to; low = low; high = subst Has (omega arith) high; lacks = f })) in
              spans z i p (omega arith) ui u hz end
          | inr l ↦
              let low : Has p = spans y p z uy (omega arith) lz hy hz in
              let high : Has (p + 1) = spans y (p + 1) z (omega arith) (omega arith) lz hy hz in
              let end : Has x =
              true_from_ne_false (has (row_at rows k) (slice_index o x)) (λ f.
              behind (omega arith) (k, record { from = from; to = to; low = low; high = high; lacks = f })) in
              spans x i z li (omega arith) lz end hz
        ]

    has_column : (a : ℕ) → 1 ≤ a → a ≤ c → IsTrue (has (row_at rows k) a) → Has (place o a)
    has_column a l m h = subst (λ y. IsTrue (has (row_at rows k) y)) (sym (at_place o a (order_has c o valid.order a l m)).1) h

    -- a row with a column between the two positions that lacks another one there has no column elsewhere
    stays : (a b d : ℕ) → 1 ≤ a → a ≤ c → 1 ≤ b → b ≤ c → 1 ≤ d → d ≤ c → Between a → Between b →
        IsTrue (has (row_at rows k) a) → IsTrue (has (row_at rows k) d) → (IsTrue (has (row_at rows k) b) → ⊥) → Between d
    stays a b d la ua lb ub ld ud ia ib ha hd nb =
        let pd : place o d < length o = (at_place o d (order_has c o valid.order d ld ud)).0 in
        let out : (place o d < x) ⊎ (p < place o d) → ⊥ =
        λ w. nb (subst (λ y. IsTrue (has (row_at rows k) y)) (at_place o b (order_has c o valid.order b lb ub)).1
        (covers (place o a) (place o d) ia.0 ia.1 pd w (has_column a la ua ha) (has_column d ld ud hd) (place o b) ib.0 ib.1)) in
        elim (cases_lt (place o d) x) [
          | inl l ↦ absurd (out (inl l))
          | inr l ↦ elim (cases_lt p (place o d)) [ inl m ↦ absurd (out (inr m)) | inr m ↦ (l, m) ]
        ]

  joined_inside : (v w : Pair) → Joined c rows v w → Inside v → Inside w
  joined_inside v w (Flip, j) i = (subst Between j.fits.1 i.1, subst Between j.fits.0 i.0)
  joined_inside v w (Row k, j) i =
      elim j.fits.2 [
        | inl s ↦
            let b : Between w.a = subst Between s.middle i.1 in (
              b,
              stays k j.fits.0 j.fits.1 v.a v.b w.b j.from.a_from j.from.a_to j.from.b_from j.from.b_to j.to.b_from j.to.b_to i.0 i.1 s.has_first s.has_last
                  (λ h. both_ways (has (row_at rows k) v.b) s.lacks_middle h),
            )
        | inr s ↦
            let b : Between w.b = subst Between (sym s.middle) i.0 in (
              stays k j.fits.0 j.fits.1 v.b w.b w.a j.from.b_from j.from.b_to j.to.b_from j.to.b_to j.to.a_from j.to.a_to i.1 b s.has_last s.has_first
                  (λ h. both_ways (has (row_at rows k) w.b) s.lacks_middle h),
              b,
            )
      ]

  walk_inside : (us : List Pair) (v w : Pair) → IsWalk (Joined c rows) v us w → Inside v → Inside w
  walk_inside [] v w e i = subst Inside e i
  walk_inside (t ∷ us) v w h i = walk_inside us t w h.1 (joined_inside v t h.0 i)

  -- no walk of even length leads from the two positions to a pair with a position outside
  pub blocked : (y r : ℕ) → x ≤ p → y < length o → r < length o → (y < x) ⊎ (p < r) → Evenly c rows (cell o x p) (cell o y r) → ⊥
  blocked y r l ly lr out h =
      let once = order_once c o valid.order in
      let px : place o (slice_index o x) ≡ x = place_at o once x (omega arith) in
      let pp : place o (slice_index o p) ≡ p = place_at o once p u in
      let py : place o (slice_index o y) ≡ y = place_at o once y ly in
      let pr : place o (slice_index o r) ≡ r = place_at o once r lr in
      let i : Inside (cell o y r) = walk_inside h.steps (cell o x p) (cell o y r) h.walk ((omega arith, omega arith), (omega arith, omega arith)) in
      elim out [ inl m ↦ absurd (omega (arith, i.0.0, py)) | inr m ↦ absurd (omega (arith, i.1.1, pr)) ]
