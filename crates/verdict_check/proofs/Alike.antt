-- Columns that are alike towards those outside a node, by their indices in a line.
use Rattle.std.proofs.Common.{ℕ, ◌+◌, ◌-◌, ◌<◌, ◌≤◌, List, length, get_or, sym, subst, inl, inr, arith}
use Rattle.std.proofs.lemmas.Bool.{cases_lt}
use Rattle.column_order.specs.Orders.{occurs}
use Rattle.column_order.proofs.Lists.{has_at}
use Rattle.row_model.specs.declared.graph.Pair.{Pair}
use Rattle.row_model.specs.declared.graph.Why.TheVariants.{Flip, Row}
use Rattle.row_model.specs.Graph.{pair, Joined, Evenly}
use Rattle.row_model.proofs.Walks.{evenly-refl, evenly-sym, evenly-trans}
use Rattle.tree_theory.specs.Tied.{IsClosed}
use Rattle.verdict_check.specs.Complete.{RunsFrom, IsOutside, pair_at}
use Rattle.verdict_check.proofs.Places.{stands_has, has_stands, outside_has, outside_lacks}

-- a relation that puts pairs into classes
pub record IsSorting (R : Pair → Pair → Type 0) : Type 0 where
  pub stay : (v : Pair) → R v v
  pub turn : (v w : Pair) → R v w → R w v
  pub join : (v w z : Pair) → R v w → R w z → R v z

joined_back : (c : ℕ) (rows : List (List ℕ)) (v w : Pair) → Joined c rows v w → Joined c rows w v
joined_back c rows v w (Flip, j) = (Flip, record { from = j.to; to = j.from; fits = (sym j.fits.1, sym j.fits.0) })
joined_back c rows v w (Row k, j) = (Row k, record { from = j.to; to = j.from; fits = (j.fits.0, j.fits.1, elim j.fits.2 [ inl x ↦ inr x | inr x ↦ inl x ]) })

pub evenly_sorts : (c : ℕ) (rows : List (List ℕ)) → IsSorting (Evenly c rows)
evenly_sorts c rows =
    record { stay = evenly-refl (Joined c rows); turn = evenly-sym (Joined c rows) (joined_back c rows); join = evenly-trans (Joined c rows) }

-- the columns from first to before to are alike towards those outside the node from first to before last
abbrev pub AlikeUpTo : (Pair → Pair → Type 0) → List ℕ → ℕ → ℕ → ℕ → Type 0
AlikeUpTo R l first last to =
    (x y i : ℕ) → first ≤ x → x < to → first ≤ y → y < to → i < length l → IsOutside first last i → R (pair_at l x i) (pair_at l y i)

module _ (R : Pair → Pair → Type 0) (l xs : List ℕ) (s : ℕ) (h : RunsFrom l s xs) where
  pub closed_from : AlikeUpTo R l s (s + length xs) (s + length xs) → IsClosed R l xs
  closed_from alike = λ a b d ha hb hd hn.
      let x = has_stands l xs s a h ha in
      let y = has_stands l xs s b h hb in
      let i = outside_has l xs s d h hd hn in
      let r : R (pair_at l x.0 i.0) (pair_at l y.0 i.0) = alike x.0 y.0 i.0 x.1 x.2 y.1 y.2 i.1 i.2 in
      subst (λ e. R (pair a e) (pair b e)) i.3 (subst (λ e. R (pair a (get_or l i.0 0)) (pair e (get_or l i.0 0))) y.3 (subst (λ e. R (pair e (get_or l i.0 0)) (pair (get_or l y.0 0) (get_or l i.0 0))) x.3 r))

  pub closed_to : ((a : ℕ) → occurs l a ≤ 1) → IsClosed R l xs → AlikeUpTo R l s (s + length xs) (s + length xs)
  closed_to once closed = λ x y i a b c d lt o.
      closed (get_or l x 0) (get_or l y 0) (get_or l i 0) (stands_has l xs s x h a b) (stands_has l xs s y h c d) (has_at l i lt) (outside_lacks l xs s i once h lt o)

-- one child more
pub alike_more : (R : Pair → Pair → Type 0) (l : List ℕ) (s e at next : ℕ) → IsSorting R → s ≤ at → at < next → next ≤ e → AlikeUpTo R l s e at →
    (s < at → (i : ℕ) → i < length l → IsOutside s e i → R (pair_at l (at - 1) i) (pair_at l at i)) → AlikeUpTo R l at next next → AlikeUpTo R l s e next
alike_more R l s e at next sorts p q r done gap child = λ x y i a b c d lt o.
    let wide : IsOutside at next i = elim o [ inl u ↦ inl (omega (arith, u, p)) | inr u ↦ inr (omega (arith, u, r)) ] in
    elim (cases_lt x at) [
      | inl xl ↦ elim (cases_lt y at) [
        | inl yl ↦ done x y i a xl c yl lt o
        | inr yg ↦
            sorts.join (pair_at l x i) (pair_at l (at - 1) i) (pair_at l y i) (done x (at - 1) i a xl (omega (arith, a, xl)) (omega (arith, a, xl)) lt o)
            (sorts.join (pair_at l (at - 1) i) (pair_at l at i) (pair_at l y i) (gap (omega (arith, a, xl)) i lt o) (child at y i (omega arith) q yg d lt wide))
      ]
      | inr xg ↦ elim (cases_lt y at) [
        | inl yl ↦
            sorts.join (pair_at l x i) (pair_at l at i) (pair_at l y i) (child x at i xg b (omega arith) q lt wide)
            (sorts.join (pair_at l at i) (pair_at l (at - 1) i) (pair_at l y i) (sorts.turn (pair_at l (at - 1) i) (pair_at l at i) (gap (omega (arith, c, yl)) i lt o))
            (done (at - 1) y i (omega (arith, c, yl)) (omega (arith, c, yl)) c yl lt o))
        | inr yg ↦ child x y i xg b yg d lt wide
      ]
    ]

-- none yet
pub alike_none : (R : Pair → Pair → Type 0) (l : List ℕ) (s e : ℕ) → AlikeUpTo R l s e s
alike_none R l s e = λ x y i a b c d lt o. absurd (omega (arith, a, b))
