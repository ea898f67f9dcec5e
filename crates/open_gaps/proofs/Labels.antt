-- What agrees at the open gaps of an order, and on one row more, agrees on all pairs that the rows join.
use Rattle.std.proofs.Common.{◌≡◌, ◌⊎◌, ◌∙◌, ℕ, zero, suc, ◌+◌, ◌-◌, ◌<◌, ◌≤◌, refl, List, [], ◌∷◌, ◌++◌, length, get_or, slice_index, IsTrue, IsFalse, sym, ap, subst, inl, inr, arith, length-append}
use Rattle.std.proofs.lemmas.Bool.{cases_lt, cases_eq}
use Rattle.std.proofs.lemmas.List.{get_or_append_left, get_or_push}
use Rattle.row_model.specs.declared.graph.Pair.{Pair}
use Rattle.row_model.specs.declared.graph.Why.TheVariants.{Flip, Row}
use Rattle.column_order.specs.Orders.{has, place, Keeps, IsValidOrder}
use Rattle.row_model.specs.Graph.{pair, turned, row_at, IsPair, Crosses, Joined}
use Rattle.column_order.proofs.Lists.{at_place}
use Rattle.row_model.proofs.Sides.{order_has}
use Rattle.open_gaps.specs.Gaps.{Opens}
use Rattle.open_gaps.specs.Labels.{IsAlike, GapLaw}

-- an equivalence of pairs that goes along with turning both
pub record IsPairEq (R : Pair → Pair → Type 0) : Type 0 where
  pub same : (v : Pair) → R v v
  pub back : (v w : Pair) → R v w → R w v
  pub join : (v w z : Pair) → R v w → R w z → R v z
  pub turn : (v w : Pair) → R v w → R (turned v) (turned w)

-- two neighbours make related pairs with each column for which their gap is open
abbrev pub IsOpenAtGaps : (Pair → Pair → Type 0) → List (List ℕ) → List ℕ → Type 0
IsOpenAtGaps R rows o =
    (k q b : ℕ) →
    q + 1 < length o →
    IsTrue (has o b) →
    Opens rows o k q b →
    R (pair (slice_index o q) b) (pair (slice_index o (q + 1)) b)

module _ (R : Pair → Pair → Type 0) (eq : IsPairEq R) (rows : List (List ℕ)) (o : List ℕ) (gaps : IsOpenAtGaps R rows o) where
  -- along a row, from position to position
  along : (k b : ℕ) → 1 ≤ k → k ≤ length rows → Keeps o (row_at rows k) → IsTrue (has o b) → IsFalse (has (row_at rows k) b) → (n i j : ℕ) →
      j ≡ i + n → j < length o → IsTrue (has (row_at rows k) (slice_index o i)) → IsTrue (has (row_at rows k) (slice_index o j)) →
      R (pair (slice_index o i) b) (pair (slice_index o j) b)
  along k b from to keeps ob lb zero i j e l hi hj =
      let same : i ≡ j = omega (arith, e) in
      subst (λ x. R (pair (slice_index o i) b) (pair (slice_index o x) b)) same (eq.same (pair (slice_index o i) b))
  along k b from to keeps ob lb (suc n) i j e l hi hj =
      let next : IsTrue (has (row_at rows k) (slice_index o (i + 1))) =
      elim (cases_eq (i + 1) j) [
        | inl p ↦ subst (λ x. IsTrue (has (row_at rows k) (slice_index o x))) (sym p) hj
        | inr p ↦ keeps i (i + 1) j (omega arith) (omega (arith, e, p)) l hi hj
      ] in
      eq.join
      (pair (slice_index o i) b)
      (pair (slice_index o (i + 1)) b)
      (pair (slice_index o j) b)
      (gaps k i b (omega (arith, e, l)) ob (record { from = from; to = to; low = hi; high = next; lacks = lb }))
      (along k b from to keeps ob lb n (i + 1) j (omega (arith, e)) l next hj)

  -- two columns of a row, and a column that it lacks
  pub together : (k a d b : ℕ) → 1 ≤ k → k ≤ length rows → Keeps o (row_at rows k) → IsTrue (has o a) → IsTrue (has o d) → IsTrue (has o b) →
      IsTrue (has (row_at rows k) a) → IsTrue (has (row_at rows k) d) → IsFalse (has (row_at rows k) b) → R (pair a b) (pair d b)
  together k a d b from to keeps oa od ob ha hd lb =
      let pa : (place o a < length o) × (get_or o (place o a) 0 ≡ a) = at_place o a oa in
      let pd : (place o d < length o) × (get_or o (place o d) 0 ≡ d) = at_place o d od in
      let ra : IsTrue (has (row_at rows k) (slice_index o (place o a))) = subst (λ x. IsTrue (has (row_at rows k) x)) (sym pa.1) ha in
      let rd : IsTrue (has (row_at rows k) (slice_index o (place o d))) = subst (λ x. IsTrue (has (row_at rows k) x)) (sym pd.1) hd in
      elim (cases_lt (place o a) (place o d)) [
        | inl l ↦
            subst
            (λ x. R (pair x b) (pair d b))
            pa.1
            (subst
            (λ x. R (pair (get_or o (place o a) 0) b) (pair x b))
            pd.1
            (along k b from to keeps ob lb (place o d - place o a) (place o a) (place o d) (omega (arith, l)) pd.0 ra rd))
        | inr l ↦
            eq.back
            (pair d b)
            (pair a b)
            (subst
            (λ x. R (pair x b) (pair a b))
            pd.1
            (subst
            (λ x. R (pair (get_or o (place o d) 0) b) (pair x b))
            pa.1
            (along k b from to keeps ob lb (place o a - place o d) (place o d) (place o a) (omega (arith, l)) pa.0 rd ra)))
      ]

  module _ (c : ℕ) (valid : IsValidOrder c rows o) where
    crossed : (k : ℕ) (v w : Pair) → 1 ≤ k → k ≤ length rows → IsPair c v → IsPair c w → Crosses (row_at rows k) v w → R v (turned w)
    crossed k v w from to pv pw x =
        let oa : IsTrue (has o v.a) = order_has c o valid.order v.a pv.a_from pv.a_to in
        let ob : IsTrue (has o v.b) = order_has c o valid.order v.b pv.b_from pv.b_to in
        let od : IsTrue (has o w.b) = order_has c o valid.order w.b pw.b_from pw.b_to in
        let keeps : Keeps o (row_at rows k) = valid.kept (k - 1) [] (omega (arith, from, to)) in
        subst
        (λ y. R v (pair w.b y))
        x.middle
        (together k v.a w.b v.b from to keeps oa od ob x.has_first x.has_last x.lacks_middle)

    -- of two joined pairs the one is related to the other turned round
    pub joined_turned : (v w : Pair) → Joined c rows v w → R v (turned w)
    joined_turned v w (Flip, j) =
        subst (λ y. R v (pair y w.a)) j.fits.0 (subst (λ y. R v (pair v.a y)) j.fits.1 (eq.same v))
    joined_turned v w (Row k, j) =
        elim j.fits.2 [
          | inl x ↦ crossed k v w j.fits.0 j.fits.1 j.from j.to x
          | inr x ↦ eq.back (turned w) v (eq.turn w (turned v) (crossed k w v j.fits.0 j.fits.1 j.to j.from x))
        ]

pub old_row : (rows : List (List ℕ)) (row : List ℕ) (k : ℕ) → 1 ≤ k → k ≤ length rows → row_at (rows ++ row ∷ []) k ≡ row_at rows k
old_row rows row k from to = get_or_append_left rows (row ∷ []) [] (k - 1) (omega (arith, from, to))

pub new_row : (rows : List (List ℕ)) (row : List ℕ) → row_at (rows ++ row ∷ []) (length rows + 1) ≡ row
new_row rows row = get_or_push rows row [] (length rows + 1 - 1) (omega arith)

-- what is open stays open with one row more
pub opens_more : (rows : List (List ℕ)) (o row : List ℕ) (k q b : ℕ) → Opens rows o k q b → Opens (rows ++ row ∷ []) o k q b
opens_more rows o row k q b opens =
    let e : row_at rows k ≡ row_at (rows ++ row ∷ []) k = sym (old_row rows row k opens.from opens.to) in
    record {
      from = opens.from;
      to = omega (arith, opens.to, length-append rows (row ∷ []));
      low = subst (λ r. IsTrue (has r (slice_index o q))) e opens.low;
      high = subst (λ r. IsTrue (has r (slice_index o (q + 1)))) e opens.high;
      lacks = subst (λ r. IsFalse (has r b)) e opens.lacks;
    }

-- the same with one row more, which the order need not keep
pub more_turned : (R : Pair → Pair → Type 0) → IsPairEq R → (rows : List (List ℕ)) (row o : List ℕ) → IsOpenAtGaps R rows o →
    (c : ℕ) → IsValidOrder c rows o → ((v w : Pair) → IsPair c v → IsPair c w → Crosses row v w → R v (turned w)) →
    (v w : Pair) → Joined c (rows ++ row ∷ []) v w → R v (turned w)
more_turned R eq rows row o gaps c valid star v w (Flip, j) =
    joined_turned R eq rows o gaps c valid v w (Flip, record { from = j.from; to = j.to; fits = j.fits })
more_turned R eq rows row o gaps c valid star v w (Row k, j) =
    elim (cases_lt (length rows) k) [
      | inl l ↦
          let e : k ≡ length rows + 1 = omega (arith, l, j.fits.1, length-append rows (row ∷ [])) in
          let f : row_at (rows ++ row ∷ []) k ≡ row = ap (row_at (rows ++ row ∷ [])) e ∙ new_row rows row in
          elim j.fits.2 [
            | inl x ↦ star v w j.from j.to (subst (λ r. Crosses r v w) f x)
            | inr x ↦ eq.back (turned w) v (eq.turn w (turned v) (star w v j.to j.from (subst (λ r. Crosses r w v) f x)))
          ]
      | inr l ↦
          let f : row_at (rows ++ row ∷ []) k ≡ row_at rows k = old_row rows row k j.fits.0 l in
          joined_turned R eq rows o gaps c valid v w (
            Row k,
            record { from = j.from; to = j.to; fits = (j.fits.0, l, subst (λ r. Crosses r v w ⊎ Crosses r w v) f j.fits.2) },
          )
    ]

-- labels alike make such an equivalence
alike_eq : (label : Pair → ℕ) → IsPairEq (IsAlike label)
alike_eq label =
    record {
      same = λ v. (refl, refl);
      back = λ v w h. (sym h.0, sym h.1);
      join = λ v w z g h. (g.0 ∙ h.0, g.1 ∙ h.1);
      turn = λ v w h. (h.1, h.0);
    }

pub gap_law : GapLaw
gap_law label c rows row o valid gaps star v w j = more_turned (IsAlike label) (alike_eq label) rows row o gaps c valid star v w j
