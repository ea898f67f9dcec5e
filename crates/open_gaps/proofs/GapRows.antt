-- The ends of each gap, from row to row.
use Rattle.std.proofs.Common.{◌≡◌, ◌⊎◌, ◌∙◌, ℕ, ◌+◌, ◌<◌, ◌≤◌, List, [], ◌∷◌, ◌++◌, length, slice_index, IsTrue, IsFalse, sym, ap, subst, inl, inr, arith, length-append}
use Rattle.std.proofs.lemmas.Bool.{both_ways, cases_lt, cases_eq, false_from_ne_true}
use Rattle.column_order.specs.Orders.{has, Keeps, AreEnds}
use Rattle.row_model.specs.Graph.{row_at}
use Rattle.open_gaps.specs.Gaps.{Opens, IsRightEnd, IsLeftEnd}
use Rattle.open_gaps.proofs.Labels.{old_row, new_row, opens_more}

-- before the first row no gap is open
pub right_start : (o : List ℕ) (q last k : ℕ) → length o ≤ last → IsRightEnd [] o q last k
right_start o q last k e =
    record {
      opens = λ p l h u. absurd (omega (arith, e, h, u));
      no_other = λ j p l u opens. absurd (omega (arith, opens.from, opens.to));
    }

pub left_start : (o : List ℕ) (q k : ℕ) → IsLeftEnd [] o q 0 k
left_start o q k =
    record {
      opens = λ p l h. absurd (omega (arith, h));
      no_other = λ j p l opens. absurd (omega (arith, opens.from, opens.to));
    }

module _ (rows : List (List ℕ)) (o row : List ℕ) where
  -- the new row opens a gap
  opens_new : (q b : ℕ) → IsTrue (has row (slice_index o q)) → IsTrue (has row (slice_index o (q + 1))) → IsFalse (has row b) →
      Opens (rows ++ row ∷ []) o (length rows + 1) q b
  opens_new q b low high lacks =
      let e : row ≡ row_at (rows ++ row ∷ []) (length rows + 1) = sym (new_row rows row) in
      record {
        from = omega arith;
        to = omega (arith, length-append rows (row ∷ []));
        low = subst (λ r. IsTrue (has r (slice_index o q))) e low;
        high = subst (λ r. IsTrue (has r (slice_index o (q + 1)))) e high;
        lacks = subst (λ r. IsFalse (has r b)) e lacks;
      }

  -- an open gap is open by an old row or by the new one
  abbrev NewOpens : ℕ → ℕ → Type 0
  NewOpens q b = IsTrue (has row (slice_index o q)) × IsTrue (has row (slice_index o (q + 1))) × IsFalse (has row b)

  opens_less : (j q b : ℕ) → Opens (rows ++ row ∷ []) o j q b → Opens rows o j q b ⊎ NewOpens q b
  opens_less j q b opens =
      elim (cases_lt (length rows) j) [
        | inl l ↦
            let e : row_at (rows ++ row ∷ []) j ≡ row =
            ap (row_at (rows ++ row ∷ [])) (omega (arith, l, opens.to, length-append rows (row ∷ []))) ∙ new_row rows row in
            inr (
              subst (λ r. IsTrue (has r (slice_index o q))) e opens.low,
              subst (λ r. IsTrue (has r (slice_index o (q + 1)))) e opens.high,
              subst (λ r. IsFalse (has r b)) e opens.lacks,
            )
        | inr l ↦
            let e : row_at (rows ++ row ∷ []) j ≡ row_at rows j = old_row rows row j opens.from l in
            inl
            (record {
              from = opens.from;
              to = l;
              low = subst (λ r. IsTrue (has r (slice_index o q))) e opens.low;
              high = subst (λ r. IsTrue (has r (slice_index o (q + 1)))) e opens.high;
              lacks = subst (λ r. IsFalse (has r b)) e opens.lacks;
            })
      ]

  -- an empty row changes nothing
  pub right_more : (q last k : ℕ) → IsRightEnd rows o q last k →
      ((p : ℕ) → q + 1 < p → p < length o → NewOpens q (slice_index o p) → last < p) → IsRightEnd (rows ++ row ∷ []) o q last k
  right_more q last k old new =
      record {
        opens = λ p l h u. opens_more rows o row k q (slice_index o p) (old.opens p l h u);
        no_other = λ j p l u opens. elim (opens_less j q (slice_index o p) opens) [ inl h ↦ old.no_other j p l u h | inr h ↦ new p l u h ];
      }

  pub left_more : (q first k : ℕ) → IsLeftEnd rows o q first k →
      ((p : ℕ) → p < q → NewOpens q (slice_index o p) → p < first) → IsLeftEnd (rows ++ row ∷ []) o q first k
  left_more q first k old new =
      record {
        opens = λ p l h. opens_more rows o row k q (slice_index o p) (old.opens p l h);
        no_other = λ j p l opens. elim (opens_less j q (slice_index o p) opens) [ inl h ↦ old.no_other j p l h | inr h ↦ new p l h ];
      }

  module _ (left right : ℕ) (keeps : Keeps o row) (span : AreEnds o row left right) where
    span_has : (p : ℕ) → left ≤ p → p ≤ right → IsTrue (has row (slice_index o p))
    span_has p l u =
        elim (cases_eq left p) [
          | inl e ↦ subst (λ y. IsTrue (has row (slice_index o y))) e span.has_first
          | inr n ↦
              elim (cases_eq p right) [
                | inl e ↦ subst (λ y. IsTrue (has row (slice_index o y))) (sym e) span.has_last
                | inr m ↦ keeps left p right (omega (arith, l, n)) (omega (arith, u, m)) span.inside span.has_first span.has_last
              ]
        ]

    lacks_past : (p : ℕ) → right < p → p < length o → IsFalse (has row (slice_index o p))
    lacks_past p l u = false_from_ne_true (has row (slice_index o p)) (λ t. absurd (omega (arith, l, (span.whole p u t).1)))

    lacks_before : (p : ℕ) → p < left → IsFalse (has row (slice_index o p))
    lacks_before p l =
        let u : p < length o = omega (arith, l, span.rise, span.inside) in
        false_from_ne_true (has row (slice_index o p)) (λ t. absurd (omega (arith, l, (span.whole p u t).0)))

    -- a position right of a gap that the row covers and lacks is past its right end
    new_right : (q p : ℕ) → q + 1 < p → p < length o → NewOpens q (slice_index o p) → right < p
    new_right q p l u h =
        elim (cases_lt right p) [
          | inl m ↦ m
          | inr m ↦
              let low : left ≤ q = (span.whole q (omega (arith, l, u)) h.0).0 in
              absurd (both_ways (has row (slice_index o p)) h.2 (span_has p (omega (arith, low, l)) m))
        ]

    new_left : (q p : ℕ) → p < q → q + 1 < length o → NewOpens q (slice_index o p) → p < left
    new_left q p l u h =
        elim (cases_lt p left) [
          | inl m ↦ m
          | inr m ↦
              let high : q + 1 ≤ right = (span.whole (q + 1) u h.1).1 in
              absurd (both_ways (has row (slice_index o p)) h.2 (span_has p m (omega (arith, high, l))))
        ]

    -- a covered gap takes the new row's end where it is nearer
    pub right_taken : (q last k : ℕ) → left ≤ q → q < right → right < last → IsRightEnd rows o q last k →
        IsRightEnd (rows ++ row ∷ []) o q right (length rows + 1)
    right_taken q last k l u n old =
        record {
          opens = λ p a b d. opens_new q (slice_index o p) (span_has q l (omega (arith, u))) (span_has (q + 1) (omega (arith, l)) (omega (arith, u))) (lacks_past p b d);
          no_other = λ j p a d opens. elim (opens_less j q (slice_index o p) opens) [ inl h ↦ omega (arith, old.no_other j p a d h, n) | inr h ↦ new_right q p a d h ];
        }

    pub right_kept : (q last k : ℕ) → last ≤ right → IsRightEnd rows o q last k → IsRightEnd (rows ++ row ∷ []) o q last k
    right_kept q last k n old = right_more q last k old (λ p a d h. omega (arith, n, new_right q p a d h))

    pub left_taken : (q first k : ℕ) → q + 1 < length o → left ≤ q → q < right → first < left → IsLeftEnd rows o q first k →
        IsLeftEnd (rows ++ row ∷ []) o q left (length rows + 1)
    left_taken q first k w l u n old =
        record {
          opens = λ p a b. opens_new q (slice_index o p) (span_has q l (omega (arith, u))) (span_has (q + 1) (omega (arith, l)) (omega (arith, u))) (lacks_before p b);
          no_other = λ j p a opens. elim (opens_less j q (slice_index o p) opens) [ inl h ↦ omega (arith, old.no_other j p a h, n) | inr h ↦ omega (arith, new_left q p a w h) ];
        }

    pub left_kept : (q first k : ℕ) → q + 1 < length o → left ≤ first → IsLeftEnd rows o q first k → IsLeftEnd (rows ++ row ∷ []) o q first k
    left_kept q first k w n old = left_more q first k old (λ p a h. omega (arith, n, new_left q p a w h))

    -- a gap that the row does not cover is as it was
    uncovered : (q : ℕ) → q + 1 < length o → (q < left) ⊎ (right ≤ q) → IsTrue (has row (slice_index o q)) → IsTrue (has row (slice_index o (q + 1))) → ⊥
    uncovered q w out h g =
        elim out [
          | inl l ↦ absurd (omega (arith, l, (span.whole q (omega (arith, w)) h).0))
          | inr l ↦ absurd (omega (arith, l, (span.whole (q + 1) w g).1))
        ]

    pub right_apart : (q last k : ℕ) → q + 1 < length o → (q < left) ⊎ (right ≤ q) → IsRightEnd rows o q last k → IsRightEnd (rows ++ row ∷ []) o q last k
    right_apart q last k w out old = right_more q last k old (λ p a d h. absurd (uncovered q w out h.0 h.1))

    pub left_apart : (q first k : ℕ) → q + 1 < length o → (q < left) ⊎ (right ≤ q) → IsLeftEnd rows o q first k → IsLeftEnd (rows ++ row ∷ []) o q first k
    left_apart q first k w out old = left_more q first k old (λ p a h. absurd (uncovered q w out h.0 h.1))
