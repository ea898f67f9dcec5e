-- The gaps of an order with one row more.
use Rattle.std.proofs.Common.{◌≡◌, ◌⊎◌, ◌∙◌, ℕ, ◌+◌, ◌-◌, ◌<◌, ◌≤◌, Bool, true, false, cond, ltb, List, [], ◌∷◌, ◌++◌, length, get_or, take, replicate, slice_index, slice_index_or, IsTrue, refl, sym, ap, subst, inl, inr, arith}
use Rattle.std.specs.Prelude.{All, Some, slice_get, sum_by}
use Rattle.std.proofs.lemmas.Bool.{cases_lt, ltb-true, ltb-false}
use Rattle.std.proofs.lemmas.List.{take_all, take_more, get_or-take, get_or-replicate, length-replicate, length-take-le}
use Rattle.std.proofs.lemmas.List.Elements.{All-get_or}
use Rattle.std.proofs.lemmas.List.Sums.{sum_by-append, sum_by-cons}
use Rattle.std.proofs.lemmas.Option.{get_or_from_slice_get}
use Rattle.std.specs.Prelude.{Option, None, MatchOption, IfSome}
use Rattle.column_order.specs.Orders.{has, Keeps, AreEnds, IsOrder, IsWithin, IsValidOrder}
use Rattle.column_order.proofs.Counts.{order_length}
use Rattle.row_model.specs.Rows.{Ascends}
use Rattle.row_model.proofs.Ascending.{row_within}
use Rattle.row_model.specs.declared.lists.Span.{Span}
use Rattle.row_model.specs.Positions.{ArePositions, IsSpan, IsSpanInOrder}
use Rattle.column_order.proofs.Lists.{at_place}
use Rattle.open_gaps.specs.declared.gap.Gap.{Gap}
use Rattle.open_gaps.specs.Gaps.{IsRightEnd, IsLeftEnd, IsGap, AreGaps}
use Rattle.open_gaps.specs.Tables.{covered}
use Rattle.open_gaps.proofs.GapRows.{right_start, left_start, right_more, left_more, right_taken, right_kept, left_taken, left_kept, right_apart, left_apart}

both : (P : ℕ → ℕ → Type 0) (b : Bool) (x y k l : ℕ) → (b ≡ true → P x k) → (b ≡ false → P y l) → P (cond b x y) (cond b k l)
both P true x y k l t f = t refl
both P false x y k l t f = f refl

module _ (rows : List (List ℕ)) (o row : List ℕ) (left right : ℕ) (keeps : Keeps o row) (span : AreEnds o row left right) where
  pub gap_inside : (q : ℕ) (g : Gap) → q + 1 < length o → left ≤ q → q < right → IsGap rows o q g →
      IsGap (rows ++ row ∷ []) o q (covered g left right (length rows + 1))
  gap_inside q g w l u old =
      record {
        right =
            both
            (λ x k. IsRightEnd (rows ++ row ∷ []) o q x k)
            (ltb right g.last)
            right
            g.last
            (length rows + 1)
            g.last_row
            (λ e. right_taken rows o row left right keeps span q g.last g.last_row l u (ltb-true right g.last e) old.right)
            (λ e. right_kept rows o row left right keeps span q g.last g.last_row (ltb-false right g.last e) old.right);
        left =
            both
            (λ x k. IsLeftEnd (rows ++ row ∷ []) o q x k)
            (ltb g.first left)
            left
            g.first
            (length rows + 1)
            g.first_row
            (λ e. left_taken rows o row left right keeps span q g.first g.first_row w l u (ltb-true g.first left e) old.left)
            (λ e. left_kept rows o row left right keeps span q g.first g.first_row w (ltb-false g.first left e) old.left);
      }

  pub gap_outside : (q : ℕ) (g : Gap) → q + 1 < length o → (q < left) ⊎ (right ≤ q) → IsGap rows o q g → IsGap (rows ++ row ∷ []) o q g
  gap_outside q g w out old =
      record {
        right = right_apart rows o row left right keeps span q g.last g.last_row w out old.right;
        left = left_apart rows o row left right keeps span q g.first g.first_row w out old.left;
      }

  -- all gaps, where those that the row covers are covered once more
  pub gaps_more : (old new : List Gap) →
      ((q : ℕ) (d : Gap) → left ≤ q → q < right → slice_index_or new q d ≡ covered (slice_index_or old q d) left right (length rows + 1)) →
      ((q : ℕ) (d : Gap) → (q < left) ⊎ (right ≤ q) → slice_index_or new q d ≡ slice_index_or old q d) →
      AreGaps rows o old → AreGaps (rows ++ row ∷ []) o new
  gaps_more old new inside outside gaps q d w =
      elim (cases_lt q left) [
        | inl l ↦
            subst (IsGap (rows ++ row ∷ []) o q) (sym (outside q d (inl l))) (gap_outside q (slice_index_or old q d) w (inl l) (gaps q d w))
        | inr l ↦
            elim (cases_lt q right) [
              | inl u ↦
                  subst
                  (IsGap (rows ++ row ∷ []) o q)
                  (sym (inside q d l u))
                  (gap_inside q (slice_index_or old q d) w l u (gaps q d w))
              | inr u ↦
                  subst (IsGap (rows ++ row ∷ []) o q) (sym (outside q d (inr u))) (gap_outside q (slice_index_or old q d) w (inr u) (gaps q d w))
            ]
      ]

-- a row without columns changes nothing
pub gaps_empty : (rows : List (List ℕ)) (o row : List ℕ) (gaps : List Gap) → length row ≡ 0 → AreGaps rows o gaps → AreGaps (rows ++ row ∷ []) o gaps
gaps_empty rows o row gaps e old q d w =
    let none : (a : ℕ) → IsTrue (has row a) → ⊥ = λ a h. absurd (omega (arith, (at_place row a h).0, e)) in
    record {
      right =
          right_more rows o row q (slice_index_or gaps q d).last (slice_index_or gaps q d).last_row (old q d w).right (λ p a b h. absurd (none (slice_index o q) h.0));
      left =
          left_more rows o row q (slice_index_or gaps q d).first (slice_index_or gaps q d).first_row (old q d w).left (λ p a h. absurd (none (slice_index o q) h.0));
    }

gaps_start : (o : List ℕ) (gaps : List Gap) → ((q : ℕ) (d : Gap) → q < length o → (length o ≤ (slice_index_or gaps q d).last) × ((slice_index_or gaps q d).first ≡ 0)) → AreGaps [] o gaps
gaps_start o gaps all q d w =
    record {
      right = right_start o q (slice_index_or gaps q d).last (slice_index_or gaps q d).last_row (all q d (omega (arith, w))).0;
      left = subst (λ x. IsLeftEnd [] o q x (slice_index_or gaps q d).first_row) (sym (all q d (omega (arith, w))).1) (left_start o q (slice_index_or gaps q d).first_row);
    }

-- gaps over which no row was taken
pub fresh_gaps : (columns count c : ℕ) (fresh : Gap) (gaps : List Gap) → gaps ≡ replicate count fresh → fresh ≡ record { last = columns; last_row = 0; first = 0; first_row = 0 } → columns ≡ c → count ≡ c →
    (length gaps ≡ c) × ((o : List ℕ) → IsOrder c o → AreGaps [] o gaps)
fresh_gaps columns count c fresh gaps e begun all many = (
  omega (arith, ap (λ (l : List Gap). length l) e, length-replicate count fresh, many),
  λ o order. gaps_start o gaps (λ q d l.
      let n = order_length c o order in
      let is : slice_index_or gaps q d ≡ fresh = ap (λ (v : List Gap). slice_index_or v q d) e ∙ get_or-replicate count q fresh d (omega (arith, l, n, many)) in
      subst (λ (x : Gap). (length o ≤ x.last) × (x.first ≡ 0)) (sym is) (omega (arith, n, all, ap (λ (g : Gap). g.last) begun), ap (λ (g : Gap). g.first) begun)),
)

pub next_rows : (rows : List (List ℕ)) (k : ℕ) (row : List ℕ) → k < length rows → slice_get rows (k + 1 - 1) ≡ Some row → take (k + 1) rows ≡ take k rows ++ row ∷ []
next_rows rows k row l found =
    let e : get_or rows k [] ≡ row = ap (λ i. get_or rows i []) (omega arith) ∙ get_or_from_slice_get rows (k + 1 - 1) row [] found in
    take_more rows k [] l ∙ ap (λ r. take k rows ++ r ∷ []) e

pub next_keeps : (rows : List (List ℕ)) (n k : ℕ) (o row : List ℕ) → k < n → n ≤ length rows → All (Keeps o) (take n rows) → slice_get rows (k + 1 - 1) ≡ Some row → Keeps o row
next_keeps rows n k o row l u kept found =
    let e : get_or rows k [] ≡ row = ap (λ i. get_or rows i []) (omega arith) ∙ get_or_from_slice_get rows (k + 1 - 1) row [] found in
    subst (Keeps o) (get_or-take n rows k [] l ∙ e) (All-get_or (Keeps o) (take n rows) k [] (omega (arith, length-take-le n rows u, l)) kept)

module _ (rows : List (List ℕ)) (n k c : ℕ) (o row : List ℕ) (valid : IsValidOrder c (take n rows) o) (lt : k < n) (few : n ≤ length rows) (found : slice_get rows (k + 1 - 1) ≡ Some row) where
  -- one row more, over the gaps of its span
  pub gaps_next : (span : Option Span) (old new : List Gap) → MatchOption span (row ≡ []) (IsSpanInOrder o row) → (span ≡ None → new ≡ old)
      → IfSome span (λ s. (q : ℕ) (d : Gap) → s.first - 1 ≤ q → q < s.last - 1 → slice_index_or new q d ≡ covered (slice_index_or old q d) (s.first - 1) (s.last - 1) (k + 1))
      → IfSome span (λ s. (q : ℕ) (d : Gap) → (q < s.first - 1) ⊎ (s.last - 1 ≤ q) → slice_index_or new q d ≡ slice_index_or old q d)
      → AreGaps (take k rows) o old → AreGaps (take (k + 1) rows) o new
  gaps_next None old new empty same inside outside are =
      subst (λ rs. AreGaps rs o new) (sym (next_rows rows k row (omega (arith, lt, few)) found))
      (subst (AreGaps (take k rows ++ row ∷ []) o) (sym (same refl)) (gaps_empty (take k rows) o row old (ap length empty) are))
  gaps_next (Some s) old new span same inside outside are =
      let len : length (take k rows) ≡ k = length-take-le k rows (omega (arith, lt, few)) in
      subst (λ rs. AreGaps rs o new) (sym (next_rows rows k row (omega (arith, lt, few)) found))
      (gaps_more (take k rows) o row (s.first - 1) (s.last - 1) (next_keeps rows n k o row lt few valid.kept found) span.ends old new
      (λ q d a b. inside q d a b ∙ ap (λ i. covered (slice_index_or old q d) (s.first - 1) (s.last - 1) (i + 1)) (sym len))
      outside
      are)

-- a span lies within the gaps
pub span_within : (c : ℕ) (o row : List ℕ) (span : Option Span) → length o ≡ c → MatchOption span (row ≡ []) (IsSpanInOrder o row) → IfSome span (λ s. (1 ≤ s.first) × (s.first ≤ s.last) × (s.last ≤ c))
span_within c o row None e h = tt
span_within c o row (Some s) e h = (h.from_1, omega (arith, h.ends.rise, h.from_1, h.to_1), omega (arith, h.ends.inside, e))

-- the ones of one row more
pub ones_next : (rows : List (List ℕ)) (k : ℕ) (row : List ℕ) → k < length rows → slice_get rows (k + 1 - 1) ≡ Some row → sum_by length (take (k + 1) rows) ≡ sum_by length (take k rows) + length row
ones_next rows k row l found =
    ap (λ (rs : List (List ℕ)). sum_by length rs) (next_rows rows k row l found)
    ∙ sum_by-append length (take k rows) (row ∷ [])
    ∙ ap (λ n. sum_by length (take k rows) + n) (sum_by-cons length row [] ∙ omega arith)

-- the span of a row in one order with the positions
pub in_order : (n : ℕ) (o positions row : List ℕ) (r : Option Span) → IsOrder n o → ArePositions o positions → MatchOption r (row ≡ []) (IsSpan positions row)
    → IfSome r (λ span. (o : List ℕ) → IsOrder n o → ArePositions o positions → IsSpanInOrder o row span) → MatchOption r (row ≡ []) (IsSpanInOrder o row)
in_order n o positions row None order are least spans = least
in_order n o positions row (Some s) order are least spans = spans o order are

module _ (c : ℕ) (o positions : List ℕ) (order : IsOrder c o) (are : ArePositions o positions) where
  -- an order of the columns is one of as many as there are positions
  pub order_here : IsOrder (length positions) o
  order_here = subst (λ k. IsOrder k o) (sym (are.columns ∙ order_length c o order)) order

  -- each column of a row has a position
  pub row_here : (row : List ℕ) → Ascends c 0 row → IsWithin (length positions) row
  row_here row rising a h = let r = row_within c row rising a h in (r.0, omega (arith, r.1, are.columns, order_length c o order))

-- an order that is valid for all rows
pub valid_all : (c : ℕ) (rows : List (List ℕ)) (o : List ℕ) → IsValidOrder c rows o → IsValidOrder c (take (length rows) rows) o
valid_all c rows o valid = subst (λ rs. IsValidOrder c rs o) (sym (take_all (length rows) rows (omega arith))) valid
