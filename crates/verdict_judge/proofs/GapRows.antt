-- What the span of a row tells of the row, where the gaps are a tree's.
use Rattle.std.proofs.Common.{◌≡◌, ◌↔◌, ◌∙◌, ℕ, suc, ◌+◌, ◌-◌, ◌<◌, ◌≤◌, Bool, List, [], ◌∷◌, length, length-append, eqb, eqb-true, eq-eqb, IsTrue, refl, sym, ap, subst, arith}
use Rattle.column_order.specs.Orders.{IsOrder, Keeps}
use Rattle.pq_tree.specs.Outline.{Outline, leaves}
use Rattle.row_model.specs.Rows.{IsRow}
use Rattle.row_model.specs.Positions.{ArePositions, IsSpan, IsSpanInOrder}
use Rattle.row_model.specs.declared.lists.Span.{Span}
use Rattle.row_model.proofs.Ascending.{row_within, row_once}
use Rattle.row_model.proofs.PositionLemmas.{kept_by_span}
use Rattle.verdict_judge.specs.declared.gaps.LeafGap.TheVariants.{P}
use Rattle.verdict_judge.specs.declared.gaps.Gaps.{Gaps}
use Rattle.verdict_judge.specs.Gaps.{AreWithin, AreGaps, gaps}
use Rattle.verdict_judge.specs.YesTests.{AllKeep}
use Rattle.verdict_judge.proofs.GapsExact.{all_keep_exactly, all_gaps}
use Rattle.verdict_judge.proofs.GapTrees.{line, line_columns, line_gaps, gaps_in}
use Rattle.verdict_judge.proofs.GapLines.{Line, columns_of}

same_length : (xs : Line) → length (gaps_in xs) ≡ length (columns_of xs)
same_length [] = refl
same_length (x ∷ xs) = ap suc (same_length xs)

-- one gap more than leaves
gaps_length : (t : Outline) → length (all_gaps t) ≡ length (leaves t) + 1
gaps_length t =
    length-append (gaps (P 0) 1 t) (P 0 ∷ []) ∙
    ap (λ n. n + 1) (sym (ap length (line_gaps (P 0) 1 t)) ∙ same_length (line (P 0) 1 t) ∙ ap length (line_columns (P 0) 1 t))

module _ (g : Gaps) (t : Outline) (row : List ℕ) (are : AreGaps t g) (ascends : IsRow (length g.positions.items) row) (span : Span)
    (h : (o : List ℕ) → IsOrder (length g.positions.items) o → ArePositions o g.positions.items → IsSpanInOrder o row span) where
  in_order : IsSpanInOrder (leaves t) row span
  in_order = let p = are.proper in h (leaves t) p.1 are.positions

  pub span_bounds : (1 ≤ span.first) × (span.first ≤ span.last) × (span.last < length g.gaps.items)
  span_bounds =
      let s = in_order in
      let e = s.ends in
      let n : length g.gaps.items ≡ length (leaves t) + 1 = ap length are.gaps ∙ gaps_length t in
      (s.from_1, omega (arith, s.from_1, s.to_1, e.rise), omega (arith, n, s.to_1, e.inside))

  kept : IsSpan g.positions.items row span → (span.last - span.first + 1 ≡ length row) ↔ Keeps (leaves t) row
  kept least =
      let p = are.proper in
      let k = kept_by_span (length g.positions.items) (leaves t) g.positions.items row p.1 are.positions (row_within (length g.positions.items) row ascends) span least
      (row_once (length g.positions.items) row ascends) in
      (k.1, k.0)

  exact : AllKeep t row ↔ (Keeps (leaves t) row × AreWithin g.gaps.items span.first span.last)
  exact =
      let s = in_order in
      let a = all_keep_exactly (length g.positions.items) t row (span.first - 1) (span.last - 1) are.proper s.ends in
      let f : suc (span.first - 1) ≡ span.first = omega (arith, s.from_1) in
      let l : suc (span.last - 1) ≡ span.last = omega (arith, s.to_1) in
      subst (λ gs. AllKeep t row ↔ (Keeps (leaves t) row × AreWithin gs span.first span.last)) (sym are.gaps)
      (subst (λ n. AllKeep t row ↔ (Keeps (leaves t) row × AreWithin (all_gaps t) n span.last)) f
      (subst (λ n. AllKeep t row ↔ (Keeps (leaves t) row × AreWithin (all_gaps t) (suc (span.first - 1)) n)) l a))

  pub run_holds : (b : Bool) → IsSpan g.positions.items row span → (span.last - span.first + 1 ≡ length row) → IsTrue b ↔ AreWithin g.gaps.items span.first span.last → IsTrue b ↔ AllKeep t row
  run_holds b least e w =
      let x = exact in
      let k = kept least in
      (λ y. x.1 (k.0 e, w.0 y), λ a. let r = x.0 a in w.1 r.1)

  pub no_run : IsSpan g.positions.items row span → ((span.last - span.first + 1 ≡ length row) → ⊥) → IsTrue (eqb (span.last - span.first + 1) (length row)) ↔ AllKeep t row
  no_run least e =
      let x = exact in
      let k = kept least in
      (λ y. absurd (e (eqb-true (span.last - span.first + 1) (length row) y)), λ a. let r = x.0 a in eq-eqb (span.last - span.first + 1) (length row) (k.1 r.0))

-- the same of a row of which the span was sought in a copy of the positions
abbrev pub Spans : List ℕ → List ℕ → Span → Type 0
Spans ps row span = (o : List ℕ) → IsOrder (length ps) o → ArePositions o ps → IsSpanInOrder o row span
