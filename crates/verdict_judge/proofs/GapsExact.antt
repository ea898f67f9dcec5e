-- Every frontier of a proper tree keeps a row exactly where its leaves do and the gaps within the row's span lie within those at its ends.
use Rattle.std.proofs.Common.{◌≡◌, ◌⊎◌, ◌↔◌, ◌∙◌, ℕ, zero, suc, ◌-◌, ◌<◌, ◌≤◌, false, List, [], ◌∷◌, ◌++◌, length, get_or, IsTrue, refl, sym, ap, subst, inl, inr, arith}
use Rattle.column_order.specs.Orders.{has, Keeps, AreEnds}
use Rattle.column_order.proofs.Lists.{has_head, has_tail}
use Rattle.pq_tree.specs.Outline.{Outline, leaves, IsFrontier}
use Rattle.pq_tree.specs.Proper.{IsProper}
use Rattle.pq_tree.proofs.Frontiers.{leaves_are_frontier}
use Rattle.verdict_judge.specs.declared.gaps.LeafGap.{LeafGap}
use Rattle.verdict_judge.specs.declared.gaps.LeafGap.TheVariants.{P}
use Rattle.verdict_judge.specs.Gaps.{depth, LiesWithin, AreWithin, gap_at, gaps}
use Rattle.pq_tree.specs.Nodes.{meets}
use Rattle.verdict_judge.proofs.HoldsLists.{meets_has}
use Rattle.verdict_judge.proofs.HoldsExact.{split_law}
use Rattle.verdict_judge.proofs.GapLines.{columns_of}
use Rattle.verdict_judge.proofs.GapTrees.{line, line_columns, line_gaps}
use Rattle.verdict_judge.proofs.GapWalk.{parts}
use Rattle.verdict_judge.proofs.GapSplit.{unsplit}
use Rattle.verdict_judge.proofs.GapPlaces.{gap_before, keeps_run, Parted, parted, parted_fits, lies_within_more}

has_at : (o : List ℕ) (i : ℕ) → i < length o → IsTrue (has o (get_or o i 0))
has_at [] i l = absurd (omega (arith, l))
has_at (x ∷ o) zero l = has_head x o
has_at (x ∷ o) (suc i) l = has_tail x (get_or o i 0) o (has_at o i (omega (arith, l)))

-- the gap at the end is that past the end
past_end : (gs : List LeafGap) (g : LeafGap) (i : ℕ) → get_or (gs ++ g ∷ []) i g ≡ get_or gs i g
past_end [] g zero = refl
past_end [] g (suc i) = refl
past_end (x ∷ gs) g zero = refl
past_end (x ∷ gs) g (suc i) = past_end gs g i

-- the gaps of a tree, with that at its end
abbrev pub all_gaps : Outline → List LeafGap
all_gaps t = gaps (P 0) 1 t ++ P 0 ∷ []

pub all_keep_exactly : (c : ℕ) (t : Outline) (row : List ℕ) (f l : ℕ) → IsProper c t → AreEnds (leaves t) row f l →
    ((o : List ℕ) → IsFrontier t o → Keeps o row) ↔ (Keeps (leaves t) row × AreWithin (all_gaps t) (suc f) (suc l))
all_keep_exactly c t row f l proper e = (there, back)
  where
    cols : columns_of (line (P 0) 1 t) ≡ leaves t
    cols = line_columns (P 0) 1 t

    at : (i : ℕ) → gap_before (line (P 0) 1 t) i ≡ gap_at (all_gaps t) i
    at i = ap (λ gs. get_or gs i (P 0)) (line_gaps (P 0) 1 t) ∙ sym (past_end (gaps (P 0) 1 t) (P 0) i)

    from : suc f - 1 ≡ f
    from = omega arith

    ends : AreEnds (columns_of (line (P 0) 1 t)) row f l
    ends = subst (λ x. AreEnds x row f l) (sym cols) e

    met : IsTrue (meets row (leaves t))
    met = meets_has row (leaves t) (get_or (leaves t) f 0) (has_at (leaves t) f (omega (arith, e.rise, e.inside))) e.has_first

    there : ((o : List ℕ) → IsFrontier t o → Keeps o row) → Keeps (leaves t) row × AreWithin (all_gaps t) (suc f) (suc l)
    there k =
        let kept : Keeps (leaves t) row = k (leaves t) (leaves_are_frontier t) in
        let law = split_law c t row proper in
        let r = parts row 0 (P 0) t proper.0 (omega arith) met (law.0 k) in
        let d : Parted r.0 f l (line (P 0) 1 t) = parted row r.0 f l (line (P 0) 1 t) (subst (λ x. Keeps x row) (sym cols) kept) ends r.2 in
        let begins : depth (gap_at (all_gaps t) f) ≤ r.0 = subst (λ g. depth g ≤ r.0) (at f) d.begins in
        let stops : depth (gap_at (all_gaps t) (suc l)) ≤ r.0 = subst (λ g. depth g ≤ r.0) (at (suc l)) d.ends in (
          kept,
          λ i a b.
              let w : LiesWithin r.0 (gap_at (all_gaps t) i) = subst (LiesWithin r.0) (at i) (d.within i (omega (arith, a)) (omega (arith, b))) in (
                subst (λ j. LiesWithin (depth (gap_at (all_gaps t) j)) (gap_at (all_gaps t) i)) (sym from) (lies_within_more r.0 (depth (gap_at (all_gaps t) f)) (gap_at (all_gaps t) i) begins w),
                lies_within_more r.0 (depth (gap_at (all_gaps t) (suc l))) (gap_at (all_gaps t) i) stops w,
              ),
        )

    bounded : (outer : ℕ) → Keeps (leaves t) row → depth (gap_at (all_gaps t) f) ≤ outer → depth (gap_at (all_gaps t) (suc l)) ≤ outer → ((i : ℕ) → f < i → i ≤ l → LiesWithin outer (gap_at (all_gaps t) i)) →
        (o : List ℕ) → IsFrontier t o → Keeps o row
    bounded outer k a b w =
        let kept : Keeps (columns_of (line (P 0) 1 t)) row = subst (λ x. Keeps x row) (sym cols) k in
        let d : Parted outer f l (line (P 0) 1 t) = record {
          begins = subst (λ g. depth g ≤ outer) (sym (at f)) a;
          ends = subst (λ g. depth g ≤ outer) (sym (at (suc l))) b;
          within = λ i m n. subst (LiesWithin outer) (sym (at i)) (w i m n);
        } in
        let law = split_law c t row proper in
        law.1 (unsplit row outer false (P 0) 1 t proper.0 (parted_fits row outer f l (line (P 0) 1 t) kept ends d) (keeps_run row (line (P 0) 1 t) kept))

    le_or : (i j : ℕ) → (i ≤ j) ⊎ (j ≤ i)
    le_or i j = grind arith

    back : Keeps (leaves t) row × AreWithin (all_gaps t) (suc f) (suc l) → (o : List ℕ) → IsFrontier t o → Keeps o row
    back h =
        let a = depth (gap_at (all_gaps t) f) in
        let b = depth (gap_at (all_gaps t) (suc l)) in
        elim (le_or a b) [
          | inl m ↦ bounded b h.0 m (omega arith) (λ i x y. let r = h.1 i (omega (arith, x)) (omega (arith, y)) in r.1)
          | inr m ↦ bounded a h.0 (omega arith) m (λ i x y. let r = h.1 i (omega (arith, x)) (omega (arith, y)) in subst (λ j. LiesWithin (depth (gap_at (all_gaps t) j)) (gap_at (all_gaps t) i)) from r.0)
        ]
