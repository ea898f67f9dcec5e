-- Where one depth parts the gaps within a run from those at its ends, no node splits the run.
use Rattle.std.proofs.Common.{◌≡◌, ◌∙◌, ℕ, ◌+◌, ◌<◌, ◌≤◌, Bool, true, false, ◌&&◌, leb, List, IsTrue, IsFalse, refl, sym, inl, inr, arith}
use Rattle.std.proofs.lemmas.Bool.{cases_Bool, both_ways, or_from, and_parts, leb-true, false_from_ne_true}
use Rattle.pq_tree.specs.Outline.{Outline, Forest, leaf, p_node, q_node, no_tree, tree_and, leaves, leaves_of}
use Rattle.pq_tree.specs.Proper.{HasArities, HaveArities}
use Rattle.verdict_judge.specs.declared.gaps.LeafGap.{LeafGap}
use Rattle.verdict_judge.specs.declared.gaps.LeafGap.TheVariants.{P, Q}
use Rattle.verdict_judge.specs.Gaps.{LiesWithin}
use Rattle.pq_tree.specs.Nodes.{meets}
use Rattle.verdict_judge.specs.HoldsWalk.{misses, meeting, resumes, is_gapped, is_split, are_split}
use Rattle.verdict_judge.proofs.HoldsCases.{resumes_at, resumes_whole, gapped_none, gapped_part, gapped_whole}
use Rattle.verdict_judge.proofs.HoldsLists.{meets_left, meets_right}
use Rattle.verdict_judge.proofs.HoldsSplit.{split_leaf, split_p, split_q, split_none, split_and, meeting_head, meeting_tail}
use Rattle.verdict_judge.proofs.GapLines.{Line, Fit, last, fit_parts, None, IsRun, Amid, run_left, run_right, run_parts, amid_parts, amid_left, crossed, mixed_ends}
use Rattle.verdict_judge.proofs.GapTrees.{line, line_of, all_of, not_all, not_none, not_alls, not_nones, opens_of, opens, deep_after, deeps_after, last_all}
use Rattle.verdict_judge.proofs.GapWalk.{one_meeting}

-- where the row has columns of a tree and of later ones, it goes over the gap after the tree
goes_over : (row : List ℕ) (o : ℕ) (p : Bool) (g s : LeafGap) (d : ℕ) (t : Outline) (ts : Forest) → HaveArities ts → Fit row o p (line_of g s d (tree_and t ts)) → IsRun row (line_of g s d (tree_and t ts)) →
    IsTrue (meets row (leaves t)) → IsTrue (meets row (leaves_of ts)) → LiesWithin o s
goes_over row o p g s d t no_tree h f r m n = absurd (both_ways false refl n)
goes_over row o p g s d t (tree_and u us) h f r m n =
    let ts : Forest = tree_and u us in
    let none : None row (line_of s s d ts) → ⊥ = not_nones row s s d ts n in
    let fits = fit_parts row o p (line g d t) (line_of s s d ts) f in
    elim (run_parts row p (line g d t) (line_of s s d ts) r) [
      | inl k ↦ absurd (not_none row g d t m k.0)
      | inr k ↦ elim k [
        | inl a ↦ crossed row o (last row p (line g d t)) s (line_of s s d ts) a.0 fits.1 a.1 (opens_of s s d ts (omega arith) h) none
        | inr z ↦ absurd (none z)
      ]
    ]

two_meeting : (row : List ℕ) (o : ℕ) (p : Bool) (g s : LeafGap) (d : ℕ) (ts : Forest) → HaveArities ts → Fit row o p (line_of g s d ts) → IsRun row (line_of g s d ts) → 2 ≤ meeting row ts → LiesWithin o s
two_meeting row o p g s d no_tree h f r l = absurd (omega arith)
two_meeting row o p g s d (tree_and t ts) h f r l =
    elim (cases_Bool (meets row (leaves t))) [
      | inl m ↦ goes_over row o p g s d t ts h.1 f r m (one_meeting row ts (omega (arith, l, meeting_head row t ts m)))
      | inr n ↦
          let fits = fit_parts row o p (line g d t) (line_of s s d ts) f in
          two_meeting row o (last row p (line g d t)) s s d ts h.1 fits.1 (run_right row (line g d t) (line_of s s d ts) r) (omega (arith, l, meeting_tail row t ts n))
    ]

-- a tree of which the row has one column and misses another has a gap at which the row begins or ends
part_of : (row : List ℕ) (o : ℕ) (p : Bool) (g : LeafGap) (d : ℕ) (t : Outline) → Fit row o p (line g d t) → IsTrue (meets row (leaves t)) → IsTrue (misses row (leaves t)) → d ≤ o
part_of row o p g d t f m n = mixed_ends row o d p (line g d t) f (deep_after d g d t (omega arith)) (not_all row g d t n) (not_none row g d t m)

resumes_meets : (row : List ℕ) (ts : Forest) → IsTrue (resumes row ts) → IsTrue (meets row (leaves_of ts))
resumes_meets row no_tree r = r
resumes_meets row (tree_and t ts) r =
    elim (cases_Bool (misses row (leaves t))) [
      | inl n ↦
          elim (resumes_at row t ts n r) [
            | inl y ↦ meets_left row (leaves t) (leaves_of ts) y
            | inr y ↦ meets_right row (leaves t) (leaves_of ts) y
          ]
      | inr n ↦
          meets_right row (leaves t) (leaves_of ts)
          (resumes_meets row ts (sym (resumes_whole row t ts n) ∙ r))
    ]

-- children of a Q-node at depth k, after others of which the row has the last column
resumes_not : (row : List ℕ) (o k : ℕ) (p : Bool) (ts : Forest) → p ≡ true → HaveArities ts → Fit row o p (line_of (Q k) (Q k) (1 + k) ts) → Amid row (line_of (Q k) (Q k) (1 + k) ts) → IsTrue (resumes row ts) → ⊥
resumes_not row o k p no_tree e h f a r = both_ways false refl r
resumes_not row o k p (tree_and t ts) e h f a r =
    let xs : Line = line (Q k) (1 + k) t in
    let ys : Line = line_of (Q k) (Q k) (1 + k) ts in
    let fits = fit_parts row o p xs ys f in
    elim (cases_Bool (misses row (leaves t))) [
      | inl n ↦
          let m : IsTrue (meets row (leaves t)) = elim (amid_parts row xs ys a) [
            | inl z ↦ absurd (not_all row (Q k) (1 + k) t n z.0)
            | inr z ↦ elim (resumes_at row t ts n r) [ inl y ↦ y | inr y ↦ absurd (not_nones row (Q k) (Q k) (1 + k) ts y z) ]
          ] in
          let deep : 1 + k ≤ o = part_of row o p (Q k) (1 + k) t fits.0 m n in
          let high : o ≤ k = crossed row o p (Q k) xs e fits.0 (amid_left row xs ys a) (opens (Q k) (1 + k) t h.0) (not_none row (Q k) (1 + k) t m) in
          omega (arith, deep, high)
      | inr n ↦
          let c : IsTrue (resumes row ts) = sym (resumes_whole row t ts n) ∙ r in
          let all = all_of row (Q k) (1 + k) t n in
          elim (amid_parts row xs ys a) [
            | inl z ↦ resumes_not row o k (last row p xs) ts (last_all row p (Q k) (1 + k) t h.0 all) h.1 fits.1 z.1 c
            | inr z ↦ not_nones row (Q k) (Q k) (1 + k) ts (resumes_meets row ts c) z
          ]
    ]

-- children of a Q-node at depth k
gapped_not : (row : List ℕ) (o k : ℕ) (p : Bool) (g : LeafGap) (ts : Forest) → HaveArities ts → Fit row o p (line_of g (Q k) (1 + k) ts) → IsRun row (line_of g (Q k) (1 + k) ts) → IsTrue (is_gapped row ts) → ⊥
gapped_not row o k p g no_tree h f a r = both_ways false refl r
gapped_not row o k p g (tree_and t ts) h f a r =
    let xs : Line = line g (1 + k) t in
    let ys : Line = line_of (Q k) (Q k) (1 + k) ts in
    let fits = fit_parts row o p xs ys f in
    elim (cases_Bool (meets row (leaves t))) [
      | inl m ↦
          elim (cases_Bool (misses row (leaves t))) [
            | inl n ↦
                let c : IsTrue (meets row (leaves_of ts)) = sym (gapped_part row t ts m n) ∙ r in
                let deep : 1 + k ≤ o = part_of row o p g (1 + k) t fits.0 m n in
                let high : o ≤ k = goes_over row o p g (Q k) (1 + k) t ts h.1 f a m c in
                omega (arith, deep, high)
            | inr n ↦
                let c : IsTrue (resumes row ts) = sym (gapped_whole row t ts m n) ∙ r in
                elim (run_parts row p xs ys a) [
                  | inl z ↦ absurd (not_none row g (1 + k) t m z.0)
                  | inr z ↦ elim z [
                    | inl y ↦ resumes_not row o k (last row p xs) ts y.0 h.1 fits.1 y.1 c
                    | inr y ↦ absurd (not_nones row (Q k) (Q k) (1 + k) ts (resumes_meets row ts c) y)
                  ]
                ]
          ]
      | inr n ↦
          gapped_not row o k (last row p xs) (Q k) ts h.1 fits.1 (run_right row xs ys a)
          (sym (gapped_none row t ts n) ∙ r)
    ]

mutual
  pub unsplit : (row : List ℕ) (o : ℕ) (p : Bool) (g : LeafGap) (d : ℕ) (t : Outline) → HasArities t → Fit row o p (line g d t) → IsRun row (line g d t) → IsFalse (is_split row t)
  unsplit row o p g d (leaf a) h f r = split_leaf row a
  unsplit row o p g d (p_node ts) h f r =
      split_p row ts ∙
      or_from (are_split row ts) (leb 2 (meeting row ts) && misses row (leaves_of ts)) (unsplits row o p g (P d) (1 + d) ts h.1 f r)
      (false_from_ne_true (leb 2 (meeting row ts) && misses row (leaves_of ts)) (λ e.
      let two = and_parts (leb 2 (meeting row ts)) (misses row (leaves_of ts)) e in
      let l : 2 ≤ meeting row ts = leb-true 2 (meeting row ts) two.0 in
      let high : o < d = two_meeting row o p g (P d) (1 + d) ts h.1 f r l in
      let deep : d ≤ o = mixed_ends row o d p (line_of g (P d) (1 + d) ts) f (deeps_after d g (P d) (1 + d) ts (omega arith) (omega arith))
      (not_alls row g (P d) (1 + d) ts two.1) (not_nones row g (P d) (1 + d) ts (one_meeting row ts (omega (arith, l)))) in
      omega (arith, high, deep)))
  unsplit row o p g d (q_node ts) h f r =
      split_q row ts ∙
      or_from (are_split row ts) (is_gapped row ts) (unsplits row o p g (Q d) (1 + d) ts h.1 f r)
      (false_from_ne_true (is_gapped row ts) (λ e. gapped_not row o d p g ts h.1 f r e))

  unsplits : (row : List ℕ) (o : ℕ) (p : Bool) (g s : LeafGap) (d : ℕ) (ts : Forest) → HaveArities ts → Fit row o p (line_of g s d ts) → IsRun row (line_of g s d ts) → IsFalse (are_split row ts)
  unsplits row o p g s d no_tree h f r = split_none row
  unsplits row o p g s d (tree_and t ts) h f r =
      let fits = fit_parts row o p (line g d t) (line_of s s d ts) f in
      split_and row t ts ∙
      or_from (is_split row t) (are_split row ts) (unsplit row o p g d t h.0 fits.0 (run_left row (line g d t) (line_of s s d ts) r))
      (unsplits row o (last row p (line g d t)) s s d ts h.1 fits.1 (run_right row (line g d t) (line_of s s d ts) r))
