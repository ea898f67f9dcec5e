-- No node of a tree splits a run exactly where one depth parts the gaps within the run from those at its ends.
use Rattle.std.proofs.Common.{◌≡◌, ◌∙◌, ℕ, ◌+◌, ◌<◌, ◌≤◌, Bool, true, false, ◌&&◌, leb, List, ◌++◌, IsTrue, IsFalse, refl, sym, subst, inl, inr, arith}
use Rattle.std.proofs.lemmas.Bool.{cases_Bool, both_ways, or_parts, and_cases, leb-false}
use Rattle.column_order.specs.Orders.{has}
use Rattle.pq_tree.specs.Outline.{Outline, Forest, leaf, p_node, q_node, no_tree, tree_and, leaves, leaves_of}
use Rattle.pq_tree.specs.Proper.{HasArities, HaveArities}
use Rattle.verdict_judge.specs.declared.gaps.LeafGap.{LeafGap}
use Rattle.verdict_judge.specs.declared.gaps.LeafGap.TheVariants.{P, Q}
use Rattle.verdict_judge.specs.Gaps.{depth, LiesWithin}
use Rattle.pq_tree.specs.Nodes.{meets}
use Rattle.verdict_judge.specs.HoldsWalk.{misses, meeting, resumes, is_gapped, is_split, are_split}
use Rattle.verdict_judge.proofs.HoldsCases.{resumes_none, resumes_whole, gapped_none, gapped_part, gapped_whole}
use Rattle.verdict_judge.proofs.HoldsLists.{meets-append, none_append}
use Rattle.verdict_judge.proofs.HoldsSplit.{split_p, split_q, split_and, meeting_head, meeting_tail}
use Rattle.verdict_judge.proofs.HoldsStretch.{no_meeting, meets_rest}
use Rattle.verdict_judge.proofs.GapLines.{Line, Joins, Fit, last, fit_join, None, none_fits, none_last, ended_fits}
use Rattle.verdict_judge.proofs.GapTrees.{line, line_of, all_of, none_of, alls_of, nones_of, opens_of, last_all, all_fits, alls_fit}

-- a depth, of at least k, that parts the gaps
abbrev pub Parts : List ℕ → ℕ → Line → Type 0
Parts row k xs = (o : ℕ) × (k ≤ o) × Fit row o false xs

-- trees of which the row has no column, after others
rest_fits : (row : List ℕ) (o : ℕ) (p : Bool) (s : LeafGap) (d : ℕ) (ts : Forest) → HaveArities ts → depth s ≤ o → None row (line_of s s d ts) → Fit row o p (line_of s s d ts)
rest_fits row o p s d no_tree h l n = tt
rest_fits row o p s d (tree_and t ts) h l n =
    ended_fits row o p s (line_of s s d (tree_and t ts)) l (opens_of s s d (tree_and t ts) (omega arith) h) n

first_parts : (row : List ℕ) (k : ℕ) (g s : LeafGap) (d : ℕ) (t : Outline) (ts : Forest) → HaveArities ts → depth s ≤ k → Parts row k (line g d t) → IsFalse (meets row (leaves_of ts)) →
    Parts row k (line_of g s d (tree_and t ts))
first_parts row k g s d t ts h l f n = (
  f.0,
  f.1,
  fit_join row f.0 false (line g d t) (line_of s s d ts) f.2
      (rest_fits row f.0 (last row false (line g d t)) s d ts h (omega (arith, l, f.1)) (nones_of row s s d ts n)),
)

later_parts : (row : List ℕ) (k : ℕ) (g s : LeafGap) (d : ℕ) (t : Outline) (ts : Forest) → IsFalse (meets row (leaves t)) → Parts row k (line_of s s d ts) → Parts row k (line_of g s d (tree_and t ts))
later_parts row k g s d t ts n f =
    let none = none_of row g d t n in (
      f.0,
      f.1,
      fit_join row f.0 false (line g d t) (line_of s s d ts) (none_fits row f.0 (line g d t) none)
          (subst (λ b. Fit row f.0 b (line_of s s d ts)) (sym (none_last row (line g d t) none)) f.2),
    )

-- trees that the row has, and then trees that it has not
front_fits : (row : List ℕ) (o d : ℕ) (s : LeafGap) (ts : Forest) → HaveArities ts → o < d → depth s ≤ o → LiesWithin o s → IsFalse (resumes row ts) → Fit row o true (line_of s s d ts)
front_fits row o d s no_tree h l m w r = tt
front_fits row o d s (tree_and t ts) h l m w r =
    elim (cases_Bool (misses row (leaves t))) [
      | inl n ↦
          let e = resumes_none row t ts n r in
          rest_fits row o true s d (tree_and t ts) h m (nones_of row s s d (tree_and t ts) (none_append row (leaves t) (leaves_of ts) e.0 e.1))
      | inr n ↦
          let k : IsFalse (resumes row ts) = sym (resumes_whole row t ts n) ∙ r in
          let all = all_of row s d t n in
          fit_join row o true (line s d t) (line_of s s d ts) (all_fits row o true s d t h.0 l w all)
          (subst (λ b. Fit row o b (line_of s s d ts)) (sym (last_all row true s d t h.0 all)) (front_fits row o d s ts h.1 l m w k))
    ]

-- where no node splits the row, a depth parts the gaps
mutual
  pub parts : (row : List ℕ) (k : ℕ) (g : LeafGap) (t : Outline) → HasArities t → depth g ≤ k → IsTrue (meets row (leaves t)) → IsFalse (is_split row t) → Parts row k (line g (1 + k) t)
  parts row k g (leaf a) h l m s = (k, omega arith, (begun k (has row a) g l, tt))
    where
      begun : (o : ℕ) (b : Bool) (g : LeafGap) → depth g ≤ o → Joins o false b g
      begun o true g h = h
      begun o false g h = tt
  parts row k g (p_node ts) h l m s =
      let e = or_parts (are_split row ts) (leb 2 (meeting row ts) && misses row (leaves_of ts)) (sym (split_p row ts) ∙ s) in
      elim (and_cases (leb 2 (meeting row ts)) (misses row (leaves_of ts)) e.1) [
        | inl few ↦
            let r = alone row (1 + k) g (P (1 + k)) ts h.1 (omega (arith, l)) (omega arith) (leb-false 2 (meeting row ts) few) m e.0 in
            (r.0, omega (arith, r.1), r.2)
        | inr all ↦ (
          k,
          omega arith,
          alls_fit row k false g (P (1 + k)) (1 + (1 + k)) ts h.1 (omega arith) (omega arith) l (alls_of row g (P (1 + k)) (1 + (1 + k)) ts all),
        )
      ]
  parts row k g (q_node ts) h l m s =
      let e = or_parts (are_split row ts) (is_gapped row ts) (sym (split_q row ts) ∙ s) in
      let r = in_line row (1 + k) g ts h.1 (omega (arith, l)) e.1 m e.0 in
      (r.0, omega (arith, r.1), r.2)

  alone : (row : List ℕ) (k : ℕ) (g s : LeafGap) (ts : Forest) → HaveArities ts → depth g ≤ k → depth s ≤ k → meeting row ts < 2 → IsTrue (meets row (leaves_of ts)) → IsFalse (are_split row ts) →
      Parts row k (line_of g s (1 + k) ts)
  alone row k g s no_tree h l n few m u = absurd (both_ways false refl m)
  alone row k g s (tree_and t ts) h l n few m u =
      let e = or_parts (is_split row t) (are_split row ts) (sym (split_and row t ts) ∙ u) in
      elim (cases_Bool (meets row (leaves t))) [
        | inl y ↦ first_parts row k g s (1 + k) t ts h.1 n (parts row k g t h.0 l y e.0) (no_meeting row ts (omega (arith, meeting_head row t ts y)))
        | inr y ↦
            later_parts row k g s (1 + k) t ts y
            (alone row k s s ts h.1 n n (omega (arith, meeting_tail row t ts y)) (meets_rest row (leaves t) (leaves_of ts) y m) e.1)
      ]

  in_line : (row : List ℕ) (k : ℕ) (g : LeafGap) (ts : Forest) → HaveArities ts → depth g ≤ k → IsFalse (is_gapped row ts) → IsTrue (meets row (leaves_of ts)) → IsFalse (are_split row ts) →
      Parts row k (line_of g (Q k) (1 + k) ts)
  in_line row k g no_tree h l c m u = absurd (both_ways false refl m)
  in_line row k g (tree_and t ts) h l c m u =
      let e = or_parts (is_split row t) (are_split row ts) (sym (split_and row t ts) ∙ u) in
      elim (cases_Bool (meets row (leaves t))) [
        | inl y ↦
            elim (cases_Bool (misses row (leaves t))) [
              | inl n ↦
                  first_parts row k g (Q k) (1 + k) t ts h.1 (omega arith) (parts row k g t h.0 l y e.0)
                  (sym (gapped_part row t ts y n) ∙ c)
              | inr n ↦
                  let all = all_of row g (1 + k) t n in (
                    k,
                    omega arith,
                    fit_join row k false (line g (1 + k) t) (line_of (Q k) (Q k) (1 + k) ts) (all_fits row k false g (1 + k) t h.0 (omega arith) l all)
                        (subst (λ z. Fit row k z (line_of (Q k) (Q k) (1 + k) ts)) (sym (last_all row false g (1 + k) t h.0 all))
                        (front_fits row k (1 + k) (Q k) ts h.1 (omega arith) (omega arith) (omega arith)
                        (sym (gapped_whole row t ts y n) ∙ c))),
                  )
            ]
        | inr y ↦
            let b : IsFalse (is_gapped row ts) = sym (gapped_none row t ts y) ∙ c in
            later_parts row k g (Q k) (1 + k) t ts y (in_line row k (Q k) ts h.1 (omega arith) b (meets_rest row (leaves t) (leaves_of ts) y m) e.1)
      ]

none_meets : (row xs ys : List ℕ) → IsFalse (meets row (xs ++ ys)) → IsFalse (meets row xs) × IsFalse (meets row ys)
none_meets row xs ys h = or_parts (meets row xs) (meets row ys) (sym (meets-append row xs ys) ∙ h)

pub one_meeting : (row : List ℕ) (ts : Forest) → 1 ≤ meeting row ts → IsTrue (meets row (leaves_of ts))
one_meeting row ts l = elim (cases_Bool (meets row (leaves_of ts))) [ inl k ↦ k | inr k ↦ absurd (omega (arith, none_meeting row ts k)) ]
  where
    none_meeting : (row : List ℕ) (ts : Forest) → IsFalse (meets row (leaves_of ts)) → meeting row ts ≡ 0
    none_meeting row no_tree h = refl
    none_meeting row (tree_and t ts) h = let r = none_meets row (leaves t) (leaves_of ts) h in meeting_tail row t ts r.0 ∙ none_meeting row ts r.1
