-- The gaps within a span, cut out of all gaps.
use Rattle.std.proofs.Common.{◌≡◌, ◌⊎◌, ◌↔◌, ◌∙◌, ℕ, ◌+◌, ◌-◌, ◌<◌, ◌≤◌, Bool, List, length, max, take, drop, sym, subst, inl, inr, arith}
use Rattle.std.specs.Prelude.{IsTrue, EachIndex}
use Rattle.std.proofs.lemmas.List.{get_or-take, get_or-drop, length-drop, length-take-le}
use Rattle.verdict_judge.specs.declared.gaps.LeafGap.{LeafGap}
use Rattle.verdict_judge.specs.declared.gaps.LeafGap.TheVariants.{P}
use Rattle.verdict_judge.specs.Gaps.{depth, LiesWithin, IsWithinBoth, AreWithin, gap_at}
use Rattle.verdict_judge.proofs.GapPlaces.{lies_within_more}

max_is : (a b : ℕ) → ((max a b ≡ a) × (b ≤ a)) ⊎ ((max a b ≡ b) × (a ≤ b))
max_is a b = grind arith

both_lie : (a b o : ℕ) (g : LeafGap) → o ≡ max a b → LiesWithin o g → LiesWithin a g × LiesWithin b g
both_lie a b o g e w = (lies_within_more o a g (omega (arith, e)) w, lies_within_more o b g (omega (arith, e)) w)

max_lies : (a b o : ℕ) (g : LeafGap) → o ≡ max a b → LiesWithin a g × LiesWithin b g → LiesWithin o g
max_lies a b o g e w = elim (max_is a b) [ inl m ↦ subst (λ n. LiesWithin n g) (sym (e ∙ m.0)) w.0 | inr m ↦ subst (λ n. LiesWithin n g) (sym (e ∙ m.0)) w.1 ]

-- the gaps from f to before l, of which o is the greater depth of those around them
module _ (gs : List LeafGap) (f l a b o : ℕ) (n : (1 ≤ f) × (f ≤ l) × (l < length gs)) (e : o ≡ max a b) (p : a ≡ depth (gap_at gs (f - 1))) (q : b ≡ depth (gap_at gs l)) where
  size : length (take (l - f) (drop f gs)) ≡ l - f
  size = length-take-le (l - f) (drop f gs) (omega (arith, length-drop f gs, n.2))

  at : (i : ℕ) → i < l - f → gap_at (take (l - f) (drop f gs)) i ≡ gap_at gs (f + i)
  at i x = get_or-take (l - f) (drop f gs) i (P 0) x ∙ get_or-drop f gs i (P 0)

  cut : (i : ℕ) → i < l - f → IsWithinBoth gs f l (f + i) → LiesWithin o (gap_at (take (l - f) (drop f gs)) i)
  cut i s z =
      subst (LiesWithin o) (sym (at i s))
      (max_lies a b o (gap_at gs (f + i)) e (subst (λ d. LiesWithin d (gap_at gs (f + i))) (sym p) z.0, subst (λ d. LiesWithin d (gap_at gs (f + i))) (sym q) z.1))

  -- all of them lie within both
  pub within_cut : (r : Bool) → IsTrue r ↔ EachIndex (take (l - f) (drop f gs)) (λ i. LiesWithin o (gap_at (take (l - f) (drop f gs)) i)) → IsTrue r ↔ AreWithin gs f l
  within_cut r h = (
    λ t i x y.
        let w : LiesWithin o (gap_at (take (l - f) (drop f gs)) (i - f)) = h.0 t (i - f) (omega (arith, size, x, y)) in
        let s : f + (i - f) ≡ i = omega (arith, x) in
        let v : LiesWithin o (gap_at gs i) = subst (λ j. LiesWithin o (gap_at gs j)) s (subst (LiesWithin o) (at (i - f) (omega (arith, x, y))) w) in
        let z = both_lie a b o (gap_at gs i) e v in
        (subst (λ d. LiesWithin d (gap_at gs i)) p z.0, subst (λ d. LiesWithin d (gap_at gs i)) q z.1),
    λ t. h.1 (λ i x.
        let s : i < l - f = omega (arith, size, x) in
        cut i s (t (f + i) (omega arith) (omega (arith, s)))),
  )

  -- of those before which all lie within both, each one is looked at
  pub looks_cut : (s m : ℕ) → ((k : ℕ) → k < length (take (l - f) (drop f gs)) → ((i : ℕ) → i < k → LiesWithin o (gap_at (take (l - f) (drop f gs)) i)) → s + (k + 1) ≤ m) →
      (k : ℕ) → f ≤ k → k < l → ((i : ℕ) → f ≤ i → i < k → IsWithinBoth gs f l i) → s + (k + 1 - f) ≤ m
  looks_cut s m h k x y w =
      let many : s + (k - f + 1) ≤ m = h (k - f) (omega (arith, size, x, y)) (λ i u. cut i (omega (arith, u, y)) (w (f + i) (omega arith) (omega (arith, u, x)))) in
      omega (arith, many, x)
