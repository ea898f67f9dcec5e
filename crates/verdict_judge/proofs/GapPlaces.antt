-- The gaps before each position of a line.
use Rattle.std.proofs.Common.{◌≡◌, ◌⊎◌, ℕ, zero, suc, ◌<◌, ◌≤◌, Bool, true, false, List, [], ◌∷◌, length, get_or, IsTrue, IsFalse, refl, sym, subst, inl, inr, arith}
use Rattle.std.proofs.lemmas.Bool.{cases_Bool, both_ways, false_from_ne_true}
use Rattle.column_order.specs.Orders.{has, Keeps, AreEnds}
use Rattle.verdict_judge.specs.declared.gaps.LeafGap.{LeafGap}
use Rattle.verdict_judge.specs.declared.gaps.LeafGap.TheVariants.{P, Q}
use Rattle.verdict_judge.specs.Gaps.{depth, LiesWithin}
use Rattle.verdict_judge.proofs.GapLines.{Line, columns_of, Joins, Fit, None, Amid, IsRun}
use Rattle.verdict_judge.proofs.GapTrees.{gaps_in}

none_from : (row : List ℕ) (xs : Line) → ((k : ℕ) → k < length (columns_of xs) → IsFalse (has row (get_or (columns_of xs) k 0))) → None row xs
none_from row [] h = tt
none_from row (x ∷ xs) h = (h 0 (omega arith), none_from row xs (λ k l. h (suc k) (omega (arith, l))))

amid_from : (row : List ℕ) (xs : Line) → ((j k : ℕ) → j < k → k < length (columns_of xs) → IsTrue (has row (get_or (columns_of xs) k 0)) → IsTrue (has row (get_or (columns_of xs) j 0))) → Amid row xs
amid_from row [] h = tt
amid_from row (x ∷ xs) h =
    elim (cases_Bool (has row x.0)) [
      | inl e ↦ inl (e, amid_from row xs (λ j k l m t. h (suc j) (suc k) (omega (arith, l)) (omega (arith, m)) t))
      | inr e ↦ inr (e, none_from row xs (λ k l. false_from_ne_true (has row (get_or (columns_of xs) k 0)) (λ t. both_ways (has row x.0) e (h 0 (suc k) (omega arith) (omega (arith, l)) t))))
    ]

-- a line that keeps the row has its columns as a run
pub keeps_run : (row : List ℕ) (xs : Line) → Keeps (columns_of xs) row → IsRun row xs
keeps_run row [] h = tt
keeps_run row (x ∷ xs) h =
    elim (cases_Bool (has row x.0)) [
      | inl e ↦ inl (e, amid_from row xs (λ j k l m t. h 0 (suc j) (suc k) (omega arith) (omega (arith, l)) (omega (arith, m)) e t))
      | inr e ↦ inr (e, keeps_run row xs (λ i j k l m n s t. h (suc i) (suc j) (suc k) (omega (arith, l)) (omega (arith, m)) (omega (arith, n)) s t))
    ]

-- whether the row has the column before a position
abbrev pub before : List ℕ → Bool → List ℕ → ℕ → Bool
before row p o zero = p
before row p o (suc i) = has row (get_or o i 0)

abbrev pub JoinsAt : List ℕ → ℕ → Bool → Line → ℕ → Type 0
JoinsAt row o p xs i = Joins o (before row p (columns_of xs) i) (has row (get_or (columns_of xs) i 0)) (get_or (gaps_in xs) i (P 0))

pub fit_at : (row : List ℕ) (o : ℕ) (p : Bool) (xs : Line) → Fit row o p xs → (i : ℕ) → i < length (columns_of xs) → JoinsAt row o p xs i
fit_at row o p [] f i l = absurd (omega (arith, l))
fit_at row o p (x ∷ xs) f zero l = f.0
fit_at row o p (x ∷ xs) f (suc zero) l = fit_at row o (has row x.0) xs f.1 zero (omega (arith, l))
fit_at row o p (x ∷ xs) f (suc (suc i)) l = fit_at row o (has row x.0) xs f.1 (suc i) (omega (arith, l))

pub fit_from : (row : List ℕ) (o : ℕ) (p : Bool) (xs : Line) → ((i : ℕ) → i < length (columns_of xs) → JoinsAt row o p xs i) → Fit row o p xs
fit_from row o p [] h = tt
fit_from row o p (x ∷ xs) h = (h 0 (omega arith), fit_from row o (has row x.0) xs (shifted row o p x xs h))
  where
    shifted : (row : List ℕ) (o : ℕ) (p : Bool) (x : ℕ × LeafGap) (xs : Line) → ((i : ℕ) → i < length (columns_of (x ∷ xs)) → JoinsAt row o p (x ∷ xs) i) → (i : ℕ) → i < length (columns_of xs) → JoinsAt row o (has row x.0) xs i
    shifted row o p x xs h zero l = h (suc zero) (omega (arith, l))
    shifted row o p x xs h (suc i) l = h (suc (suc i)) (omega (arith, l))

-- whether the row has the column at a position, where it keeps the order, or where it is not between the ends
pub between : (o row : List ℕ) (f l : ℕ) → Keeps o row → AreEnds o row f l → (i : ℕ) → f ≤ i → i ≤ l → IsTrue (has row (get_or o i 0))
between o row f l k e i m n =
    elim (split f i m) [
      | inl a ↦ elim (split i l n) [
        | inl b ↦ k f i l a b e.inside e.has_first e.has_last
        | inr b ↦ subst (λ x. IsTrue (has row (get_or o x 0))) (sym b) e.has_last
      ]
      | inr a ↦ subst (λ x. IsTrue (has row (get_or o x 0))) a e.has_first
    ]
  where
    split : (i j : ℕ) → i ≤ j → (i < j) ⊎ (i ≡ j)
    split i j h = grind arith

pub outside : (o row : List ℕ) (f l : ℕ) → AreEnds o row f l → (i : ℕ) → i < length o → (i < f) ⊎ (l < i) → IsFalse (has row (get_or o i 0))
outside o row f l e i m h = false_from_ne_true (has row (get_or o i 0)) (λ t. let r = e.whole i m t in elim h [ inl a ↦ omega (arith, a, r.0) | inr a ↦ omega (arith, a, r.1) ])

joins_none : (o : ℕ) (p b : Bool) (g : LeafGap) → IsFalse p → IsFalse b → Joins o p b g
joins_none o p b g h k = subst (λ x. Joins o x b g) (sym h) (subst (λ y. Joins o false y g) (sym k) tt)

joins_both : (o : ℕ) (p b : Bool) (g : LeafGap) → IsTrue p → IsTrue b → LiesWithin o g → Joins o p b g
joins_both o p b g h k w = subst (λ x. Joins o x b g) (sym h) (subst (λ y. Joins o true y g) (sym k) w)

joins_begin : (o : ℕ) (p b : Bool) (g : LeafGap) → IsFalse p → IsTrue b → depth g ≤ o → Joins o p b g
joins_begin o p b g h k w = subst (λ x. Joins o x b g) (sym h) (subst (λ y. Joins o false y g) (sym k) w)

joins_end : (o : ℕ) (p b : Bool) (g : LeafGap) → IsTrue p → IsFalse b → depth g ≤ o → Joins o p b g
joins_end o p b g h k w = subst (λ x. Joins o x b g) (sym h) (subst (λ y. Joins o true y g) (sym k) w)

both_joins : (o : ℕ) (p b : Bool) (g : LeafGap) → IsTrue p → IsTrue b → Joins o p b g → LiesWithin o g
both_joins o p b g h k w = subst (λ y. Joins o true y g) k (subst (λ x. Joins o x b g) h w)

begin_joins : (o : ℕ) (p b : Bool) (g : LeafGap) → IsFalse p → IsTrue b → Joins o p b g → depth g ≤ o
begin_joins o p b g h k w = subst (λ y. Joins o false y g) k (subst (λ x. Joins o x b g) h w)

end_joins : (o : ℕ) (p b : Bool) (g : LeafGap) → IsTrue p → IsFalse b → Joins o p b g → depth g ≤ o
end_joins o p b g h k w = subst (λ y. Joins o true y g) k (subst (λ x. Joins o x b g) h w)

-- the gap before position i, where the last one stands at the end
abbrev pub gap_before : Line → ℕ → LeafGap
gap_before xs i = get_or (gaps_in xs) i (P 0)

-- each gap within the span lies within o, and the two at its ends lie at o or above
pub record Parted (o f l : ℕ) (xs : Line) : Type 0 where
  pub begins : depth (gap_before xs f) ≤ o
  pub ends : depth (gap_before xs (suc l)) ≤ o
  pub within : (i : ℕ) → f < i → i ≤ l → LiesWithin o (gap_before xs i)

gap_past : (xs : Line) (i : ℕ) → length (columns_of xs) ≤ i → gap_before xs i ≡ P 0
gap_past [] i l = past i
  where
    past : (i : ℕ) → get_or [] i (P 0) ≡ P 0
    past i = refl
gap_past (x ∷ xs) zero l = absurd (omega (arith, l))
gap_past (x ∷ xs) (suc i) l = gap_past xs i (omega (arith, l))

pub parted : (row : List ℕ) (o f l : ℕ) (xs : Line) → Keeps (columns_of xs) row → AreEnds (columns_of xs) row f l → Fit row o false xs → Parted o f l xs
parted row o f l xs k e t =
    record {
      begins = first f refl;
      ends = elim (le_or (suc l) (length (columns_of xs))) [
        | inl a ↦ end_joins o (has row (get_or (columns_of xs) l 0)) (has row (get_or (columns_of xs) (suc l) 0)) (gap_before xs (suc l)) e.has_last
            (outside (columns_of xs) row f l e (suc l) a (inr (omega arith))) (fit_at row o false xs t (suc l) a)
        | inr a ↦ subst (λ g. depth g ≤ o) (sym (gap_past xs (suc l) a)) (omega arith)
      ];
      within = inner;
    }
  where
    le_or : (i j : ℕ) → (i < j) ⊎ (j ≤ i)
    le_or i j = grind arith

    first : (i : ℕ) → i ≡ f → depth (gap_before xs i) ≤ o
    first zero q = begin_joins o false (has row (get_or (columns_of xs) 0 0)) (gap_before xs 0) refl (subst (λ x. IsTrue (has row (get_or (columns_of xs) x 0))) (sym q) e.has_first)
        (fit_at row o false xs t 0 (omega (arith, q, e.rise, e.inside)))
    first (suc i) q =
        begin_joins o (has row (get_or (columns_of xs) i 0)) (has row (get_or (columns_of xs) (suc i) 0)) (gap_before xs (suc i))
        (outside (columns_of xs) row f l e i (omega (arith, q, e.rise, e.inside)) (inl (omega (arith, q))))
        (subst (λ x. IsTrue (has row (get_or (columns_of xs) x 0))) (sym q) e.has_first)
        (fit_at row o false xs t (suc i) (omega (arith, q, e.rise, e.inside)))

    inner : (i : ℕ) → f < i → i ≤ l → LiesWithin o (gap_before xs i)
    inner zero a b = absurd (omega (arith, a))
    inner (suc i) a b =
        both_joins o (has row (get_or (columns_of xs) i 0)) (has row (get_or (columns_of xs) (suc i) 0)) (gap_before xs (suc i))
        (between (columns_of xs) row f l k e i (omega (arith, a)) (omega (arith, b)))
        (between (columns_of xs) row f l k e (suc i) (omega (arith, a)) b)
        (fit_at row o false xs t (suc i) (omega (arith, b, e.inside)))

pub parted_fits : (row : List ℕ) (o f l : ℕ) (xs : Line) → Keeps (columns_of xs) row → AreEnds (columns_of xs) row f l → Parted o f l xs → Fit row o false xs
parted_fits row o f l xs k e t = fit_from row o false xs at
  where
    cut : (i j : ℕ) → (i < j) ⊎ (i ≡ j) ⊎ (j < i)
    cut i j = grind arith

    here : (i : ℕ) → i < length (columns_of xs) → f ≤ i → i ≤ l → IsTrue (has row (get_or (columns_of xs) i 0))
    here i m a b = between (columns_of xs) row f l k e i a b

    there : (i : ℕ) → i < length (columns_of xs) → (i < f) ⊎ (l < i) → IsFalse (has row (get_or (columns_of xs) i 0))
    there i m h = outside (columns_of xs) row f l e i m h

    at : (i : ℕ) → i < length (columns_of xs) → JoinsAt row o false xs i
    at zero m = elim (cut zero f) [
      | inl a ↦ joins_none o false (has row (get_or (columns_of xs) 0 0)) (gap_before xs 0) refl (there 0 m (inl a))
      | inr h ↦ elim h [
        | inl a ↦ joins_begin o false (has row (get_or (columns_of xs) 0 0)) (gap_before xs 0) refl (here 0 m (omega (arith, a)) (omega arith)) (subst (λ x. depth (gap_before xs x) ≤ o) (sym a) t.begins)
        | inr a ↦ absurd (omega (arith, a))
      ]
    ]
    at (suc i) m =
        let p = has row (get_or (columns_of xs) i 0) in
        let b = has row (get_or (columns_of xs) (suc i) 0) in
        let g = gap_before xs (suc i) in
        elim (cut (suc i) f) [
          | inl a ↦ joins_none o p b g (there i (omega (arith, m)) (inl (omega (arith, a)))) (there (suc i) m (inl a))
          | inr h ↦ elim h [
            | inl a ↦ joins_begin o p b g (there i (omega (arith, m)) (inl (omega (arith, a)))) (here (suc i) m (omega (arith, a)) (omega (arith, a, e.rise))) (subst (λ x. depth (gap_before xs x) ≤ o) (sym a) t.begins)
            | inr a ↦ elim (cut i l) [
              | inl c ↦ joins_both o p b g (here i (omega (arith, m)) (omega (arith, a)) (omega (arith, c))) (here (suc i) m (omega (arith, a)) (omega (arith, c))) (t.within (suc i) a (omega (arith, c)))
              | inr y ↦ elim y [
                | inl c ↦ joins_end o p b g (here i (omega (arith, m)) (omega (arith, a)) (omega (arith, c))) (there (suc i) m (inr (omega (arith, c)))) (subst (λ x. depth (gap_before xs (suc x)) ≤ o) (sym c) t.ends)
                | inr c ↦ joins_none o p b g (there i (omega (arith, m)) (inr c)) (there (suc i) m (inr (omega (arith, c))))
              ]
            ]
          ]
        ]

-- a higher bound does as well
pub lies_within_more : (o q : ℕ) (g : LeafGap) → q ≤ o → LiesWithin o g → LiesWithin q g
lies_within_more o q (P d) h w = omega (arith, h, w)
lies_within_more o q (Q d) h w = omega (arith, h, w)
