-- Columns in a line, each with the gap before it: what a row has of them.
use Rattle.std.proofs.Common.{◌≡◌, ◌⊎◌, ◌∙◌, ℕ, ◌≤◌, Bool, true, false, List, [], ◌∷◌, ◌++◌, IsTrue, IsFalse, refl, sym, ap, subst, inl, inr, arith}
use Rattle.std.specs.List.{AllByRecursion}
use Rattle.std.proofs.lemmas.Bool.{cases_Bool}
use Rattle.column_order.specs.Orders.{has}
use Rattle.verdict_judge.specs.declared.gaps.LeafGap.{LeafGap}
use Rattle.verdict_judge.specs.Gaps.{depth, LiesWithin}

abbrev pub Line : Type 0
Line = List (ℕ × LeafGap)

abbrev pub columns_of : Line → List ℕ
columns_of [] = []
columns_of (x ∷ xs) = x.0 ∷ columns_of xs

pub columns_of-append : (xs ys : Line) → columns_of (xs ++ ys) ≡ columns_of xs ++ columns_of ys
columns_of-append [] ys = refl
columns_of-append (x ∷ xs) ys = ap (λ z. x.0 ∷ z) (columns_of-append xs ys)

-- a gap between two columns, of which the row has the first or not, and the second or not
abbrev pub Joins : ℕ → Bool → Bool → LeafGap → Type 0
Joins o true true g = LiesWithin o g
Joins o true false g = depth g ≤ o
Joins o false true g = depth g ≤ o
Joins o false false g = Unit {0}

-- each gap between columns of the row lies within o, each gap at which the row begins or ends at o or above
abbrev pub Fit : List ℕ → ℕ → Bool → Line → Type 0
Fit row o p [] = Unit {0}
Fit row o p (x ∷ xs) = Joins o p (has row x.0) x.1 × Fit row o (has row x.0) xs

-- whether the row has the last column
abbrev pub last : List ℕ → Bool → Line → Bool
last row p [] = p
last row p (x ∷ xs) = last row (has row x.0) xs

pub fit_join : (row : List ℕ) (o : ℕ) (p : Bool) (xs ys : Line) → Fit row o p xs → Fit row o (last row p xs) ys → Fit row o p (xs ++ ys)
fit_join row o p [] ys h k = k
fit_join row o p (x ∷ xs) ys h k = (h.0, fit_join row o (has row x.0) xs ys h.1 k)

pub fit_parts : (row : List ℕ) (o : ℕ) (p : Bool) (xs ys : Line) → Fit row o p (xs ++ ys) → Fit row o p xs × Fit row o (last row p xs) ys
fit_parts row o p [] ys h = (tt, h)
fit_parts row o p (x ∷ xs) ys h = let r = fit_parts row o (has row x.0) xs ys h.1 in ((h.0, r.0), r.1)

-- what holds of each column with its gap holds of those of each part
parts_of : (P : (ℕ × LeafGap) → Type 0) (xs ys : Line) → AllByRecursion P (xs ++ ys) → AllByRecursion P xs × AllByRecursion P ys
parts_of P [] ys h = (tt, h)
parts_of P (x ∷ xs) ys h = let r = parts_of P xs ys h.1 in ((h.0, r.0), r.1)

joined : (P : (ℕ × LeafGap) → Type 0) (xs ys : Line) → AllByRecursion P xs → AllByRecursion P ys → AllByRecursion P (xs ++ ys)
joined P [] ys h k = k
joined P (x ∷ xs) ys h k = (h.0, joined P xs ys h.1 k)

-- the row has every column, or none
abbrev pub All : List ℕ → Line → Type 0
All row = AllByRecursion (λ x. IsTrue (has row x.0))

abbrev pub None : List ℕ → Line → Type 0
None row = AllByRecursion (λ x. IsFalse (has row x.0))

pub all_parts : (row : List ℕ) (xs ys : Line) → All row (xs ++ ys) → All row xs × All row ys
all_parts row xs ys h = parts_of (λ x. IsTrue (has row x.0)) xs ys h

pub none_parts : (row : List ℕ) (xs ys : Line) → None row (xs ++ ys) → None row xs × None row ys
none_parts row xs ys h = parts_of (λ x. IsFalse (has row x.0)) xs ys h

-- the first gap, where there is a column
abbrev pub Opens : LeafGap → Line → Type 0
Opens g [] = ⊥
Opens g (x ∷ xs) = x.1 ≡ g

pub opens_more : (g : LeafGap) (xs ys : Line) → Opens g xs → Opens g (xs ++ ys)
opens_more g [] ys h = absurd h
opens_more g (x ∷ xs) ys h = h

pub all_last : (row : List ℕ) (xs : Line) → All row xs → last row true xs ≡ true
all_last row [] h = refl
all_last row (x ∷ xs) h = ap (λ b. last row b xs) h.0 ∙ all_last row xs h.1

pub all_last_any : (row : List ℕ) (p : Bool) (g : LeafGap) (xs : Line) → Opens g xs → All row xs → last row p xs ≡ true
all_last_any row p g [] n h = absurd n
all_last_any row p g (x ∷ xs) n h = ap (λ b. last row b xs) h.0 ∙ all_last row xs h.1

pub none_last : (row : List ℕ) (xs : Line) → None row xs → last row false xs ≡ false
none_last row [] h = refl
none_last row (x ∷ xs) h = ap (λ b. last row b xs) h.0 ∙ none_last row xs h.1

-- no column of the row, and none before
pub none_fits : (row : List ℕ) (o : ℕ) (xs : Line) → None row xs → Fit row o false xs
none_fits row o [] h = tt
none_fits row o (x ∷ xs) h = (subst (λ b. Joins o false b x.1) (sym h.0) tt, subst (λ b. Fit row o b xs) (sym h.0) (none_fits row o xs h.1))

-- no column of the row, where the first gap lies at o or above
pub ended_fits : (row : List ℕ) (o : ℕ) (p : Bool) (g : LeafGap) (xs : Line) → depth g ≤ o → Opens g xs → None row xs → Fit row o p xs
ended_fits row o p g [] l n h = tt
ended_fits row o p g (x ∷ xs) l n h =
    (subst (λ b. Joins o p b x.1) (sym h.0) (ended o p x.1 (subst (λ y. depth y ≤ o) (sym n) l)), subst (λ b. Fit row o b xs) (sym h.0) (none_fits row o xs h.1))
  where
    ended : (o : ℕ) (p : Bool) (g : LeafGap) → depth g ≤ o → Joins o p false g
    ended o true g h = h
    ended o false g h = tt

-- columns of the row, and then columns that it misses
abbrev pub Amid : List ℕ → Line → Type 0
Amid row [] = Unit {0}
Amid row (x ∷ xs) = (IsTrue (has row x.0) × Amid row xs) ⊎ (IsFalse (has row x.0) × None row xs)

-- a run: no column that the row misses between two that it has
abbrev pub IsRun : List ℕ → Line → Type 0
IsRun row [] = Unit {0}
IsRun row (x ∷ xs) = (IsTrue (has row x.0) × Amid row xs) ⊎ (IsFalse (has row x.0) × IsRun row xs)

pub none_run : (row : List ℕ) (xs : Line) → None row xs → IsRun row xs
none_run row [] h = tt
none_run row (x ∷ xs) h = inr (h.0, none_run row xs h.1)

pub none_amid : (row : List ℕ) (xs : Line) → None row xs → Amid row xs
none_amid row [] h = tt
none_amid row (x ∷ xs) h = inr h

pub amid_run : (row : List ℕ) (xs : Line) → Amid row xs → IsRun row xs
amid_run row [] h = tt
amid_run row (x ∷ xs) h = elim h [ inl k ↦ inl k | inr k ↦ inr (k.0, none_run row xs k.1) ]

pub amid_left : (row : List ℕ) (xs ys : Line) → Amid row (xs ++ ys) → Amid row xs
amid_left row [] ys h = tt
amid_left row (x ∷ xs) ys h = elim h [ inl k ↦ inl (k.0, amid_left row xs ys k.1) | inr k ↦ let r = none_parts row xs ys k.1 in inr (k.0, r.0) ]

pub amid_parts : (row : List ℕ) (xs ys : Line) → Amid row (xs ++ ys) → (All row xs × Amid row ys) ⊎ None row ys
amid_parts row [] ys h = inl (tt, h)
amid_parts row (x ∷ xs) ys h =
    elim h [
      | inl k ↦ elim (amid_parts row xs ys k.1) [ inl r ↦ inl ((k.0, r.0), r.1) | inr r ↦ inr r ]
      | inr k ↦ let r = none_parts row xs ys k.1 in inr r.1
    ]

pub run_left : (row : List ℕ) (xs ys : Line) → IsRun row (xs ++ ys) → IsRun row xs
run_left row [] ys h = tt
run_left row (x ∷ xs) ys h = elim h [ inl k ↦ inl (k.0, amid_left row xs ys k.1) | inr k ↦ inr (k.0, run_left row xs ys k.1) ]

-- a run of two parts begins in the second, or goes over into it, or ends in the first
pub run_parts : (row : List ℕ) (p : Bool) (xs ys : Line) → IsRun row (xs ++ ys) → (None row xs × IsRun row ys) ⊎ ((last row p xs ≡ true) × Amid row ys) ⊎ None row ys
run_parts row p [] ys h = inl (tt, h)
run_parts row p (x ∷ xs) ys h =
    elim h [
      | inl k ↦ elim (amid_parts row xs ys k.1) [
        | inl r ↦ inr (inl (ap (λ b. last row b xs) k.0 ∙ all_last row xs r.0, r.1))
        | inr r ↦ inr (inr r)
      ]
      | inr k ↦ elim (run_parts row (has row x.0) xs ys k.1) [ inl r ↦ inl ((k.0, r.0), r.1) | inr r ↦ inr r ]
    ]

pub run_right : (row : List ℕ) (xs ys : Line) → IsRun row (xs ++ ys) → IsRun row ys
run_right row xs ys h =
    elim (run_parts row true xs ys h) [
      | inl r ↦ r.1
      | inr r ↦ elim r [ inl k ↦ amid_run row ys k.1 | inr k ↦ none_run row ys k ]
    ]

-- where a run goes over a gap, the gap lies within o
pub crossed : (row : List ℕ) (o : ℕ) (p : Bool) (g : LeafGap) (xs : Line) → p ≡ true → Fit row o p xs → Amid row xs → Opens g xs → (None row xs → ⊥) → LiesWithin o g
crossed row o p g [] e f h n some = absurd n
crossed row o p g (x ∷ xs) e f h n some =
    elim h [
      | inl k ↦
          let j : Joins o p (has row x.0) x.1 = f.0 in
          let i : Joins o true (has row x.0) x.1 = subst (λ b. Joins o b (has row x.0) x.1) e j in
          let l : LiesWithin o x.1 = subst (λ b. Joins o true b x.1) k.0 i in
          subst (λ y. LiesWithin o y) n l
      | inr k ↦ absurd (some k)
    ]

-- each gap lies at this depth or deeper
abbrev pub Deep : ℕ → Line → Type 0
Deep d = AllByRecursion (λ x. d ≤ depth x.1)

-- each gap but the first
abbrev pub DeepAfter : ℕ → Line → Type 0
DeepAfter d [] = Unit {0}
DeepAfter d (x ∷ xs) = Deep d xs

pub deep_join : (d : ℕ) (xs ys : Line) → Deep d xs → Deep d ys → Deep d (xs ++ ys)
deep_join d xs ys h k = joined (λ x. d ≤ depth x.1) xs ys h k

deep_tail : (d : ℕ) (xs : Line) → Deep d xs → DeepAfter d xs
deep_tail d [] h = tt
deep_tail d (x ∷ xs) h = h.1

pub deep_after_join : (d : ℕ) (xs ys : Line) → DeepAfter d xs → Deep d ys → DeepAfter d (xs ++ ys)
deep_after_join d [] ys h k = deep_tail d ys k
deep_after_join d (x ∷ xs) ys h k = deep_join d xs ys h k

-- a row that ends within columns does so at o or above
ends_after : (row : List ℕ) (o d : ℕ) (xs : Line) → Fit row o true xs → Deep d xs → (All row xs → ⊥) → d ≤ o
ends_after row o d [] f h n = absurd (n tt)
ends_after row o d (x ∷ xs) f h n =
    elim (cases_Bool (has row x.0)) [
      | inl e ↦ ends_after row o d xs (subst (λ b. Fit row o b xs) e f.1) h.1 (λ a. n (e, a))
      | inr e ↦ let l : depth x.1 ≤ o = subst (λ b. Joins o true b x.1) e f.0 in omega (arith, h.0)
    ]

begins_after : (row : List ℕ) (o d : ℕ) (xs : Line) → Fit row o false xs → Deep d xs → (None row xs → ⊥) → d ≤ o
begins_after row o d [] f h n = absurd (n tt)
begins_after row o d (x ∷ xs) f h n =
    elim (cases_Bool (has row x.0)) [
      | inl e ↦ let l : depth x.1 ≤ o = subst (λ b. Joins o false b x.1) e f.0 in omega (arith, h.0)
      | inr e ↦ begins_after row o d xs (subst (λ b. Fit row o b xs) e f.1) h.1 (λ a. n (e, a))
    ]

pub mixed_ends : (row : List ℕ) (o d : ℕ) (p : Bool) (xs : Line) → Fit row o p xs → DeepAfter d xs → (All row xs → ⊥) → (None row xs → ⊥) → d ≤ o
mixed_ends row o d p [] f h n m = absurd (n tt)
mixed_ends row o d p (x ∷ xs) f h n m =
    elim (cases_Bool (has row x.0)) [
      | inl e ↦ ends_after row o d xs (subst (λ b. Fit row o b xs) e f.1) h (λ a. n (e, a))
      | inr e ↦ begins_after row o d xs (subst (λ b. Fit row o b xs) e f.1) h (λ a. m (e, a))
    ]
