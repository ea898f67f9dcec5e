-- The ends of a run of labelled children, when one more is labelled.
use Rattle.std.proofs.Common.{Bool, List, [], ap, arith, false, inl, inr, refl, subst, sym, true, ℕ, ◌++◌, ◌+◌, ◌∙◌, ◌∷◌, ◌≡◌, ◌≤◌}
use Rattle.std.proofs.lemmas.Bool.{cases_eq, cases_Bool}
use Rattle.arena_model.specs.ChildLists.{head_or, last_or, none}
use Rattle.arena_model.proofs.Lists.{occurs_here, occurs_last, occurs_other}
use Rattle.full_pass.proofs.Marks.{true_false}
use Rattle.column_order.specs.Orders.{occurs}
use Rattle.column_order.proofs.Lists.{occurs-append}

-- where all of a run are labelled, so are they with one more labelled in front
one_more : (l : ℕ → Bool) (u : ℕ) (run : List ℕ) → l u ≡ true → ((k : ℕ) → 1 ≤ occurs run k → l k ≡ true) → (k : ℕ) → 1 ≤ occurs (u ∷ run) k → l k ≡ true
one_more l u run t inside k o = elim (cases_eq u k) [
  | inl e ↦ subst (λ z. l z ≡ true) e t
  | inr ne ↦ inside k (subst (λ z. 1 ≤ z) (occurs_other u k run (λ e. ne (sym e))) o)
]

-- the labelled ones at the end of us
pub record Suffix (l : ℕ → Bool) (us : List ℕ) : Type 0 where
  pub rest : List ℕ
  pub run : List ℕ
  pub is : us ≡ rest ++ run
  pub inside : (k : ℕ) → 1 ≤ occurs run k → l k ≡ true
  pub before : l (last_or rest none) ≡ false

pub suffix : (l : ℕ → Bool) (us : List ℕ) → l none ≡ false → Suffix l us
suffix l [] n = record { rest = []; run = []; is = refl; inside = λ k o. absurd (omega arith); before = n }
suffix l (u ∷ us) n = let s = suffix l us n in by_rest s.rest s.run s.is s.inside s.before
  where
    by_rest : (rest run : List ℕ) → us ≡ rest ++ run → ((k : ℕ) → 1 ≤ occurs run k → l k ≡ true) → l (last_or rest none) ≡ false → Suffix l (u ∷ us)
    by_rest [] run is inside before = elim (cases_Bool (l u)) [
      | inl t ↦ record { rest = []; run = u ∷ run; is = ap (λ z. u ∷ z) is; before = n; inside = one_more l u run t inside }
      | inr e ↦ record { rest = u ∷ []; run = run; is = ap (λ z. u ∷ z) is; before = e; inside = inside }
    ]
    by_rest (v ∷ vs) run is inside before = record { rest = u ∷ v ∷ vs; run = run; is = ap (λ z. u ∷ z) is; before = before; inside = inside }

-- the labelled ones at the front of vs
pub record Prefix (l : ℕ → Bool) (vs : List ℕ) : Type 0 where
  pub run : List ℕ
  pub rest : List ℕ
  pub is : vs ≡ run ++ rest
  pub inside : (k : ℕ) → 1 ≤ occurs run k → l k ≡ true
  pub after : l (head_or rest none) ≡ false

pub prefix : (l : ℕ → Bool) (vs : List ℕ) → l none ≡ false → Prefix l vs
prefix l [] n = record { run = []; rest = []; is = refl; inside = λ k o. absurd (omega arith); after = n }
prefix l (v ∷ vs) n = elim (cases_Bool (l v)) [
  | inl t ↦ let s = prefix l vs n in record { run = v ∷ s.run; rest = s.rest; is = ap (λ z. v ∷ z) s.is; after = s.after; inside = one_more l v s.run t s.inside }
  | inr e ↦ record { run = []; rest = v ∷ vs; is = refl; after = e; inside = λ k o. absurd (omega arith) }
]

abbrev rest_of : List ℕ → List ℕ
rest_of [] = []
rest_of (x ∷ xs) = xs

-- a list that holds x once is split at x in one way
pub one_split : (x : ℕ) (us us' vs vs' : List ℕ) → us ++ x ∷ vs ≡ us' ++ x ∷ vs' → occurs (us ++ x ∷ vs) x ≤ 1 → (us ≡ us') × (vs ≡ vs')
one_split x [] [] vs vs' e o = (refl, ap rest_of e)
one_split x [] (u ∷ us') vs vs' e o = absurd (
    let h : x ≡ u = ap (λ z. head_or z 0) e in
    let a : 1 ≤ occurs (us' ++ x ∷ vs') x = omega (arith, occurs-append us' (x ∷ vs') x, occurs_here x vs') in
    let b : occurs (x ∷ vs) x ≡ occurs (u ∷ (us' ++ x ∷ vs')) x = ap (λ z. occurs z x) e in
    let c : 1 ≤ occurs (u ∷ []) x = subst (λ z. 1 ≤ occurs (z ∷ []) x) h (occurs_here x []) in
    omega arith)
one_split x (u ∷ us) [] vs vs' e o = absurd (
    let h : u ≡ x = ap (λ z. head_or z 0) e in
    let a : 1 ≤ occurs (us ++ x ∷ vs) x = omega (arith, occurs-append us (x ∷ vs) x, occurs_here x vs) in
    let c : 1 ≤ occurs (u ∷ []) x = subst (λ z. 1 ≤ occurs (z ∷ []) x) (sym h) (occurs_here x []) in
    omega arith)
one_split x (u ∷ us) (u' ∷ us') vs vs' e o =
    let h : u ≡ u' = ap (λ z. head_or z 0) e in
    let r = one_split x us us' vs vs' (ap rest_of e) (omega arith) in
    (ap (λ z. z ∷ us) h ∙ ap (λ z. u' ∷ z) r.0, r.1)

-- a run that goes on as long as it can holds x where all up to x are labelled
pub runs_on : (l : ℕ → Bool) (x : ℕ) (rs ys ps vs : List ℕ) → rs ++ ys ≡ ps ++ x ∷ vs → ((k : ℕ) → 1 ≤ occurs ps k → l k ≡ true) → l x ≡ true →
    l (head_or ys none) ≡ false → 1 ≤ occurs rs x
runs_on l x [] ys [] vs e inside_ps lx stop = absurd (true_false (l x) lx (subst (λ z. l (head_or z none) ≡ false) e stop))
runs_on l x [] ys (a ∷ ps) vs e inside_ps lx stop = absurd (true_false (l a) (inside_ps a (occurs_here a ps)) (subst (λ z. l (head_or z none) ≡ false) e stop))
runs_on l x (r ∷ rs) ys [] vs e inside_ps lx stop = let h : r ≡ x = ap (λ z. head_or z 0) e in subst (λ z. 1 ≤ occurs (r ∷ rs) z) h (occurs_here r rs)
runs_on l x (r ∷ rs) ys (a ∷ ps) vs e inside_ps lx stop =
    let i : 1 ≤ occurs rs x = runs_on l x rs ys ps vs (ap rest_of e) (λ k o. inside_ps k (omega arith)) lx stop in omega arith

pub runs_back : (l : ℕ → Bool) (x : ℕ) (ys rs us bs : List ℕ) → ys ++ rs ≡ us ++ x ∷ bs → ((k : ℕ) → 1 ≤ occurs (x ∷ bs) k → l k ≡ true) →
    l (last_or ys none) ≡ false → 1 ≤ occurs rs x
runs_back l x [] rs us bs e inside stop = subst (λ z. 1 ≤ occurs z x) (sym e) (omega (arith, occurs-append us (x ∷ bs) x, occurs_here x bs))
runs_back l x (y ∷ []) rs [] bs e inside stop = absurd (true_false (l y) (inside y (subst (λ z. 1 ≤ occurs (z ∷ bs) y) (ap (λ z. head_or z 0) e) (occurs_here y bs))) stop)
runs_back l x (y ∷ []) rs (u ∷ us) bs e inside stop = subst (λ z. 1 ≤ occurs z x) (sym (ap rest_of e)) (omega (arith, occurs-append us (x ∷ bs) x, occurs_here x bs))
runs_back l x (y ∷ z ∷ ys) rs [] bs e inside stop = absurd (true_false (l (last_or ys z)) (inside (last_or ys z)
    (let i : 1 ≤ occurs (z ∷ ys) (last_or ys z) = occurs_last ys z in
    let f : z ∷ ys ++ rs ≡ bs = ap rest_of e in
    let j : occurs (z ∷ ys ++ rs) (last_or ys z) ≡ occurs bs (last_or ys z) = ap (λ w. occurs w (last_or ys z)) f in
    let k : occurs (z ∷ ys ++ rs) (last_or ys z) ≡ occurs (z ∷ ys) (last_or ys z) + occurs rs (last_or ys z) = occurs-append (z ∷ ys) rs (last_or ys z) in omega arith)) stop)
runs_back l x (y ∷ z ∷ ys) rs (u ∷ us) bs e inside stop = runs_back l x (z ∷ ys) rs us bs (ap rest_of e) inside stop
