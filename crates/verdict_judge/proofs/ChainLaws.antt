-- Lines in chains by the first columns of their pairs, and those of a chain whose pairs stand on earlier lines.
use Rattle.std.proofs.Common.{◌≡◌, ◌≢◌, ◌∙◌, ℕ, zero, suc, ◌+◌, ◌-◌, ◌<◌, ◌≤◌, List, [], ◌∷◌, ◌++◌, length, take, drop, set, replicate, get_or, sym, ap, subst, inl, inr, arith, length-set, get_or-set_same, get_or-set_other}
use Rattle.std.proofs.Math.Seq.{take-append_seam}
use Rattle.std.specs.List.{All}
use Rattle.std.proofs.lemmas.Bool.{cases_eq, cases_lt}
use Rattle.std.proofs.lemmas.List.{get_or-replicate, length-replicate}
use Rattle.row_model.specs.declared.graph.Pair.{Pair}
use Rattle.row_model.specs.declared.graph.Line.{Line}
use Rattle.row_model.specs.declared.graph.Why.TheVariants.{Flip}
use Rattle.row_model.specs.Graph.{pair, IsPair}
use Rattle.verdict_judge.specs.NoTests.{PassesPair, PassesRepeat}
use Rattle.verdict_judge.specs.Chains.{IsNextInChain, AreChains}
use Rattle.verdict_judge.proofs.Lines.{IsNew, pair_here, new_here, new_there, not_new}

-- ---- the chains

next_from_end : (a : ℕ) (lines : List Line) → IsNextInChain a lines (length lines) (length lines)
next_from_end a lines = record {
  behind = omega arith;
  within = omega arith;
  here = λ d l. absurd (omega (arith, l));
  between = λ i d l u. absurd (omega (arith, l, u));
}

-- a line of another column stands before
next_from_before : (a : ℕ) (lines : List Line) (i at : ℕ) → ((d : Line) → (get_or lines i d).pair.a ≢ a) → IsNextInChain a lines (i + 1) at → IsNextInChain a lines i at
next_from_before a lines i at other h = record {
  behind = omega (arith, h.behind);
  within = h.within;
  here = h.here;
  between = λ j d l u. elim (cases_eq j i) [
    | inl e ↦ subst (λ k. (get_or lines k d).pair.a ≢ a) (sym e) (other d)
    | inr n ↦ h.between j d (omega (arith, l, n)) u
  ];
}

-- a line of the column stands there
next_is_here : (a : ℕ) (lines : List Line) (i : ℕ) → i < length lines → ((d : Line) → (get_or lines i d).pair.a ≡ a) → IsNextInChain a lines i i
next_is_here a lines i l own = record {
  behind = omega arith;
  within = omega (arith, l);
  here = λ d u. own d;
  between = λ j d u v. absurd (omega (arith, u, v));
}

pub chains_start : (lines : List Line) (c : ℕ) → AreChains lines (length lines) (replicate c (length lines)) (replicate (length lines) (length lines))
chains_start lines c =
    let n = length lines in
    record {
      first = λ a l. subst (IsNextInChain a lines n) (sym (get_or-replicate c a n 0 (omega (arith, l, length-replicate c n)))) (next_from_end a lines);
      long = length-replicate n n;
      next = λ i d l u. absurd (omega (arith, l, u));
    }

pub chains_more : (lines : List Line) (i a : ℕ) (firsts nexts : List ℕ) → i < length lines → ((d : Line) → (get_or lines i d).pair.a ≡ a) → a < length firsts →
    AreChains lines (i + 1) firsts nexts → AreChains lines i (set firsts a i) (set nexts i (get_or firsts a 0))
chains_more lines i a firsts nexts l own m h =
    record {
      first = λ b u. elim (cases_eq b a) [
        | inl e ↦ subst (λ k. IsNextInChain k lines i (get_or (set firsts a i) k 0)) (sym e) (subst (IsNextInChain a lines i) (sym (get_or-set_same firsts a i 0 m)) (next_is_here a lines i l own))
        | inr n ↦ subst (IsNextInChain b lines i) (sym (get_or-set_other firsts a b i 0 n))
            (next_from_before b lines i (get_or firsts b 0) (λ d e. n (sym e ∙ own d)) (h.first b (omega (arith, u, length-set firsts a i))))
      ];
      long = length-set nexts i (get_or firsts a 0) ∙ h.long;
      next = λ j d u v. elim (cases_eq j i) [
        | inl e ↦ subst (λ k. IsNextInChain (get_or lines k d).pair.a lines (k + 1) (get_or (set nexts i (get_or firsts a 0)) k 0)) (sym e)
            (subst (IsNextInChain (get_or lines i d).pair.a lines (i + 1)) (sym (get_or-set_same nexts i (get_or firsts a 0) 0 (omega (arith, l, h.long))))
            (subst (λ b. IsNextInChain b lines (i + 1) (get_or firsts a 0)) (sym (own d)) (h.first a m)))
        | inr n ↦ subst (IsNextInChain (get_or lines j d).pair.a lines (j + 1)) (sym (get_or-set_other nexts i j (get_or firsts a 0) 0 n)) (h.next j d (omega (arith, u, n)) v)
      ];
    }

-- the first column of a line has a chain
pub column_within : (c i count : ℕ) (lines : List Line) (d : Line) → i < length lines → ((k : ℕ) → 1 ≤ k → k ≤ length lines → PassesPair c lines k) →
    count ≡ c + 1 → (get_or lines i d).pair.a < count
column_within c i count lines d l pairs long =
    let p : IsPair c (get_or lines i d).pair = pair_here c lines i d l pairs in
    omega (arith, p.a_to, long)

-- ---- the stamps along the chain of a column

-- the second columns of the pairs of a on the first lines are stamped with a, and no stamp is above it
pub record AreStamped (a : ℕ) (lines : List Line) (at : ℕ) (stamps : List ℕ) : Type 0 where
  pub below : All (λ stamp. stamp ≤ a) stamps
  pub stamped : (b : ℕ) → b < length stamps → get_or stamps b 0 ≡ a → (j : ℕ) × (j < at) × ((d : Line) → (get_or lines j d).pair ≡ pair a b)
  pub fresh : (b : ℕ) → b < length stamps → get_or stamps b 0 ≢ a → (j : ℕ) (d : Line) → j < at → (get_or lines j d).pair ≢ pair a b

pub stamps_start : (a : ℕ) (lines : List Line) (at : ℕ) (stamps : List ℕ) → IsNextInChain a lines 0 at → All (λ stamp. stamp < a) stamps → AreStamped a lines at stamps
stamps_start a lines at stamps next h = record {
  below = λ k d l. omega (arith, h k d l);
  stamped = λ b l e. absurd (omega (arith, h b 0 l, e));
  fresh = λ b l n j d u same. next.between j d (omega arith) u (ap (λ (v : Pair). v.a) same);
}

pub stamps_more : (a b at next : ℕ) (lines : List Line) (stamps : List ℕ) → ((d : Line) → (get_or lines at d).pair ≡ pair a b) → b < length stamps →
    IsNextInChain a lines (at + 1) next → AreStamped a lines at stamps → AreStamped a lines next (set stamps b a)
stamps_more a b at next lines stamps own m up h = record {
  below = λ k d l. elim (cases_eq k b) [
    | inl e ↦ subst (λ n. get_or (set stamps b a) n d ≤ a) (sym e) (omega (arith, get_or-set_same stamps b a d m))
    | inr n ↦ omega (arith, get_or-set_other stamps b k a d n, h.below k d (omega (arith, l, length-set stamps b a)))
  ];
  stamped = λ k l e. elim (cases_eq k b) [
    | inl s ↦ (at, omega (arith, up.behind), λ d. own d ∙ ap (λ n. pair a n) (sym s))
    | inr n ↦
        let old = h.stamped k (omega (arith, l, length-set stamps b a)) (sym (get_or-set_other stamps b k a 0 n) ∙ e) in
        (old.0, omega (arith, old.1, up.behind), old.2)
  ];
  fresh = λ k l e j d u same.
      let other : k ≢ b = λ s. e (subst (λ n. get_or (set stamps b a) n 0 ≡ a) (sym s) (get_or-set_same stamps b a 0 m)) in
      elim (cases_eq j at) [
        | inl s ↦ other (sym (ap (λ (v : Pair). v.b) (sym (own d) ∙ subst (λ n. (get_or lines n d).pair ≡ pair a k) s same)))
        | inr n ↦ elim (cases_lt j at) [
          | inl before ↦ h.fresh k (omega (arith, l, length-set stamps b a)) (λ s. e (get_or-set_other stamps b k a 0 other ∙ s)) j d before same
          | inr behind ↦ up.between j d (omega (arith, n, behind)) u (ap (λ (v : Pair). v.a) same)
        ]
      ];
}

new_by_places : (v : Pair) (lines : List Line) (i : ℕ) → ((j : ℕ) (d : Line) → j < i → j < length lines → (get_or lines j d).pair ≢ v) → IsNew v (take i lines)
new_by_places v [] zero h = tt
new_by_places v [] (suc i) h = tt
new_by_places v (x ∷ xs) zero h = tt
new_by_places v (x ∷ xs) (suc i) h = (h 0 x (omega arith) (omega arith), new_by_places v xs i (λ j d l m. h (suc j) d (omega (arith, l)) (omega (arith, m))))

-- a line whose second column has another stamp has a new pair
pub fresh_passes : (a b at : ℕ) (lines : List Line) (stamps : List ℕ) (d : Line) → (get_or lines at d).pair ≡ pair a b → b < length stamps → at < length lines →
    AreStamped a lines at stamps → get_or stamps b 0 ≢ a → PassesRepeat lines (at + 1)
fresh_passes a b at lines stamps d own m l h n =
    new_here lines at d l (new_by_places (get_or lines at d).pair lines at (λ j e u v same. h.fresh b m n j e u (same ∙ own)))

-- a line whose second column has this stamp has not
pub stamped_fails : (a b at : ℕ) (lines : List Line) (stamps : List ℕ) (d : Line) → (get_or lines at d).pair ≡ pair a b → b < length stamps → at < length lines →
    AreStamped a lines at stamps → get_or stamps b 0 ≡ a → PassesRepeat lines (at + 1) → ⊥
stamped_fails a b at lines stamps d own m l h e r =
    let earlier = h.stamped b m e in
    not_new (get_or lines at d).pair lines at earlier.0 d earlier.1 (omega (arith, l)) (earlier.2 d ∙ sym own) (new_there lines at d l r)

-- the lines of a column that come before the next one of its chain have new pairs
pub passed_more : (a at next : ℕ) (lines : List Line) → ((i : ℕ) (d : Line) → i < at → (get_or lines i d).pair.a ≡ a → PassesRepeat lines (i + 1)) →
    PassesRepeat lines (at + 1) → IsNextInChain a lines (at + 1) next → (i : ℕ) (d : Line) → i < next → (get_or lines i d).pair.a ≡ a → PassesRepeat lines (i + 1)
passed_more a at next lines h here up i d l own =
    elim (cases_eq i at) [
      | inl e ↦ subst (λ k. PassesRepeat lines (k + 1)) (sym e) here
      | inr n ↦ elim (cases_lt i at) [ inl before ↦ h i d before own | inr behind ↦ absurd (up.between i d (omega (arith, n, behind)) l own) ]
    ]

-- where the lines of all columns have new pairs as far as one of them, all lines before it have
pub all_passed : (c least : ℕ) (lines : List Line) → ((k : ℕ) → 1 ≤ k → k ≤ length lines → PassesPair c lines k) → least ≤ length lines →
    ((i : ℕ) (d : Line) → i < least → (get_or lines i d).pair.a ≤ c → PassesRepeat lines (i + 1)) → (j : ℕ) → 1 ≤ j → j ≤ least → PassesRepeat lines j
all_passed c least lines pairs u h j l m =
    let none : Line = record { pair = record { a = 0; b = 0 }; why = Flip } in
    let p : IsPair c (get_or lines (j - 1) none).pair = pair_here c lines (j - 1) none (omega (arith, l, m, u)) pairs in
    subst (PassesRepeat lines) (omega (arith, l)) (h (j - 1) none (omega (arith, l, m)) p.a_to)

-- ---- the least line of all chains

-- a list that is lent as it is, and given back
pub given_back : (count : ℕ) (new old : List ℕ) → count ≡ length new → take count (new ++ drop (length new) old) ≡ new
given_back count new old e = ap (λ n. take n (new ++ drop (length new) old)) e ∙ take-append_seam new (drop (length new) old)

-- the stamps at first
pub zeros_low : (count : ℕ) → All (λ stamp. stamp ≤ 0) (replicate count 0)
zeros_low count k d l = omega (arith, get_or-replicate count k 0 d (omega (arith, l, length-replicate {A = ℕ} count 0)))

-- no column has been tested, and each first column is 1 or more
pub none_tested : (c : ℕ) (lines : List Line) → ((k : ℕ) → 1 ≤ k → k ≤ length lines → PassesPair c lines k) →
    (i : ℕ) (d : Line) → i < length lines → (get_or lines i d).pair.a ≤ 0 → PassesRepeat lines (i + 1)
none_tested c lines pairs i d l u =
    let p : IsPair c (get_or lines i d).pair = pair_here c lines i d l pairs in
    absurd (omega (arith, p.a_from, u))

-- the least line of one chain more
pub least_fails : (least next : ℕ) (lines : List Line) → (next ≢ least → PassesRepeat lines (next + 1) → ⊥) → (least ≢ length lines → PassesRepeat lines (least + 1) → ⊥) →
    next ≢ length lines → PassesRepeat lines (next + 1) → ⊥
least_fails least next lines here before n =
    elim (cases_eq next least) [ inl e ↦ subst (λ k. PassesRepeat lines (k + 1) → ⊥) (sym e) (before (λ s. n (e ∙ s))) | inr m ↦ here m ]

pub tested_more : (a least next : ℕ) (lines : List Line) → next ≤ least →
    ((i : ℕ) (d : Line) → i < next → (get_or lines i d).pair.a ≡ a + 1 → PassesRepeat lines (i + 1)) →
    ((i : ℕ) (d : Line) → i < least → (get_or lines i d).pair.a ≤ a → PassesRepeat lines (i + 1)) →
    (i : ℕ) (d : Line) → i < next → (get_or lines i d).pair.a ≤ a + 1 → PassesRepeat lines (i + 1)
tested_more a least next lines u here before i d l m =
    elim (cases_eq (get_or lines i d).pair.a (a + 1)) [
      | inl e ↦ here i d l e
      | inr n ↦ before i d (omega (arith, l, u)) (omega (arith, m, n))
    ]
