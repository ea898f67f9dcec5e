-- Tests of line after line.
use Rattle.std.proofs.Common.{◌≡◌, ◌≢◌, ◌⊎◌, ◌∙◌, ℕ, zero, suc, ◌+◌, ◌-◌, ◌<◌, ◌≤◌, true, false, List, [], ◌∷◌, ◌++◌, length, take, get_or, slice_get, Some, sym, subst, inl, inr, arith}
use Rattle.std.specs.List.{AllByRecursion}
use Rattle.std.specs.Prelude.{IsSomeAnd}
use Rattle.std.proofs.lemmas.Bool.{cases_eq}
use Rattle.std.proofs.lemmas.List.{take_more}
use Rattle.std.proofs.lemmas.Option.{slice_get-get_or}
use Rattle.row_model.specs.declared.graph.Pair.{Pair}
use Rattle.row_model.specs.declared.graph.Line.{Line}
use Rattle.row_model.specs.Graph.{IsPair}
use Rattle.row_model.proofs.Pairs.{same_pair, cases_pair}
use Rattle.odd_cycle.specs.Marks.{Marking, is_marked, IsMarkedAt}
use Rattle.verdict_judge.specs.NoTests.{HasLine, PassesPair, PassesRepeat}
use Rattle.verdict_judge.specs.Found.{IsLeastFailing}

-- what holds of a line
pub line_has : (lines : List Line) (i : ℕ) (d : Line) (P : Line → Type 0) → i < length lines → P (get_or lines i d) → HasLine lines (i + 1) P
line_has lines i d P l p =
    let at : slice_get lines (i + 1 - 1) ≡ Some (get_or lines i d) = subst (λ j. slice_get lines j ≡ Some (get_or lines i d)) (omega arith) (slice_get-get_or lines i d l) in
    subst (λ o. IsSomeAnd o P) (sym at) p

pub has_line : (lines : List Line) (i : ℕ) (d : Line) (P : Line → Type 0) → i < length lines → HasLine lines (i + 1) P → P (get_or lines i d)
has_line lines i d P l h =
    let at : slice_get lines (i + 1 - 1) ≡ Some (get_or lines i d) = subst (λ j. slice_get lines j ≡ Some (get_or lines i d)) (omega arith) (slice_get-get_or lines i d l) in
    subst (λ o. IsSomeAnd o P) at h

-- the pair of a line whose pair is tested
pub pair_here : (c : ℕ) (lines : List Line) (i : ℕ) (d : Line) → i < length lines → ((k : ℕ) → 1 ≤ k → k ≤ length lines → PassesPair c lines k) → IsPair c (get_or lines i d).pair
pair_here c lines i d l h = has_line lines i d (λ line. IsPair c line.pair) l (h (i + 1) (omega arith) (omega arith))

-- the first that fails is i + 1
pub least_here : (P : ℕ → Type 0) (n i : ℕ) → i < n → ((k : ℕ) → 1 ≤ k → k ≤ i → P k) → (P (i + 1) → ⊥) → IsLeastFailing P n (Some (i + 1))
least_here P n i l h f = (omega arith, omega arith, f, λ j m u. h j m (omega arith))

-- what holds for 1 to i and for i + 1
pub each_more : (P : ℕ → Type 0) (i : ℕ) → ((k : ℕ) → 1 ≤ k → k ≤ i → P k) → P (i + 1) → (k : ℕ) → 1 ≤ k → k ≤ i + 1 → P k
each_more P i h p k l u =
    elim (cases_eq k (i + 1)) [ inl e ↦ subst P (sym e) p | inr ne ↦ h k l (omega (arith, u, ne)) ]

-- the pair stands on none of the lines
abbrev pub IsNew : Pair → List Line → Type 0
IsNew v lines = AllByRecursion (λ (line : Line). line.pair ≢ v) lines

-- in a table of all pairs of 1 to c those are marked that stand on the lines
pub record AreMarked (c : ℕ) (seen : Marking) (lines : List Line) : Type 0 where
  pub rows : seen.rows ≡ c
  pub columns : seen.columns ≡ c
  pub unmarked : (v : Pair) → IsPair c v → IsNew v lines → is_marked seen v.a v.b ≡ false
  pub marked : (v : Pair) → IsPair c v → is_marked seen v.a v.b ≡ false → IsNew v lines

new_push : (v : Pair) (lines : List Line) (line : Line) → IsNew v lines → line.pair ≢ v → IsNew v (lines ++ line ∷ [])
new_push v [] line h n = (n, tt)
new_push v (l ∷ lines) line h n = (h.0, new_push v lines line h.1 n)

new_pushed : (v : Pair) (lines : List Line) (line : Line) → IsNew v (lines ++ line ∷ []) → IsNew v lines × (line.pair ≢ v)
new_pushed v [] line h = (tt, h.0)
new_pushed v (l ∷ lines) line h = ((h.0, (new_pushed v lines line h.1).0), (new_pushed v lines line h.1).1)

never : true ≡ false → ⊥
never e = cc

-- the columns of two pairs that differ
another : (v w : Pair) → v ≢ w → (v.a ≢ w.a) ⊎ (v.b ≢ w.b)
another v w n = elim (cases_eq v.a w.a) [ inl e ↦ inr (λ f. n (same_pair v w e f)) | inr a ↦ inl a ]

-- one more line is marked
marked_push : (c : ℕ) (old new : Marking) (lines : List Line) (line : Line) → AreMarked c old lines → IsPair c line.pair → IsMarkedAt old new line.pair.a line.pair.b →
    AreMarked c new (lines ++ line ∷ [])
marked_push c old new lines line h p m =
    let kept : (v : Pair) → IsPair c v → v ≢ line.pair → is_marked new v.a v.b ≡ is_marked old v.a v.b = λ v q n. m.others v.a v.b q.a_from (omega (arith, q.a_to, h.rows)) q.b_from (another v line.pair n) in
    record {
      rows = m.rows ∙ h.rows;
      columns = m.columns ∙ h.columns;
      unmarked = λ v q k.
          let parts = new_pushed v lines line k in
          kept v q (λ e. parts.1 (sym e)) ∙ h.unmarked v q parts.0;
      marked = λ v q k. elim (cases_pair v line.pair) [
        | inl e ↦ absurd (never (sym m.here ∙ subst (λ (w : Pair). is_marked new w.a w.b ≡ false) e k))
        | inr n ↦ new_push v lines line (h.marked v q (sym (kept v q n) ∙ k)) (λ e. n (sym e))
      ];
    }

-- one more line in turn
pub marked_next : (c : ℕ) (old new : Marking) (lines : List Line) (i : ℕ) (d : Line) → i < length lines → AreMarked c old (take i lines) → IsPair c (get_or lines i d).pair →
    IsMarkedAt old new (get_or lines i d).pair.a (get_or lines i d).pair.b → AreMarked c new (take (i + 1) lines)
marked_next c old new lines i d l h p m = subst (AreMarked c new) (sym (take_more lines i d l)) (marked_push c old new (take i lines) (get_or lines i d) h p m)

-- the pair of a line is new exactly where it stands on none of the lines before it
pub new_here : (lines : List Line) (i : ℕ) (d : Line) → i < length lines → IsNew (get_or lines i d).pair (take i lines) → PassesRepeat lines (i + 1)
new_here lines i d l new =
    let new' : IsNew (get_or lines i d).pair (take (i + 1 - 1) lines) = subst (λ j. IsNew (get_or lines i d).pair (take j lines)) (omega arith) new in
    line_has lines i d (λ line. IsNew line.pair (take (i + 1 - 1) lines)) l new'

pub new_there : (lines : List Line) (i : ℕ) (d : Line) → i < length lines → PassesRepeat lines (i + 1) → IsNew (get_or lines i d).pair (take i lines)
new_there lines i d l r =
    let new : IsNew (get_or lines i d).pair (take (i + 1 - 1) lines) = has_line lines i d (λ line. IsNew line.pair (take (i + 1 - 1) lines)) l r in
    subst (λ j. IsNew (get_or lines i d).pair (take j lines)) (omega arith) new

-- a pair of one of the first lines is not new behind them
pub not_new : (v : Pair) (lines : List Line) (i j : ℕ) (d : Line) → j < i → i ≤ length lines → (get_or lines j d).pair ≡ v → IsNew v (take i lines) → ⊥
not_new v [] i j d l u e h = absurd (omega (arith, l, u))
not_new v (x ∷ xs) zero j d l u e h = absurd (omega (arith, l))
not_new v (x ∷ xs) (suc i) zero d l u e h = h.0 e
not_new v (x ∷ xs) (suc i) (suc j) d l u e h = not_new v xs i j d (omega (arith, l)) (omega (arith, u)) e h.1

-- a pair that is marked stands on an earlier line, and one that is not is new
pub repeat_fails : (c : ℕ) (seen : Marking) (lines : List Line) (i : ℕ) (d : Line) → i < length lines → AreMarked c seen (take i lines) → IsPair c (get_or lines i d).pair →
    is_marked seen (get_or lines i d).pair.a (get_or lines i d).pair.b ≡ true → PassesRepeat lines (i + 1) → ⊥
repeat_fails c seen lines i d l h p t r = never (sym t ∙ h.unmarked (get_or lines i d).pair p (new_there lines i d l r))

pub repeat_passes : (c : ℕ) (seen : Marking) (lines : List Line) (i : ℕ) (d : Line) → i < length lines → AreMarked c seen (take i lines) → IsPair c (get_or lines i d).pair →
    is_marked seen (get_or lines i d).pair.a (get_or lines i d).pair.b ≡ false → PassesRepeat lines (i + 1)
repeat_passes c seen lines i d l h p f = new_here lines i d l (h.marked (get_or lines i d).pair p f)
