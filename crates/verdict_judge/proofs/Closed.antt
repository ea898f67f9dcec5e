-- The tests of the lines of a cycle, and what a cycle is.
use Rattle.std.proofs.Common.{◌≡◌, ◌≢◌, ◌∙◌, ℕ, zero, suc, ◌+◌, ◌-◌, ◌<◌, ◌≤◌, List, [], ◌∷◌, length, take, drop, get_or, slice_get, Some, None, refl, sym, ap, subst, arith}
use Rattle.std.specs.Prelude.{IsSomeAnd, AllPairs}
use Rattle.std.specs.List.{AllByRecursion}
use Rattle.std.proofs.lemmas.Option.{none-some, same_Some, slice_get_within, slice_get-get_or, get_or_from_slice_get}
use Rattle.row_model.specs.declared.graph.Pair.{Pair}
use Rattle.row_model.specs.declared.graph.Line.{Line}
use Rattle.row_model.specs.Graph.{IsPair, JoinedBy}
use Rattle.row_model.specs.Cycles.{first_pair, LeadTo, IsClosedWalk, IsOddCycle}
use Rattle.row_model.specs.Rows.{RowList}
use Rattle.row_model.proofs.CycleLaws.{drop_line, lead_line, closed_leads}
use Rattle.verdict_judge.proofs.Lines.{has_line}
use Rattle.verdict_judge.specs.NoTests.{HasLine, pair_after, PassesPair, PassesRepeat, PassesJoin}

-- the line at the front of what is left
at_drop : (lines : List Line) (i : ℕ) (line : Line) (rest : List Line) → line ∷ rest ≡ drop i lines → slice_get lines i ≡ Some line
at_drop [] zero line rest e = absurd (cc)
at_drop [] (suc i) line rest e = absurd (cc)
at_drop (l ∷ lines) zero line rest e = ap Some (sym (head_of e))
  where
    head_of : line ∷ rest ≡ l ∷ lines → line ≡ l
    head_of e = cc
at_drop (l ∷ lines) (suc i) line rest e = at_drop lines i line rest e

same_rest : (x y : Line) (xs ys : List Line) → x ∷ xs ≡ y ∷ ys → xs ≡ ys
same_rest x y xs ys e = cc

-- where there is a line, there is a first one
first_there : (lines : List Line) (i : ℕ) (line : Line) (v w : Pair) → slice_get lines i ≡ Some line → first_pair lines v ≡ first_pair lines w
first_there [] i line v w e = absurd (none-some line e)
first_there (l ∷ lines) i line v w e = refl

module _ (m : RowList) (lines : List Line) where
  -- lines that join each pair to the next
  joins_lead : (end : Pair) → ((k : ℕ) → 1 ≤ k → k ≤ length lines → PassesJoin m lines k) → (xs : List Line) (i : ℕ) → xs ≡ drop i lines → LeadTo m.columns m.rows xs (first_pair lines end)
  joins_lead end h [] i e = tt
  joins_lead end h (line ∷ rest) i e =
      let at : slice_get lines i ≡ Some line = at_drop lines i line rest e in
      let within : i < length lines = slice_get_within lines i line at in
      let left : rest ≡ drop (i + 1) lines = same_rest line line rest (drop (i + 1) lines) (e ∙ drop_line lines i line at) in
      let joined : JoinedBy m.columns m.rows line.pair (pair_after lines (i + 1) line.pair) line.why =
      subst (λ (x : Line). JoinedBy m.columns m.rows x.pair (pair_after lines (i + 1) x.pair) x.why) (get_or_from_slice_get lines i line line at)
      (has_line lines i line (λ x. JoinedBy m.columns m.rows x.pair (pair_after lines (i + 1) x.pair) x.why) within (h (i + 1) (omega arith) (omega arith))) in
      let next : pair_after lines (i + 1) line.pair ≡ first_pair rest (first_pair lines end) =
      ap (λ v. first_pair (drop (i + 1) lines) v) (first_there lines i line line.pair end at) ∙ ap (λ xs. first_pair xs (first_pair lines end)) (sym left) in
      (subst (λ v. JoinedBy m.columns m.rows line.pair v line.why) next joined, joins_lead end h rest (i + 1) left)

-- lines that join each pair to the next, and the last to the first, are a closed walk
pub joins_close : (m : RowList) (lines : List Line) → ((k : ℕ) → 1 ≤ k → k ≤ length lines → PassesJoin m lines k) → IsClosedWalk m.columns m.rows lines
joins_close m [] h = tt
joins_close m (line ∷ lines) h = joins_lead m (line ∷ lines) line.pair h (line ∷ lines) 0 refl

module _ (m : RowList) (lines : List Line) (cycle : IsOddCycle m.columns m.rows lines) (k : ℕ) (l : 1 ≤ k) (u : k ≤ length lines) where
  -- what joins line k to the next
  joined : (line : Line) (end : Pair) → slice_get lines (k - 1) ≡ Some line → JoinedBy m.columns m.rows line.pair (pair_after lines k end) line.why
  joined line end e =
      let j = lead_line m.columns m.rows lines (k - 1) line (first_pair lines end) e (closed_leads m.columns m.rows lines end cycle.closed) in
      subst (λ n. JoinedBy m.columns m.rows line.pair (first_pair (drop n lines) (first_pair lines end)) line.why) (omega arith) j

  -- a line of which something is said, where it is said of each line there
  said_there : (P : Line → Type 0) → ((line : Line) → slice_get lines (k - 1) ≡ Some line → P line) → HasLine lines k P
  said_there P h = each (slice_get lines (k - 1)) refl
    where
      each : (o : _) → slice_get lines (k - 1) ≡ o → IsSomeAnd o P
      each (Some line) e = h line e
      each None e = absurd (gone lines (k - 1) (omega arith) e)
        where
          gone : (xs : List Line) (i : ℕ) → i < length xs → slice_get xs i ≡ None → ⊥
          gone [] i l e = absurd (omega (arith, l))
          gone (x ∷ xs) zero l e = none-some x (sym e)
          gone (x ∷ xs) (suc i) l e = gone xs i (omega (arith, l)) e

  pub cycle_joins : PassesJoin m lines k
  cycle_joins = said_there (λ line. JoinedBy m.columns m.rows line.pair (pair_after lines k line.pair) line.why) (λ line e. joined line line.pair e)

  pub cycle_pairs : PassesPair m.columns lines k
  cycle_pairs = said_there (λ line. IsPair m.columns line.pair) (λ line e. (joined line line.pair e).from)

  pub cycle_repeats : PassesRepeat lines k
  cycle_repeats = said_there (λ line. AllByRecursion (λ (earlier : Line). earlier.pair ≢ line.pair) (take (k - 1) lines)) (λ line e. apart_all lines (k - 1) line e cycle.simple.distinct)
    where
      apart_all : (xs : List Line) (i : ℕ) (line : Line) → slice_get xs i ≡ Some line → AllPairs (λ (earlier : Line) (later : Line). earlier.pair ≢ later.pair) xs →
          AllByRecursion (λ (earlier : Line). earlier.pair ≢ line.pair) (take i xs)
      apart_all [] i line e h = absurd (none-some line e)
      apart_all (x ∷ xs) zero line e h = tt
      apart_all (x ∷ xs) (suc i) line e h =
          let within : i < length xs = slice_get_within xs i line e in
          let same : get_or xs i line ≡ line = same_Some (get_or xs i line) line (sym (slice_get-get_or xs i line within) ∙ e) in (
            λ g. h 0 (suc i) line (omega arith) (omega (arith, within)) (g ∙ ap (λ (y : Line). y.pair) (sym same)),
            apart_all xs i line e (λ i j d a b. h (suc i) (suc j) d (omega (arith, a)) (omega (arith, b))),
          )
