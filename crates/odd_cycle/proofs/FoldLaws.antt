-- Paths of lines into which a closed walk folds.
use Rattle.std.proofs.Common.{◌≡◌, ◌≢◌, ◌⊎◌, ◌∙◌, ℕ, ◌+◌, ◌-◌, ◌%◌, ◌<◌, ◌≤◌, Bool, true, false, not, List, [], ◌∷◌, ◌++◌, length, take, drop, slice_get, Some, All, refl, sym, ap, subst, inl, inr, arith}
use Rattle.std.proofs.lemmas.Bool.{cases_eq}
use Rattle.std.proofs.lemmas.List.{length-append, length-take-le, drop_all, append-nil}
use Rattle.std.proofs.lemmas.List.Elements.{All-push}
use Rattle.std.proofs.lemmas.Option.{same_Some, slice_get_within}
use Rattle.row_model.specs.declared.graph.Pair.{Pair}
use Rattle.row_model.specs.declared.graph.Line.{Line}
use Rattle.row_model.specs.declared.graph.Why.{Why}
use Rattle.row_model.specs.declared.graph.Why.TheVariants.{Flip, Row}
use Rattle.row_model.specs.Graph.{pair, IsPair, JoinedBy}
use Rattle.row_model.specs.Cycles.{first_pair, LeadTo, IsClosedWalk, IsOdd, IsOddWalk}
use Rattle.row_model.proofs.CycleLaws.{first_pushed, first_drop, first_take, lead_push, lead_take, lead_line, closed_from, closed_leads}
use Rattle.row_model.proofs.Pairs.{cases_pair}
use Rattle.odd_cycle.specs.Numbers.{Numbering, number_of, Renumbers, IsIndexed}
use Rattle.odd_cycle.proofs.NumberLaws.{indexed_distinct}
use Rattle.odd_cycle.specs.Fold.{closing, differ}
use Rattle.odd_cycle.specs.Short.{flips, one_if, turned_if, columns_of, IsStraight, IsFolded, IsNamedBy}
use Rattle.odd_cycle.proofs.PairLaws.{turned_pair, turned_if_pair, turned_twice, flipped, joined_turned_if}
use Rattle.odd_cycle.proofs.ShortLaws.{no_flips_drop}

-- the pairs numbered after the first so many have lost their numbers, as far as the next so many, and the others keep theirs
pub record IsCleared (old new : Numbering) (keep done : ℕ) : Type 0 where
  pub columns : new.columns ≡ old.columns
  pub kept : (v : Pair) → IsPair old.columns v → (number_of old v ≤ keep) ⊎ (keep + done < number_of old v) → number_of new v ≡ number_of old v
  pub lost : (v : Pair) → IsPair old.columns v → keep < number_of old v → number_of old v ≤ keep + done → number_of new v ≡ 0

pub cleared_none : (old : Numbering) (keep : ℕ) → IsCleared old old keep 0
cleared_none old keep = record { columns = refl; kept = λ v p h. refl; lost = λ v p l m. absurd (omega arith) }

pub cleared_more : (old new next : Numbering) (lines : List Line) (keep done : ℕ) (line : Line) → IsIndexed columns_of old lines → IsCleared old new keep done →
    slice_get lines (keep + done) ≡ Some line → Renumbers new next (columns_of line) 0 → IsCleared old next keep (done + 1)
cleared_more old new next lines keep done line h was at r =
    let here = h.pairs (keep + done) line at in
    let other : (v : Pair) → number_of old v ≢ keep + done + 1 → v ≢ columns_of line = λ v n g. n (ap (number_of old) g ∙ here.1) in
    let stays : (v : Pair) → IsPair old.columns v → v ≢ columns_of line → number_of next v ≡ number_of new v = λ v p n. r.others v (subst (λ c. IsPair c v) (sym was.columns) p) n in
    record {
      columns = r.columns ∙ was.columns;
      kept = λ v p k. elim k [
        | inl l ↦ stays v p (other v (λ e. omega (arith, e))) ∙ was.kept v p (inl l)
        | inr l ↦ stays v p (other v (λ e. omega (arith, e))) ∙ was.kept v p (inr (omega arith))
      ];
      lost = λ v p l m. elim (cases_pair v (columns_of line)) [
        | inl g ↦ ap (number_of next) g ∙ r.changed
        | inr n ↦ elim (cases_eq (number_of old v) (keep + done + 1)) [
          | inl e ↦
              let o = h.found v p (omega arith) in
              let k : number_of old v - 1 ≡ keep + done = omega arith in
              let same : o.0 ≡ line = same_Some o.0 line (sym o.1 ∙ ap (slice_get lines) k ∙ at) in
              absurd (n (sym o.2 ∙ ap columns_of same))
          | inr e ↦ stays v p n ∙ was.lost v p l (omega arith)
        ]
      ];
    }

-- the first pair of a walk
abbrev pub start : List Line → Pair
start walk = first_pair walk (pair 0 0)

-- the pair to which the lines so far lead
abbrev pub next : List Line → ℕ → Pair
next walk done = first_pair (drop done walk) (start walk)

-- the path that is left of the first lines of a walk leads from the walk's start to its next pair, or to that pair turned; with
-- one more where it is turned, both are odd or even in number
pub record Follows (c : ℕ) (rows : List (List ℕ)) (walk : List Line) (done : ℕ) (path : List Line) (t : Bool) : Type 0 where
  pub leads : LeadTo c rows path (turned_if t (next walk done))
  pub starts : first_pair path (turned_if t (next walk done)) ≡ start walk
  pub parity : (length path + one_if t) % 2 ≡ done % 2

pub follows_none : (c : ℕ) (rows : List (List ℕ)) (walk : List Line) → Follows c rows walk 0 [] false
follows_none c rows [] = record { leads = tt; starts = refl; parity = refl }
follows_none c rows (line ∷ walk) = record { leads = tt; starts = refl; parity = refl }

parity_not : (n d : ℕ) (t : Bool) → (n + one_if t) % 2 ≡ d % 2 → (n + one_if (not t)) % 2 ≡ (d + 1) % 2
parity_not n d true e = omega (arith, e)
parity_not n d false e = omega (arith, e)

parity_cut : (n i d : ℕ) (t b : Bool) → i ≤ n → (n + one_if t) % 2 ≡ d % 2 → (n - i + one_if b) % 2 ≡ 0 → (i + one_if (differ t b)) % 2 ≡ d % 2
parity_cut n i d true true l e f = omega (arith, l, e, f)
parity_cut n i d true false l e f = omega (arith, l, e, f)
parity_cut n i d false true l e f = omega (arith, l, e, f)
parity_cut n i d false false l e f = omega (arith, l, e, f)

pub turned_both : (t b : Bool) (v : Pair) → turned_if (differ t b) v ≡ turned_if b (turned_if t v)
turned_both true true v = refl
turned_both true false v = refl
turned_both false true v = refl
turned_both false false v = refl

-- a line with the pair turned, or not
abbrev pub line_turned : Bool → Line → Line
line_turned t line = record { pair = turned_if t line.pair; why = line.why }

module _ (c : ℕ) (rows : List (List ℕ)) (walk : List Line) (done : ℕ) (line : Line) (path : List Line) (t : Bool) (here : slice_get walk done ≡ Some line) (was : Follows c rows walk done path t) where
  at_line : next walk done ≡ line.pair
  at_line = first_drop walk done line (start walk) here

  pub leads_here : LeadTo c rows path (turned_if t line.pair)
  leads_here = subst (λ v. LeadTo c rows path (turned_if t v)) at_line was.leads

  joined_next : IsClosedWalk c rows walk → JoinedBy c rows line.pair (next walk (done + 1)) line.why
  joined_next closed = lead_line c rows walk done line (start walk) here (closed_leads c rows walk (pair 0 0) closed)

  -- a flip is left out, and what is behind it turned
  pub follows_flip : IsClosedWalk c rows walk → line.why ≡ Flip → Follows c rows walk (done + 1) path (not t)
  follows_flip closed flip =
      let j : JoinedBy c rows line.pair (next walk (done + 1)) Flip = subst (λ (why : Why). JoinedBy c rows line.pair (next walk (done + 1)) why) flip (joined_next closed) in
      let same : turned_if (not t) (next walk (done + 1)) ≡ turned_if t line.pair = flipped t line.pair (next walk (done + 1)) j.fits.0 j.fits.1 in
      record {
        leads = subst (LeadTo c rows path) (sym same) leads_here;
        starts = ap (first_pair path) same ∙ ap (λ v. first_pair path (turned_if t v)) (sym at_line) ∙ was.starts;
        parity = parity_not (length path) done t was.parity;
      }

  -- one more line with a row
  pub follows_row : (k : ℕ) → IsClosedWalk c rows walk → line.why ≡ Row k → Follows c rows walk (done + 1) (path ++ line_turned t line ∷ []) t
  follows_row k closed row =
      let j : JoinedBy c rows line.pair (next walk (done + 1)) (Row k) = subst (λ (why : Why). JoinedBy c rows line.pair (next walk (done + 1)) why) row (joined_next closed) in
      let turned : JoinedBy c rows (turned_if t line.pair) (turned_if t (next walk (done + 1))) (Row k) = joined_turned_if c rows t line.pair (next walk (done + 1)) k j in
      let same : JoinedBy c rows (turned_if t line.pair) (turned_if t (next walk (done + 1))) line.why =
      subst (λ (why : Why). JoinedBy c rows (turned_if t line.pair) (turned_if t (next walk (done + 1))) why) (sym row) turned in
      record {
        leads = lead_push c rows path (line_turned t line) (turned_if t (next walk (done + 1))) leads_here same;
        starts = first_pushed path (line_turned t line) (turned_if t (next walk (done + 1))) ∙ ap (λ v. first_pair path (turned_if t v)) (sym at_line) ∙ was.starts;
        parity = omega (arith, length-append path (line_turned t line ∷ []), was.parity);
      }

  module _ (i : ℕ) (earlier : Line) (there : slice_get path i ≡ Some earlier) (b : Bool) (same : earlier.pair ≡ turned_if b (turned_if t line.pair)) where
    -- lines since the same columns are left out, and what is behind them is turned where they come back turned
    pub follows_cut : (length path - i + one_if b) % 2 ≡ 0 → Follows c rows walk done (take i path) (differ t b)
    follows_cut even =
        let e : earlier.pair ≡ turned_if (differ t b) (next walk done) = same ∙ sym (turned_both t b line.pair) ∙ ap (turned_if (differ t b)) (sym at_line) in
        let within = slice_get_within path i earlier there in
        record {
          leads = subst (LeadTo c rows (take i path)) e (lead_take c rows path i earlier (turned_if t (next walk done)) there was.leads);
          starts = ap (first_pair (take i path)) (sym e) ∙ first_take path i earlier (turned_if t (next walk done)) there ∙ was.starts;
          parity = subst (λ n. (n + one_if (differ t b)) % 2 ≡ done % 2) (sym (length-take-le i path (omega arith))) (parity_cut (length path) i done t b (omega (arith, within)) was.parity even);
        }

-- lines that lead to their first pair are a closed walk, and with a flip those that lead to it turned
pub closes : (c : ℕ) (rows : List (List ℕ)) (path : List Line) (v : Pair) (b : Bool) → IsPair c v → LeadTo c rows path v → first_pair path v ≡ turned_if b v → IsOdd (length path + one_if b) →
    IsOddWalk c rows (path ++ closing b v)
closes c rows path v true p leads first odd =
    let last : Line = record { pair = v; why = Flip } in
    let joined : JoinedBy c rows v (turned_if true v) Flip = record { from = p; to = turned_pair c v p; fits = (refl, refl) } in
    record {
      closed = closed_from c rows (path ++ last ∷ []) (turned_if true v) (lead_push c rows path last (turned_if true v) leads joined) (first_pushed path last (turned_if true v) ∙ first);
      odd = omega (arith, odd, length-append path (last ∷ []));
    }
closes c rows path v false p leads first odd =
    subst (IsOddWalk c rows) (sym (append-nil path)) (record { closed = closed_from c rows path v leads first; odd = omega (arith, odd) })

pub folded_closed : (path : List Line) (b : Bool) (v : Pair) → IsStraight path → IsFolded (path ++ closing b v)
folded_closed path true v h = inr (path, record { pair = v; why = Flip }, h, refl, refl)
folded_closed path false v h = inl (subst IsStraight (sym (append-nil path)) h)

pub named_closed : (walk path : List Line) (b : Bool) (v : Pair) → All (IsNamedBy walk) path → All (IsNamedBy walk) (path ++ closing b v)
named_closed walk path true v h = All-push (IsNamedBy walk) path (record { pair = v; why = Flip }) h (inl refl)
named_closed walk path false v h = subst (All (IsNamedBy walk)) (sym (append-nil path)) h

-- what is known of the path and its numbers, in any graph
pub record IsKept (c : ℕ) (walk : List Line) (numbers : Numbering) (path : List Line) : Type 0 where
  pub columns : numbers.columns ≡ c
  pub indexed : IsIndexed columns_of numbers path
  pub no_flip : flips path ≡ 0
  pub named : All (IsNamedBy walk) path

pub straight_from : (c : ℕ) (walk : List Line) (numbers : Numbering) (path : List Line) (i : ℕ) → IsKept c walk numbers path → IsStraight (drop i path)
straight_from c walk numbers path i h = record { no_flip = no_flips_drop i path h.no_flip; apart = indexed_distinct columns_of numbers path i h.indexed }

-- at the end the path leads to the walk's start, or to that turned
pub follows_all : (c : ℕ) (rows : List (List ℕ)) (walk path : List Line) (t : Bool) → Follows c rows walk (length walk) path t → IsOdd (length walk) → IsPair c (start walk) →
    IsOddWalk c rows (path ++ closing t (turned_if t (start walk)))
follows_all c rows walk path t h odd p =
    let e : next walk (length walk) ≡ start walk = ap (λ more. first_pair more (start walk)) (drop_all (length walk) walk (omega arith)) in
    let leads : LeadTo c rows path (turned_if t (start walk)) = subst (λ v. LeadTo c rows path (turned_if t v)) e h.leads in
    let first : first_pair path (turned_if t (start walk)) ≡ start walk = ap (λ v. first_pair path (turned_if t v)) (sym e) ∙ h.starts in
    closes c rows path (turned_if t (start walk)) t (turned_if_pair c t (start walk) p) leads (first ∙ sym (turned_twice t (start walk))) (omega (arith, h.parity, odd))
