-- Laws of walks that are written as lists of lines.
use Rattle.std.proofs.Common.{◌≡◌, ◌≢◌, ◌∙◌, ℕ, zero, suc, ◌+◌, ◌-◌, ◌≤◌, ◌/◌, List, [], ◌∷◌, ◌++◌, length, take, drop, map, slice_get, Some, AllPairs, refl, sym, ap, subst, inl, inr, arith}
use Rattle.std.proofs.lemmas.Option.{none-some, same_Some}
use Rattle.std.proofs.lemmas.List.{get_or-take, length-take-le, length-append, length-map}
use Rattle.row_model.specs.declared.graph.Pair.{Pair}
use Rattle.row_model.specs.declared.graph.Line.{Line}
use Rattle.row_model.specs.declared.graph.Why.{Why}
use Rattle.row_model.specs.declared.graph.Why.TheVariants.{Flip, Row}
use Rattle.row_model.specs.Graph.{Crosses, JoinedBy, Joined, row_at, IsWalk, IsOddly, HasOddWalk}
use Rattle.row_model.specs.Cycles.{pair_of, first_pair, LeadTo, IsClosedWalk, IsOddWalk, IsOddCycle}

-- the first pair of lines of which one was pushed
pub first_pushed : (lines : List Line) (line : Line) (end : Pair) → first_pair (lines ++ line ∷ []) end ≡ first_pair lines line.pair
first_pushed [] line end = refl
first_pushed (l ∷ lines) line end = refl

pub first-append : (lines more : List Line) (end : Pair) → first_pair (lines ++ more) end ≡ first_pair lines (first_pair more end)
first-append [] more end = refl
first-append (l ∷ lines) more end = refl

pub lead-append : (c : ℕ) (rows : List (List ℕ)) (lines more : List Line) (end : Pair) → LeadTo c rows lines (first_pair more end) → LeadTo c rows more end → LeadTo c rows (lines ++ more) end
lead-append c rows [] more end h k = k
lead-append c rows (l ∷ lines) more end h k =
    (subst (λ v. JoinedBy c rows l.pair v l.why) (sym (first-append lines more end)) h.0, lead-append c rows lines more end h.1 k)

pub lead_push : (c : ℕ) (rows : List (List ℕ)) (lines : List Line) (line : Line) (end : Pair) → LeadTo c rows lines line.pair → JoinedBy c rows line.pair end line.why →
    LeadTo c rows (lines ++ line ∷ []) end
lead_push c rows lines line end h j = lead-append c rows lines (line ∷ []) end h (j, tt)

-- the lines before a line lead to its pair
pub lead_take : (c : ℕ) (rows : List (List ℕ)) (lines : List Line) (i : ℕ) (line : Line) (end : Pair) → slice_get lines i ≡ Some line → LeadTo c rows lines end →
    LeadTo c rows (take i lines) line.pair
lead_take c rows [] i line end e h = absurd (none-some line e)
lead_take c rows (l ∷ lines) zero line end e h = tt
lead_take c rows (l ∷ []) (suc i) line end e h = absurd (none-some line e)
lead_take c rows (l ∷ k ∷ lines) (suc zero) line end e h =
    let same : k.pair ≡ line.pair = ap (λ (x : Line). x.pair) (same_Some k line e) in
    (subst (λ v. JoinedBy c rows l.pair v l.why) same h.0, tt)
lead_take c rows (l ∷ k ∷ lines) (suc (suc i)) line end e h = (h.0, lead_take c rows (k ∷ lines) (suc i) line end e h.1)

pub lead_drop : (c : ℕ) (rows : List (List ℕ)) (lines : List Line) (i : ℕ) (end : Pair) → LeadTo c rows lines end → LeadTo c rows (drop i lines) end
lead_drop c rows lines zero end h = h
lead_drop c rows [] (suc i) end h = tt
lead_drop c rows (l ∷ lines) (suc i) end h = lead_drop c rows lines i end h.1

-- the lines from a line on
pub drop_line : (lines : List Line) (i : ℕ) (line : Line) → slice_get lines i ≡ Some line → drop i lines ≡ line ∷ drop (i + 1) lines
drop_line [] i line e = absurd (none-some line e)
drop_line (l ∷ lines) zero line e = ap (λ x. x ∷ lines) (same_Some l line e)
drop_line (l ∷ lines) (suc i) line e =
    let inner : i + 1 ≡ suc i = omega arith in
    let outer : suc (suc i) ≡ suc i + 1 = omega arith in
    drop_line lines i line e ∙ ap (λ n. line ∷ drop n lines) inner ∙ ap (λ n. line ∷ drop n (l ∷ lines)) outer

pub first_drop : (lines : List Line) (i : ℕ) (line : Line) (end : Pair) → slice_get lines i ≡ Some line → first_pair (drop i lines) end ≡ line.pair
first_drop lines i line end e = ap (λ more. first_pair more end) (drop_line lines i line e)

pub first_take : (lines : List Line) (i : ℕ) (line : Line) (end : Pair) → slice_get lines i ≡ Some line → first_pair (take i lines) line.pair ≡ first_pair lines end
first_take [] i line end e = absurd (none-some line e)
first_take (l ∷ lines) zero line end e = ap (λ (x : Line). x.pair) (sym (same_Some l line e))
first_take (l ∷ lines) (suc i) line end e = refl

-- a line's reason joins its pair to the next
pub lead_line : (c : ℕ) (rows : List (List ℕ)) (lines : List Line) (i : ℕ) (line : Line) (end : Pair) → slice_get lines i ≡ Some line → LeadTo c rows lines end →
    JoinedBy c rows line.pair (first_pair (drop (i + 1) lines) end) line.why
lead_line c rows lines i line end e h =
    let k : LeadTo c rows (line ∷ drop (i + 1) lines) end = subst (λ more. LeadTo c rows more end) (drop_line lines i line e) (lead_drop c rows lines i end h) in
    k.0

-- lines that lead back to their first pair
pub closed_from : (c : ℕ) (rows : List (List ℕ)) (lines : List Line) (end : Pair) → LeadTo c rows lines end → first_pair lines end ≡ end → IsClosedWalk c rows lines
closed_from c rows [] end h e = tt
closed_from c rows (l ∷ lines) end h e = subst (λ v. LeadTo c rows (l ∷ lines) v) (sym e) h

pub closed_leads : (c : ℕ) (rows : List (List ℕ)) (lines : List Line) (end : Pair) → IsClosedWalk c rows lines → LeadTo c rows lines (first_pair lines end)
closed_leads c rows [] end h = tt
closed_leads c rows (l ∷ lines) end h = h

-- joining goes both ways, for the same reason
pub joined_by_sym : (c : ℕ) (rows : List (List ℕ)) (v w : Pair) (why : Why) → JoinedBy c rows v w why → JoinedBy c rows w v why
joined_by_sym c rows v w Flip j = record { from = j.to; to = j.from; fits = (sym j.fits.1, sym j.fits.0) }
joined_by_sym c rows v w (Row k) j =
    record { from = j.to; to = j.from; fits = (j.fits.0, j.fits.1, elim j.fits.2 [ inl x ↦ inr x | inr x ↦ inl x ]) }

-- no pair is joined to itself
pub never_itself : (c : ℕ) (rows : List (List ℕ)) (v : Pair) (why : Why) → JoinedBy c rows v v why → ⊥
never_itself c rows v Flip j = j.from.distinct j.fits.0
never_itself c rows v (Row k) j = elim j.fits.2 [ inl x ↦ j.from.distinct (sym x.middle) | inr x ↦ j.from.distinct (sym x.middle) ]

-- a closed walk of odd length has three lines or more
pub odd_long : (c : ℕ) (rows : List (List ℕ)) (lines : List Line) → IsOddWalk c rows lines → 3 ≤ length lines
odd_long c rows [] h = absurd (omega (arith, h.odd))
odd_long c rows (l ∷ []) h = absurd (never_itself c rows l.pair l.why h.closed.0)
odd_long c rows (l ∷ k ∷ []) h = absurd (omega (arith, h.odd))
odd_long c rows (l ∷ k ∷ m ∷ lines) h = omega arith

-- with no pair twice it is an odd cycle
pub cycle_from : (c : ℕ) (rows : List (List ℕ)) (lines : List Line) → IsOddWalk c rows lines → AllPairs (λ (x : Line) (y : Line). x.pair ≢ y.pair) lines → IsOddCycle c rows lines
cycle_from c rows lines h d = record { closed = h.closed; simple = record { odd = h.odd; long = odd_long c rows lines h; distinct = d } }

-- what joins two pairs in the first rows joins them in all
pub joined_more : (c : ℕ) (rows : List (List ℕ)) (n : ℕ) (v w : Pair) (why : Why) → n ≤ length rows → JoinedBy c (take n rows) v w why → JoinedBy c rows v w why
joined_more c rows n v w Flip l j = record { from = j.from; to = j.to; fits = j.fits }
joined_more c rows n v w (Row k) l j =
    let within : k ≤ n = omega (arith, length-take-le n rows l) in
    let same : row_at (take n rows) k ≡ row_at rows k = get_or-take n rows (k - 1) [] (omega arith) in
    record {
      from = j.from;
      to = j.to;
      fits = (
        j.fits.0,
        omega arith,
        elim j.fits.2 [
          | inl x ↦ inl (subst (λ row. Crosses row v w) same x)
          | inr x ↦ inr (subst (λ row. Crosses row w v) same x)
        ],
      );
    }

pub lead_more : (c : ℕ) (rows : List (List ℕ)) (n : ℕ) (lines : List Line) (end : Pair) → n ≤ length rows → LeadTo c (take n rows) lines end → LeadTo c rows lines end
lead_more c rows n [] end l h = tt
lead_more c rows n (line ∷ lines) end l h = (joined_more c rows n line.pair (first_pair lines end) line.why l h.0, lead_more c rows n lines end l h.1)

-- a closed walk in the first rows is one in all
pub closed_more : (c : ℕ) (rows : List (List ℕ)) (n : ℕ) (lines : List Line) → n ≤ length rows → IsClosedWalk c (take n rows) lines → IsClosedWalk c rows lines
closed_more c rows n [] l h = tt
closed_more c rows n (line ∷ lines) l h = lead_more c rows n (line ∷ lines) line.pair l h

-- the pairs of the lines after the first, and then the end, are the steps of a walk from the first
lead_walk : (c : ℕ) (rows : List (List ℕ)) (line : Line) (lines : List Line) (end : Pair) → LeadTo c rows (line ∷ lines) end →
    IsWalk (Joined c rows) line.pair (map pair_of lines ++ end ∷ []) end
lead_walk c rows line [] end h = ((line.why, h.0), refl)
lead_walk c rows line (next ∷ lines) end h = ((line.why, h.0), lead_walk c rows next lines end h.1)

-- the lines of a closed walk of odd length show that there is one
pub odd_walk_from_lines : (c : ℕ) (rows : List (List ℕ)) (lines : List Line) → IsOddWalk c rows lines → HasOddWalk c rows
odd_walk_from_lines c rows [] h = absurd (omega (arith, h.odd))
odd_walk_from_lines c rows (line ∷ lines) h =
    record {
      start = line.pair;
      walk = record {
        steps = map pair_of lines ++ line.pair ∷ [];
        walk = lead_walk c rows line lines line.pair h.closed;
        half = length lines / 2;
        odd = omega (arith, h.odd, length-append (map pair_of lines) (line.pair ∷ []), length-map lines pair_of);
      };
    }

-- a line for each pair of a walk but the last, with the reason that joins it to the next
lines_of : (c : ℕ) (rows : List (List ℕ)) (v : Pair) (us : List Pair) (w : Pair) → IsWalk (Joined c rows) v us w → List Line
lines_of c rows v [] w h = []
lines_of c rows v (u ∷ us) w h = record { pair = v; why = h.0.0 } ∷ lines_of c rows u us w h.1

lines_first : (c : ℕ) (rows : List (List ℕ)) (v : Pair) (us : List Pair) (w : Pair) (h : IsWalk (Joined c rows) v us w) → first_pair (lines_of c rows v us w h) w ≡ v
unfolding lines_of
lines_first c rows v [] w h = sym h
lines_first c rows v (u ∷ us) w h = refl

lines_lead : (c : ℕ) (rows : List (List ℕ)) (v : Pair) (us : List Pair) (w : Pair) (h : IsWalk (Joined c rows) v us w) → LeadTo c rows (lines_of c rows v us w h) w
unfolding lines_of
lines_lead c rows v [] w h = tt
lines_lead c rows v (u ∷ us) w h =
    (subst (λ x. JoinedBy c rows v x h.0.0) (sym (lines_first c rows u us w h.1)) h.0.1, lines_lead c rows u us w h.1)

lines_count : (c : ℕ) (rows : List (List ℕ)) (v : Pair) (us : List Pair) (w : Pair) (h : IsWalk (Joined c rows) v us w) → length (lines_of c rows v us w h) ≡ length us
unfolding lines_of
lines_count c rows v [] w h = refl
lines_count c rows v (u ∷ us) w h = omega (arith, lines_count c rows u us w h.1)

-- a closed walk of odd length can be written as lines
pub lines_from_odd_walk : (c : ℕ) (rows : List (List ℕ)) → HasOddWalk c rows → (lines : List Line) × IsOddWalk c rows lines
lines_from_odd_walk c rows h =
    let w : IsOddly (Joined c rows) h.start h.start = h.walk in
    let lines : List Line = lines_of c rows h.start w.steps h.start w.walk in (
      lines,
      record {
        closed = closed_from c rows lines h.start (lines_lead c rows h.start w.steps h.start w.walk) (lines_first c rows h.start w.steps h.start w.walk);
        odd = omega (arith, lines_count c rows h.start w.steps h.start w.walk, w.odd);
      },
    )
