-- Walks that are looked at line by line.
use Rattle.std.proofs.Common.{◌≡◌, ◌⊎◌, ◌∙◌, ℕ, zero, suc, ◌+◌, ◌*◌, ◌-◌, ◌≤◌, List, [], ◌∷◌, ◌++◌, length, take, drop, slice_get, Some, refl, sym, ap, subst, arith}
use Rattle.std.proofs.lemmas.List.{take_more, take_all, get_or-take, length-take-le}
use Rattle.std.proofs.lemmas.Option.{none-some, same_Some, get_or_from_slice_get, slice_get_within}
use Rattle.std.proofs.Math.ListN.{drop_of_length-le}
use Rattle.row_model.specs.declared.graph.Pair.{Pair}
use Rattle.row_model.specs.declared.graph.Line.{Line}
use Rattle.row_model.specs.declared.graph.Why.{Why}
use Rattle.row_model.specs.declared.graph.Why.TheVariants.{Flip, Row}
use Rattle.row_model.specs.Graph.{pair, row_at, Crosses, JoinedBy}
use Rattle.row_model.specs.Cycles.{first_pair, LeadTo, IsClosedWalk}
use Rattle.odd_cycle.specs.Short.{flip_of, flips}
use Rattle.row_model.proofs.CycleLaws.{lead_push, first_drop, closed_from}

-- what a yes costs: three steps by a row, and none by a flip
pub paid : (why : Why) (old new : ℕ) → ((k : ℕ) → why ≡ Row k → new ≡ old + 3) → (why ≡ Flip → new ≡ old) → old + 3 ≤ new + 3 * flip_of why
paid Flip old new row flip = omega (arith, flip refl)
paid (Row k) old new row flip = omega (arith, row k refl)

-- the flips of one more line
flips_next : (lines : List Line) (i : ℕ) (line : Line) → slice_get lines i ≡ Some line → flips (take (suc i) lines) ≡ flips (take i lines) + flip_of line.why
flips_next [] i line e = absurd (none-some line e)
flips_next (x ∷ lines) zero line e = omega (arith, ap (λ (l : Line). flip_of l.why) (same_Some x line e))
flips_next (x ∷ lines) (suc i) line e = omega (arith, flips_next lines i line e)

pub flips_more : (lines : List Line) (i : ℕ) (line : Line) → slice_get lines i ≡ Some line → flips (take (i + 1) lines) ≡ flips (take i lines) + flip_of line.why
flips_more lines i line e =
    let up : i + 1 ≡ suc i = omega arith in
    rw up (flips_next lines i line e)

-- each of the first lines leads to the next
abbrev pub IsLed : ℕ → List (List ℕ) → List Line → ℕ → Type 0
IsLed c rows lines i = (end : Pair) → first_pair lines end ≡ end → LeadTo c rows (take i lines) (first_pair (drop i lines) end)

pub led_more : (c : ℕ) (rows : List (List ℕ)) (lines : List Line) (i : ℕ) (line : Line) (behind : Pair) → slice_get lines i ≡ Some line → IsLed c rows lines i →
    ((end : Pair) → first_pair lines end ≡ end → behind ≡ first_pair (drop (i + 1) lines) end) → JoinedBy c rows line.pair behind line.why → IsLed c rows lines (i + 1)
led_more c rows lines i line behind at h is j end e =
    let front : take (i + 1) lines ≡ take i lines ++ line ∷ [] = take_more lines i line (slice_get_within lines i line at) ∙ ap (λ x. take i lines ++ x ∷ []) (get_or_from_slice_get lines i line line at) in
    let before = subst (LeadTo c rows (take i lines)) (first_drop lines i line end at) (h end e) in
    subst (λ ls. LeadTo c rows ls (first_pair (drop (i + 1) lines) end)) (sym front) (lead_push c rows (take i lines) line (first_pair (drop (i + 1) lines) end) before (subst (λ v. JoinedBy c rows line.pair v line.why) (is end e) j))

first_again : (lines : List Line) (end : Pair) → first_pair lines (first_pair lines end) ≡ first_pair lines end
first_again [] end = refl
first_again (l ∷ lines) end = refl

pub led_all : (c : ℕ) (rows : List (List ℕ)) (lines : List Line) (n : ℕ) → length lines ≤ n → IsLed c rows lines n → IsClosedWalk c rows lines
led_all c rows lines n l h =
    let end = first_pair lines (pair 0 0) in
    let e : first_pair lines end ≡ end = first_again lines (pair 0 0) in
    let none : drop n lines ≡ [] = drop_of_length-le lines l in
    let led = subst (λ more. LeadTo c rows (take n lines) (first_pair more end)) none (h end e) in
    closed_from c rows lines end (subst (λ ls. LeadTo c rows ls end) (take_all n lines l) led) e

-- the pair behind a line that is not the last
pub behind_next : (lines : List Line) (i : ℕ) (next : Line) (end : Pair) → slice_get lines (i + 1) ≡ Some next → next.pair ≡ first_pair (drop (i + 1) lines) end
behind_next lines i next end at = sym (first_drop lines (i + 1) next end at)

-- and behind the last one
pub behind_last : (lines : List Line) (i : ℕ) (first : Line) (end : Pair) → slice_get lines 0 ≡ Some first → length lines ≤ i + 1 → first_pair lines end ≡ end → first.pair ≡ first_pair (drop (i + 1) lines) end
behind_last lines i first end at l e =
    let none : drop (i + 1) lines ≡ [] = drop_of_length-le lines l in
    sym (first_drop lines 0 first end at) ∙ e ∙ sym (ap (λ more. first_pair more end) none)

-- pairs that a reason among the first rows joins are joined in these
pub joined_within : (c : ℕ) (rows : List (List ℕ)) (n : ℕ) (v w : Pair) (why : Why) → n ≤ length rows → ((k : ℕ) → why ≡ Row k → k ≤ n) → JoinedBy c rows v w why → JoinedBy c (take n rows) v w why
joined_within c rows n v w Flip l h j = record { from = j.from; to = j.to; fits = j.fits }
joined_within c rows n v w (Row k) l h j =
    let few : k ≤ n = h k refl in
    let same : row_at (take n rows) k ≡ row_at rows k = get_or-take n rows (k - 1) [] (omega (arith, j.fits.0)) in
    let long : k ≤ length (take n rows) = omega (arith, length-take-le n rows l) in
    record { from = j.from; to = j.to; fits = (j.fits.0, long, subst (λ row. Crosses row v w ⊎ Crosses row w v) (sym same) j.fits.2) }
