-- Paths of lines with no pair twice.
use Rattle.std.proofs.Common.{◌≡◌, ◌∙◌, ℕ, ◌+◌, ◌-◌, ◌%◌, List, [], ◌∷◌, ◌++◌, length, take, drop, slice_get, Some, refl, sym, ap, subst, arith}
use Rattle.row_model.specs.declared.graph.Pair.{Pair}
use Rattle.row_model.specs.declared.graph.Line.{Line}
use Rattle.row_model.specs.Graph.{pair}
use Rattle.row_model.specs.Cycles.{first_pair, LeadTo, IsClosedWalk, IsOdd, IsOddWalk}
use Rattle.row_model.proofs.CycleLaws.{first_pushed, first_drop, first_take, lead_push, lead_take, lead_drop, lead_line, closed_from, closed_leads}
use Rattle.std.proofs.lemmas.Option.{slice_get_within}
use Rattle.std.proofs.lemmas.List.{length-append, length-take-le, length-drop, drop_all}

-- the first pair of a walk
abbrev pub start : List Line → Pair
start walk = first_pair walk (pair 0 0)

-- the pair to which the lines so far lead
abbrev pub next : List Line → ℕ → Pair
next walk done = first_pair (drop done walk) (start walk)

-- the path that is left of the first lines of a walk leads from the walk's start to its next pair, and both are odd or even in number
pub record Follows (c : ℕ) (rows : List (List ℕ)) (walk : List Line) (done : ℕ) (path : List Line) : Type 0 where
  pub leads : LeadTo c rows path (next walk done)
  pub starts : first_pair path (next walk done) ≡ start walk
  pub parity : length path % 2 ≡ done % 2

pub follows_none : (c : ℕ) (rows : List (List ℕ)) (walk : List Line) → Follows c rows walk 0 []
follows_none c rows [] = record { leads = tt; starts = refl; parity = refl }
follows_none c rows (line ∷ walk) = record { leads = tt; starts = refl; parity = refl }

module _ (c : ℕ) (rows : List (List ℕ)) (walk : List Line) (done : ℕ) (line : Line) (path : List Line) (here : slice_get walk done ≡ Some line) (was : Follows c rows walk done path) where
  at_line : next walk done ≡ line.pair
  at_line = first_drop walk done line (start walk) here

  -- one more line
  pub follows_more : IsClosedWalk c rows walk → Follows c rows walk (done + 1) (path ++ line ∷ [])
  follows_more closed =
      let leads : LeadTo c rows path line.pair = subst (LeadTo c rows path) at_line was.leads in
      record {
        leads = lead_push c rows path line (next walk (done + 1)) leads (lead_line c rows walk done line (start walk) here (closed_leads c rows walk (pair 0 0) closed));
        starts = first_pushed path line (next walk (done + 1)) ∙ ap (first_pair path) (sym at_line) ∙ was.starts;
        parity = omega (arith, length-append path (line ∷ []), was.parity);
      }

  module _ (i : ℕ) (earlier : Line) (there : slice_get path i ≡ Some earlier) (same : earlier.pair ≡ line.pair) where
    -- an even number of lines since the same pair is left out
    pub follows_cut : (length path - i) % 2 ≡ 0 → Follows c rows walk done (take i path)
    follows_cut even =
        let e : earlier.pair ≡ next walk done = same ∙ sym at_line in
        record {
          leads = subst (LeadTo c rows (take i path)) e (lead_take c rows path i earlier (next walk done) there was.leads);
          starts = ap (first_pair (take i path)) (sym e) ∙ first_take path i earlier (next walk done) there ∙ was.starts;
          parity = omega (arith, even, was.parity, slice_get_within path i earlier there, length-take-le i path);
        }

    -- an odd number of lines since the same pair is a closed walk
    pub follows_odd : (length path - i) % 2 ≡ 1 → IsOddWalk c rows (drop i path)
    follows_odd odd =
        let e : first_pair (drop i path) (next walk done) ≡ next walk done = first_drop path i earlier (next walk done) there ∙ same ∙ sym at_line in
        record {
          closed = closed_from c rows (drop i path) (next walk done) (lead_drop c rows path i (next walk done) was.leads) e;
          odd = omega (arith, odd, length-drop i path);
        }

-- at the end the path is a closed walk of odd length
pub follows_all : (c : ℕ) (rows : List (List ℕ)) (walk path : List Line) → Follows c rows walk (length walk) path → IsOdd (length walk) → IsOddWalk c rows path
follows_all c rows walk path h odd =
    let e : next walk (length walk) ≡ start walk = ap (λ more. first_pair more (start walk)) (drop_all (length walk) walk (omega arith)) in
    record { closed = closed_from c rows path (next walk (length walk)) h.leads (h.starts ∙ sym e); odd = omega (arith, odd, h.parity) }
