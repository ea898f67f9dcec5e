-- A closed walk of odd length contains an odd cycle: the walk is followed until a pair comes again.
use Rattle.std.proofs.Common.{◌≡◌, ◌≢◌, ◌⊎◌, ◌∙◌, ℕ, zero, suc, ◌+◌, ◌-◌, ◌%◌, ◌<◌, ◌≤◌, List, [], ◌∷◌, ◌++◌, length, take, drop, get_or, slice_get, Some, All, AllPairs, inl, inr, refl, sym, ap, subst, arith, length-drop}
use Rattle.std.specs.Prelude.{Contains}
use Rattle.std.proofs.lemmas.Bool.{cases_eq}
use Rattle.std.proofs.lemmas.List.{get_or-drop, get_or-take, length-take-le}
use Rattle.std.proofs.lemmas.List.Elements.{All-take, All-drop, All-push}
use Rattle.std.proofs.lemmas.List.Quantifiers.{all_pairs_push}
use Rattle.std.proofs.lemmas.Option.{slice_get_within, get_or_from_slice_get}
use Rattle.row_model.specs.declared.graph.Pair.{Pair}
use Rattle.row_model.specs.declared.graph.Line.{Line}
use Rattle.row_model.specs.Cycles.{IsClosedWalk}
use Rattle.row_model.proofs.CycleLaws.{cycle_from}
use Rattle.row_model.proofs.Pairs.{cases_pair}
use Rattle.walk_search.specs.Laws.{HasOddCycle, OddCycleLaw}
use Rattle.walk_search.proofs.PathLaws.{Follows, follows_none, follows_more, follows_cut, follows_odd, follows_all}

-- no two lines have the same pair
abbrev IsDistinct : List Line → Type 0
IsDistinct path = AllPairs (λ (x : Line) (y : Line). x.pair ≢ y.pair) path

-- a line of the path has the pair
record HasPair (path : List Line) (v : Pair) : Type 0 where
  index : ℕ
  line : Line
  there : slice_get path index ≡ Some line
  same : line.pair ≡ v

-- none has it
abbrev LacksPair : List Line → Pair → Type 0
LacksPair path v = (k : ℕ) (d : Line) → k < length path → (get_or path k d).pair ≢ v

find : (path : List Line) (v : Pair) → HasPair path v ⊎ LacksPair path v
find [] v = inr (λ k d l. absurd (omega arith))
find (line ∷ path) v =
    elim (cases_pair line.pair v) [
      | inl e ↦ inl (record { index = 0; line = line; there = refl; same = e })
      | inr n ↦ elim (find path v) [
        | inl h ↦ inl (record { index = suc h.index; line = h.line; there = h.there; same = h.same })
        | inr h ↦ inr (lacks n h)
      ]
    ]
  where
    lacks : line.pair ≢ v → LacksPair path v → LacksPair (line ∷ path) v
    lacks n h zero d l = n
    lacks n h (suc k) d l = h k d (omega arith)

distinct_take : (path : List Line) (i : ℕ) → i ≤ length path → IsDistinct path → IsDistinct (take i path)
distinct_take path i within h j k d l m =
    let short : k < i = omega (arith, m, length-take-le i path within) in
    subst (λ (x : Line). x.pair ≢ (get_or (take i path) k d).pair) (sym (get_or-take i path j d (omega arith)))
    (subst (λ (y : Line). (get_or path j d).pair ≢ y.pair) (sym (get_or-take i path k d short)) (h j k d l (omega arith)))

distinct_drop : (path : List Line) (i : ℕ) → IsDistinct path → IsDistinct (drop i path)
distinct_drop path i h j k d l m =
    subst (λ (x : Line). x.pair ≢ (get_or (drop i path) k d).pair) (sym (get_or-drop i path j d))
    (subst (λ (y : Line). (get_or path (i + j) d).pair ≢ y.pair) (sym (get_or-drop i path k d)) (h (i + j) (i + k) d (omega arith) (omega (arith, m, length-drop i path))))

module _ (c : ℕ) (rows : List (List ℕ)) (walk : List Line) (closed : IsClosedWalk c rows walk) where
  -- what is left of the first lines of the walk, with no pair twice
  record IsLeft (done : ℕ) (path : List Line) : Type 0 where
    follows : Follows c rows walk done path
    distinct : IsDistinct path
    among : All (Contains walk) path

  module _ (done : ℕ) (path : List Line) (line : Line) (here : slice_get walk done ≡ Some line) (left : IsLeft done path) where
    line_among : Contains walk line
    line_among = (done, slice_get_within walk done line here, get_or_from_slice_get walk done line line here)

    -- the pair is a new one
    further : LacksPair path line.pair → IsLeft (done + 1) (path ++ line ∷ [])
    further h =
        record {
          follows = follows_more c rows walk done line path here left.follows closed;
          distinct = all_pairs_push (λ (x : Line) (y : Line). x.pair ≢ y.pair) path line left.distinct h;
          among = All-push (Contains walk) path line left.among line_among;
        }

    module _ (h : HasPair path line.pair) where
      within : h.index < length path
      within = slice_get_within path h.index h.line h.there

      -- the pair came an odd number of lines ago
      found : (length path - h.index) % 2 ≡ 1 → HasOddCycle c rows walk
      found odd =
          record {
            lines = drop h.index path;
            cycle = cycle_from c rows (drop h.index path) (follows_odd c rows walk done line path here left.follows h.index h.line h.there h.same odd) (distinct_drop path h.index left.distinct);
            among = All-drop (Contains walk) h.index path left.among;
          }

      lacks_cut : LacksPair (take h.index path) line.pair
      lacks_cut k d l e =
          let short : k < h.index = omega (arith, l, length-take-le h.index path (omega (arith, within))) in
          let at : get_or path h.index d ≡ h.line = get_or_from_slice_get path h.index h.line d h.there in
          left.distinct k h.index d short within
          (ap (λ (x : Line). x.pair) (sym (get_or-take h.index path k d short)) ∙ e ∙ sym h.same ∙ ap (λ (x : Line). x.pair) (sym at))

      -- it came an even number of lines ago: these lines are left out
      shorter : (length path - h.index) % 2 ≢ 1 → IsLeft (done + 1) (take h.index path ++ line ∷ [])
      shorter n =
          let cut = follows_cut c rows walk done line path here left.follows h.index h.line h.there h.same (omega (arith, n)) in
          record {
            follows = follows_more c rows walk done line (take h.index path) here cut closed;
            distinct = all_pairs_push (λ (x : Line) (y : Line). x.pair ≢ y.pair) (take h.index path) line (distinct_take path h.index (omega (arith, within)) left.distinct) lacks_cut;
            among = All-push (Contains walk) (take h.index path) line (All-take (Contains walk) h.index path left.among) line_among;
          }

    next_left : HasOddCycle c rows walk ⊎ ((more : List Line) × IsLeft (done + 1) more)
    next_left =
        elim (find path line.pair) [
          | inl h ↦ elim (cases_eq ((length path - h.index) % 2) 1) [
            | inl odd ↦ inl (found h odd)
            | inr n ↦ inr (take h.index path ++ line ∷ [], shorter h n)
          ]
          | inr h ↦ inr (path ++ line ∷ [], further h)
        ]

  followed : (done : ℕ) → done ≤ length walk → HasOddCycle c rows walk ⊎ ((path : List Line) × IsLeft done path)
  followed zero l = inr ([], record { follows = follows_none c rows walk; distinct = λ i j d a b. absurd (omega arith); among = λ k d b. absurd (omega arith) })
  followed (suc done) l =
      elim (followed done (omega arith)) [
        | inl h ↦ inl h
        | inr p ↦ again p (line_there done (omega arith))
      ]
    where
      line_there : (k : ℕ) → k < length walk → (line : Line) × (slice_get walk k ≡ Some line)
      line_there k b = there walk k b
        where
          there : (xs : List Line) (j : ℕ) → j < length xs → (line : Line) × (slice_get xs j ≡ Some line)
          there [] j m = absurd (omega arith)
          there (x ∷ xs) zero m = (x, refl)
          there (x ∷ xs) (suc j) m = there xs j (omega arith)

      again : ((path : List Line) × IsLeft done path) → ((line : Line) × (slice_get walk done ≡ Some line)) → HasOddCycle c rows walk ⊎ ((path : List Line) × IsLeft (suc done) path)
      again p x = elim (next_left done p.0 x.0 x.1 p.1) [ inl h ↦ inl h | inr q ↦ inr (q.0, subst (λ n. IsLeft n q.0) (omega arith) q.1) ]

pub odd_cycle_law : OddCycleLaw
odd_cycle_law c rows walk h =
    elim (followed c rows walk h.closed (length walk) (omega arith)) [
      | inl found ↦ found
      | inr p ↦ record {
        lines = p.0;
        cycle = cycle_from c rows p.0 (follows_all c rows walk p.0 p.1.follows h.odd) p.1.distinct;
        among = p.1.among;
      }
    ]
