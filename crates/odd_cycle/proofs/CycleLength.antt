-- How many lines there are where no pair comes twice, or no two columns do.
use Rattle.std.proofs.Common.{◌≡◌, ◌≢◌, ◌⊎◌, ◌∙◌, ℕ, ◌+◌, ◌-◌, ◌*◌, ◌<◌, ◌≤◌, true, false, cond, eqb, ltb, List, ◌++◌, length, map, get_or, All, AllPairs, inl, inr, sym, ap, subst, arith}
use Rattle.std.specs.List.{list_any}
use Rattle.std.proofs.lemmas.Bool.{cases_Bool, cases_lt, eqb-true, ltb-true, ltb-false, ne_eqb}
use Rattle.std.proofs.lemmas.List.Folds.{Any-from_list_any}
use Rattle.std.proofs.lemmas.List.{get_or-map, length-map, length-append, get_or_append_left, get_or-append_right}
use Rattle.std.proofs.lemmas.Map.Keys.{IsDistinct-from_apart}
use Rattle.std.proofs.lemmas.Map.Steps.{length-le_from_distinct_below}
use Rattle.std.proofs.lemmas.Nat.{same_from_place, mul-add-lt}
use Rattle.std.proofs.lemmas.Option.{slice_get-get_or}
use Rattle.row_model.specs.declared.graph.Pair.{Pair}
use Rattle.row_model.specs.declared.graph.Line.{Line}
use Rattle.row_model.specs.declared.graph.Why.TheVariants.{Flip}
use Rattle.row_model.specs.Graph.{pair, turned, IsPair}
use Rattle.row_model.specs.Cycles.{pair_of, first_pair, IsClosedWalk, IsOddCycle}
use Rattle.row_model.proofs.CycleLaws.{lead_line, closed_leads}
use Rattle.row_model.proofs.Pairs.{same_pair}
use Rattle.odd_cycle.specs.Short.{lesser_first, columns_of}
use Rattle.odd_cycle.proofs.PairLaws.{turned_pair, columns_turned, never_turned}

-- what stands past the end of a list of lines
abbrev pub blank : Line
blank = record { pair = pair 0 0; why = Flip }

-- the place of the second column among the columns but the first, from 0
among_others : Pair → ℕ
among_others v = cond (ltb v.b v.a) (v.b - 1) (v.b - 2)

others_cases : (v : Pair) → ((v.b < v.a) × (among_others v ≡ v.b - 1)) ⊎ ((v.a ≤ v.b) × (among_others v ≡ v.b - 2))
unfolding among_others
others_cases v =
    elim (cases_Bool (ltb v.b v.a)) [
      | inl t ↦ inl (ltb-true v.b v.a t, ap (λ t. cond t (v.b - 1) (v.b - 2)) t)
      | inr t ↦ inr (ltb-false v.b v.a t, ap (λ t. cond t (v.b - 1) (v.b - 2)) t)
    ]

-- the place of a pair in a table of c rows and c - 1 columns
pair_place : ℕ → Pair → ℕ
pair_place c v = (v.a - 1) * (c - 1) + among_others v

others-lt : (c : ℕ) (v : Pair) → IsPair c v → among_others v < c - 1
others-lt c v p =
    elim (others_cases v) [
      | inl t ↦ omega (arith, t.0, t.1)
      | inr t ↦ omega (arith, t.0, t.1, p.distinct)
    ]

pair_place-lt : (c : ℕ) (v : Pair) → IsPair c v → pair_place c v < c * (c - 1)
unfolding pair_place
pair_place-lt c v p =
    let l : pair_place c v < (c - 1) * c = mul-add-lt (v.a - 1) (c - 1) (among_others v) c (omega arith) (others-lt c v p) in
    grind (arith, l)

-- no two pairs have one place
pair_place-inj : (c : ℕ) (v w : Pair) → IsPair c v → IsPair c w → pair_place c v ≡ pair_place c w → v ≡ w
unfolding pair_place
pair_place-inj c v w p q e =
    let s : (v.a - 1 ≡ w.a - 1) × (among_others v ≡ among_others w) = same_from_place (v.a - 1) (among_others v) (w.a - 1) (among_others w) (c - 1) (others-lt c v p) (others-lt c w q) e in
    let first : v.a ≡ w.a = omega arith in
    same_pair v w first (elim (others_cases v) [
      | inl t ↦ elim (others_cases w) [ inl u ↦ omega (arith, s.1, t, u) | inr u ↦ omega (arith, s.1, t, u, q.distinct) ]
      | inr t ↦ elim (others_cases w) [ inl u ↦ omega (arith, s.1, t, u, p.distinct) | inr u ↦ omega (arith, s.1, t, u, p.distinct, q.distinct) ]
    ])

-- distinct pairs of columns are no more than there are
pub pairs_few : (c : ℕ) (vs : List Pair) → All (IsPair c) vs → AllPairs (λ (v : Pair) (w : Pair). v ≢ w) vs → length vs ≤ c * (c - 1)
pairs_few c vs pairs apart =
    let none : Pair = pair 0 0 in
    let places = map (pair_place c) vs in
    let at : (i d : ℕ) → i < length vs → get_or places i d ≡ pair_place c (get_or vs i none) = λ i d l. get_or-map (pair_place c) vs i none d l in
    let unlike : (i j d : ℕ) → i < j → j < length places → eqb (get_or places i d) (get_or places j d) ≡ false = λ i j d l m.
    let m' : j < length vs = omega (arith, m, length-map vs (pair_place c)) in
    let l' : i < length vs = omega arith in
    ne_eqb (get_or places i d) (get_or places j d) (λ s. apart i j none l m' (pair_place-inj c (get_or vs i none) (get_or vs j none) (pairs i none l') (pairs j none m') (sym (at i d l') ∙ s ∙ at j d m'))) in
    let below : (q : ℕ) → list_any (eqb q) places ≡ true → q < c * (c - 1) = λ q e.
    let found = Any-from_list_any (eqb q) places e in
    let k = found.0 in
    let l : k < length vs = omega (arith, found.2, length-map vs (pair_place c)) in
    omega (arith, eqb-true q found.1 found.4, found.3, at k found.1 l, pair_place-lt c (get_or vs k none) (pairs k none l)) in
    omega (arith, length-le_from_distinct_below places (c * (c - 1)) (IsDistinct-from_apart eqb places unlike) below, length-map vs (pair_place c))

-- each line of a closed walk has a pair of columns
pub lines_pairs : (c : ℕ) (rows : List (List ℕ)) (lines : List Line) → IsClosedWalk c rows lines → All (λ (line : Line). IsPair c line.pair) lines
lines_pairs c rows lines closed i d l =
    (lead_line c rows lines i (get_or lines i d) (first_pair lines (pair 0 0)) (slice_get-get_or lines i d l) (closed_leads c rows lines (pair 0 0) closed)).from

pub cycle_length : (c : ℕ) (rows : List (List ℕ)) (lines : List Line) → IsOddCycle c rows lines → length lines ≤ c * (c - 1)
cycle_length c rows lines h =
    let vs = map pair_of lines in
    let at : (i : ℕ) (d : Pair) → i < length lines → get_or vs i d ≡ (get_or lines i blank).pair = λ i d l. get_or-map pair_of lines i blank d l in
    let pairs : All (IsPair c) vs = λ i d l.
    let l' : i < length lines = omega (arith, l, length-map lines pair_of) in
    subst (IsPair c) (sym (at i d l')) (lines_pairs c rows lines h.closed i blank l') in
    let apart : AllPairs (λ (v : Pair) (w : Pair). v ≢ w) vs = λ i j d l m s.
    let m' : j < length lines = omega (arith, m, length-map lines pair_of) in
    h.simple.distinct i j blank l m' (sym (at i d (omega arith)) ∙ s ∙ at j d m') in
    omega (arith, pairs_few c vs pairs apart, length-map lines pair_of)

module _ (c : ℕ) (path : List Line) (pairs : All (λ (line : Line). IsPair c line.pair) path) (apart : AllPairs (λ (x : Line) (y : Line). columns_of x ≢ columns_of y) path) where
  -- the pair turned
  back_of : Line → Pair
  back_of line = turned line.pair

  n : ℕ
  n = length path

  -- the pairs of the lines, and each of them turned
  both : List Pair
  both = map pair_of path ++ map back_of path

  long : length both ≡ n + n
  unfolding both n
  long = omega (arith, length-append (map pair_of path) (map back_of path), length-map path pair_of, length-map path back_of)

  line_at : ℕ → Line
  line_at i = get_or path i blank

  is_pair : (i : ℕ) → i < n → IsPair c (line_at i).pair
  unfolding n line_at
  is_pair i l = pairs i blank l

  one : (i : ℕ) (d : Pair) → i < n → get_or both i d ≡ (line_at i).pair
  unfolding both n line_at
  one i d l = get_or_append_left (map pair_of path) (map back_of path) d i (omega (arith, l, length-map path pair_of)) ∙ get_or-map pair_of path i blank d l

  other : (i : ℕ) (d : Pair) → n ≤ i → i < n + n → get_or both i d ≡ turned (line_at (i - n)).pair
  unfolding both n line_at back_of
  other i d m l = get_or-append_right (map pair_of path) (map back_of path) (length path) i d (length-map path pair_of) m ∙ get_or-map back_of path (i - length path) blank d (omega arith)

  -- lines with the same columns are one line
  same_line : (i j : ℕ) → i < n → j < n → lesser_first (line_at i).pair ≡ lesser_first (line_at j).pair → i ≡ j
  unfolding n line_at
  same_line i j l m e =
      elim (cases_lt i j) [
        | inl a ↦ absurd (apart i j blank a m e)
        | inr b ↦ elim (cases_lt j i) [ inl a ↦ absurd (apart j i blank a l (sym e)) | inr a ↦ omega arith ]
      ]

  both_pairs : All (IsPair c) both
  both_pairs i d l =
      elim (cases_lt i n) [
        | inl a ↦ subst (IsPair c) (sym (one i d a)) (is_pair i a)
        | inr a ↦
            let b : i < n + n = omega (arith, l, long) in
            subst (IsPair c) (sym (other i d a b)) (turned_pair c (line_at (i - n)).pair (is_pair (i - n) (omega arith)))
      ]

  both_apart : AllPairs (λ (v : Pair) (w : Pair). v ≢ w) both
  both_apart i j d l m e =
      let b : j < n + n = omega (arith, m, long) in
      elim (cases_lt j n) [
        | inl a ↦
            let s : i ≡ j = same_line i j (omega arith) a (ap lesser_first (sym (one i d (omega arith)) ∙ e ∙ one j d a)) in
            omega (arith, s, l)
        | inr a ↦ elim (cases_lt i n) [
          | inl k ↦
              let w = line_at (j - n) in
              let p = is_pair (j - n) (omega arith) in
              let g : (line_at i).pair ≡ turned w.pair = sym (one i d k) ∙ e ∙ other j d a b in
              let s : i ≡ j - n = same_line i (j - n) k (omega arith) (ap lesser_first g ∙ columns_turned w.pair p.distinct) in
              never_turned w.pair p.distinct (subst (λ x. (line_at x).pair ≡ turned w.pair) s g)
          | inr k ↦
              let g : turned (line_at (i - n)).pair ≡ turned (line_at (j - n)).pair = sym (other i d k (omega arith)) ∙ e ∙ other j d a b in
              let s : i - n ≡ j - n = same_line (i - n) (j - n) (omega arith) (omega arith) (ap (λ (v : Pair). lesser_first (turned v)) g) in
              omega (arith, s, l, k)
        ]
      ]

  -- of two ordered pairs with the same columns no more than one is in the path
  pub half_length : 2 * length path ≤ c * (c - 1)
  unfolding n
  half_length = omega (arith, long, pairs_few c both both_pairs both_apart)
