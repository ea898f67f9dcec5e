-- Folded closed walks of odd length are short odd cycles.
use Rattle.std.proofs.Common.{◌≡◌, ◌≢◌, ◌∙◌, ℕ, ◌+◌, ◌<◌, ◌≤◌, zero, suc, List, [], ◌∷◌, ◌++◌, length, take, drop, get_or, All, AllPairs, refl, inl, inr, sym, ap, subst, arith}
use Rattle.std.proofs.lemmas.Bool.{cases_eq}
use Rattle.std.proofs.lemmas.List.{length-append, drop_all, get_or_append_left, get_or_default}
use Rattle.std.proofs.lemmas.List.Quantifiers.{all_pairs_push}
use Rattle.row_model.specs.declared.graph.Pair.{Pair}
use Rattle.row_model.specs.declared.graph.Line.{Line}
use Rattle.row_model.specs.declared.graph.Why.{Why}
use Rattle.row_model.specs.declared.graph.Why.TheVariants.{Flip, Row}
use Rattle.row_model.specs.Graph.{pair, turned, IsPair, JoinedBy}
use Rattle.row_model.specs.Cycles.{first_pair, IsOddWalk, IsOddCycle}
use Rattle.row_model.proofs.CycleLaws.{lead_line, closed_leads, odd_long, cycle_from}
use Rattle.row_model.proofs.Pairs.{same_pair}
use Rattle.odd_cycle.proofs.Items.{item_last}
use Rattle.odd_cycle.specs.Laws.{ShortCycleLaw}
use Rattle.odd_cycle.specs.Short.{flip_of, flips, IsShort, lesser_first, columns_of, IsStraight}
use Rattle.odd_cycle.proofs.PairLaws.{columns_turned, never_turned}
use Rattle.odd_cycle.proofs.CycleLength.{blank, lines_pairs, half_length}

pub no_flip_of : (why : Why) → (why ≡ Flip → ⊥) → flip_of why ≡ 0
no_flip_of Flip n = absurd (n refl)
no_flip_of (Row k) n = refl

pub flips-append : (lines more : List Line) → flips (lines ++ more) ≡ flips lines + flips more
flips-append [] more = omega arith
flips-append (l ∷ lines) more = omega (arith, flips-append lines more)

pub no_flips_take : (n : ℕ) (lines : List Line) → flips lines ≡ 0 → flips (take n lines) ≡ 0
no_flips_take zero lines e = refl
no_flips_take (suc n) [] e = refl
no_flips_take (suc n) (l ∷ lines) e = omega (arith, e, no_flips_take n lines (omega (arith, e)))

pub no_flips_drop : (n : ℕ) (lines : List Line) → flips lines ≡ 0 → flips (drop n lines) ≡ 0
no_flips_drop zero lines e = e
no_flips_drop (suc n) [] e = refl
no_flips_drop (suc n) (l ∷ lines) e = no_flips_drop n lines (omega (arith, e))

-- lines with distinct columns have distinct pairs
pub pairs_apart : (path : List Line) → AllPairs (λ (x : Line) (y : Line). columns_of x ≢ columns_of y) path → AllPairs (λ (x : Line) (y : Line). x.pair ≢ y.pair) path
pairs_apart path apart i j d l m e = apart i j d l m (ap lesser_first e)

straight_short : (c : ℕ) (rows : List (List ℕ)) (lines : List Line) → IsOddWalk c rows lines → IsStraight lines → IsOddCycle c rows lines × IsShort c lines
straight_short c rows lines walk straight = (
  cycle_from c rows lines walk (pairs_apart lines straight.apart),
  record {
    one_flip = omega (arith, straight.no_flip);
    half = omega (arith, half_length c lines (lines_pairs c rows lines walk.closed) straight.apart);
  },
)

module _ (c : ℕ) (rows : List (List ℕ)) (path : List Line) (last : Line) (straight : IsStraight path) (flip : last.why ≡ Flip) (walk : IsOddWalk c rows (path ++ last ∷ [])) where
  long : 2 ≤ length path
  long = omega (arith, odd_long c rows (path ++ last ∷ []) walk, length-append path (last ∷ []))

  at_first : (k : ℕ) (d : Line) → k < length path → get_or (path ++ last ∷ []) k d ≡ get_or path k d
  at_first k d l = get_or_append_left path (last ∷ []) d k l

  path_pairs : All (λ (line : Line). IsPair c line.pair) path
  path_pairs k d l = subst (λ (x : Line). IsPair c x.pair) (at_first k d l) (lines_pairs c rows (path ++ last ∷ []) walk.closed k d (omega (arith, l, length-append path (last ∷ []))))

  -- the flip joins the first pair turned to the first pair
  last_turned : last.pair ≡ turned (get_or path 0 blank).pair
  last_turned =
      let end = first_pair (path ++ last ∷ []) (pair 0 0) in
      let joined = lead_line c rows (path ++ last ∷ []) (length path) last end (item_last path last) (closed_leads c rows (path ++ last ∷ []) (pair 0 0) walk.closed) in
      let none : drop (length path + 1) (path ++ last ∷ []) ≡ [] = drop_all (length path + 1) (path ++ last ∷ []) (omega (arith, length-append path (last ∷ []))) in
      let home : JoinedBy c rows last.pair end last.why = subst (λ (more : List Line). JoinedBy c rows last.pair (first_pair more end) last.why) none joined in
      let by : JoinedBy c rows last.pair end Flip = subst (λ (why : Why). JoinedBy c rows last.pair end why) flip home in
      let begins : end ≡ (get_or path 0 blank).pair = first_of path long in
      same_pair last.pair (turned (get_or path 0 blank).pair) (by.fits.0 ∙ ap (λ (v : Pair). v.b) begins) (by.fits.1 ∙ ap (λ (v : Pair). v.a) begins)
    where
      first_of : (lines : List Line) → 2 ≤ length lines → first_pair (lines ++ last ∷ []) (pair 0 0) ≡ (get_or lines 0 blank).pair
      first_of [] l = absurd (omega arith)
      first_of (x ∷ lines) l = refl

  -- no other line has that pair
  unlike_last : (k : ℕ) (d : Line) → k < length path → (get_or path k d).pair ≢ last.pair
  unlike_last k d l e =
      let first = get_or path 0 blank in
      let p = path_pairs 0 blank (omega (arith, long)) in
      let g : (get_or path k blank).pair ≡ turned first.pair = ap (λ (x : Line). x.pair) (get_or_default path k blank d l) ∙ e ∙ last_turned in
      elim (cases_eq k 0) [
        | inl z ↦ never_turned first.pair p.distinct (subst (λ i. (get_or path i blank).pair ≡ turned first.pair) z g)
        | inr n ↦ straight.apart 0 k blank (omega arith) l (sym (ap lesser_first g ∙ columns_turned first.pair p.distinct))
      ]

  closed_short : IsOddCycle c rows (path ++ last ∷ []) × IsShort c (path ++ last ∷ [])
  closed_short = (
    cycle_from c rows (path ++ last ∷ []) walk (all_pairs_push (λ (x : Line) (y : Line). x.pair ≢ y.pair) path last (pairs_apart path straight.apart) unlike_last),
    record {
      one_flip = omega (arith, flips-append path (last ∷ []), straight.no_flip, ap flip_of flip);
      half = omega (arith, half_length c path path_pairs straight.apart, length-append path (last ∷ []));
    },
  )

pub short_cycle_law : ShortCycleLaw
short_cycle_law c rows lines walk (inl straight) = straight_short c rows lines walk straight
short_cycle_law c rows lines walk (inr x) =
    let whole : IsOddWalk c rows (x.0 ++ x.1 ∷ []) = subst (IsOddWalk c rows) x.4 walk in
    let P : List Line → Type 0 = λ ls. IsOddCycle c rows ls × IsShort c ls in
    subst P (sym x.4) (closed_short c rows x.0 x.1 x.2 x.3 whole)
