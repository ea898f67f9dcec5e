-- The step by which a line with a row is taken into the path.
use Rattle.std.proofs.Common.{◌≡◌, ◌∙◌, ℕ, ◌+◌, ◌-◌, ◌%◌, ◌<◌, ◌≤◌, Bool, true, false, List, [], ◌∷◌, ◌++◌, length, take, drop, get_or, slice_get, Some, All, refl, inl, inr, sym, ap, subst, arith}
use Rattle.std.proofs.lemmas.List.{take_all, length-drop}
use Rattle.std.proofs.lemmas.List.Elements.{All-take, All-drop, All-push}
use Rattle.std.proofs.lemmas.Option.{slice_get_within, slice_get-get_or, get_or_from_slice_get}
use Rattle.row_model.specs.declared.graph.Pair.{Pair}
use Rattle.row_model.specs.declared.graph.Line.{Line}
use Rattle.row_model.specs.declared.graph.Why.TheVariants.{Row}
use Rattle.row_model.specs.Graph.{pair, IsPair}
use Rattle.row_model.specs.Cycles.{LeadTo, IsClosedWalk, IsOdd, IsOddWalk}
use Rattle.row_model.proofs.CycleLaws.{first_drop, lead_line, lead_drop, closed_leads}
use Rattle.odd_cycle.specs.Numbers.{Numbering, number_of, IsIndexed}
use Rattle.odd_cycle.proofs.Items.{item_at}
use Rattle.odd_cycle.specs.Fold.{closing, differ, IsPlaceOf, TellsTurned}
use Rattle.odd_cycle.specs.Short.{flip_of, one_if, turned_if, lesser_first, columns_of, IsFolded, IsNamedBy}
use Rattle.odd_cycle.proofs.PairLaws.{turned_if_pair, lesser_pair, columns_turned_if}
use Rattle.odd_cycle.proofs.ShortLaws.{flips-append, no_flips_take}
use Rattle.odd_cycle.proofs.FoldLaws.{IsKept, Follows, start, line_turned, turned_both, leads_here, follows_row, follows_cut, follows_all, closes, folded_closed, named_closed, straight_from}

-- the line at an index
pub line_there : (walk items : List Line) (done : ℕ) (d : Line) → items ≡ walk → done < length items → slice_get walk done ≡ Some (get_or items done d)
line_there walk items done d e l = subst (λ (w : List Line). slice_get w done ≡ Some (get_or items done d)) e (slice_get-get_or items done d l)

-- the line with the pair turned to fit behind the path
abbrev pub fitted : Line → Pair → Bool → Line
fitted line v back = record { pair = turned_if back v; why = line.why }

-- what is known of a line with a row, where its pair, turned as the walk is, is v, and the path comes to its columns at a place
pub record IsStep (c : ℕ) (walk : List Line) (numbers : Numbering) (path : List Line) (done : ℕ) (line : Line) (t : Bool) (v : Pair) (keep : ℕ) (back : Bool) : Type 0 where
  pub within : keep ≤ length path
  pub odd : IsOdd (length path - keep + one_if back) → (rows : List (List ℕ)) → IsClosedWalk c rows walk → IsOddWalk c rows (drop keep path ++ closing back v)
  pub folded : IsFolded (drop keep path ++ closing back v)
  pub named : All (IsNamedBy walk) (drop keep path ++ closing back v)
  pub is_pair : IsPair numbers.columns (turned_if back v)
  pub fresh : (left : Numbering) → ((w : Pair) → IsPair numbers.columns w → number_of numbers w ≤ keep → number_of left w ≡ number_of numbers w) →
      ((w : Pair) → IsPair numbers.columns w → keep < number_of numbers w → number_of left w ≡ 0) → number_of left (lesser_first (turned_if back v)) ≡ 0
  pub kept : (more : Numbering) → IsIndexed columns_of more (take keep path ++ fitted line v back ∷ []) → more.columns ≡ numbers.columns → IsKept c walk more (take keep path ++ fitted line v back ∷ [])
  pub more : (IsOdd (length path - keep + one_if back) → ⊥) → (rows : List (List ℕ)) → IsClosedWalk c rows walk → Follows c rows walk (done + 1) (take keep path ++ fitted line v back ∷ []) (differ t back)

module _ (c : ℕ) (walk : List Line) (numbers : Numbering) (path : List Line) (done : ℕ) (line : Line) (t : Bool) (here : slice_get walk done ≡ Some line) (kept : IsKept c walk numbers path)
    (some : (rows : List (List ℕ)) × IsClosedWalk c rows walk) where
  line_pair : IsPair c line.pair
  line_pair = (lead_line c some.0 walk done line (start walk) here (closed_leads c some.0 walk (pair 0 0) some.1)).from

  pub step_pair : (v : Pair) → v ≡ turned_if t line.pair → IsPair numbers.columns v
  step_pair v is = subst (λ k. IsPair k v) (sym kept.columns) (subst (IsPair c) (sym is) (turned_if_pair c t line.pair line_pair))

  module _ (k : ℕ) (row : line.why ≡ Row k) (follows : (rows : List (List ℕ)) → IsClosedWalk c rows walk → Follows c rows walk done path t) (v : Pair) (is : v ≡ turned_if t line.pair)
      (keep : ℕ) (place : IsPlaceOf numbers path v keep) (back : Bool) (tells : TellsTurned path keep v back) where
    v_pair : IsPair numbers.columns v
    v_pair = step_pair v is

    columns : lesser_first (turned_if back v) ≡ lesser_first v
    columns = columns_turned_if back v v_pair.distinct

    -- the line of the path with the same columns
    earlier : number_of numbers (lesser_first v) ≡ keep + 1 → (x : Line) × (slice_get path keep ≡ Some x) × (x.pair ≡ turned_if back v)
    earlier e =
        let x = kept.indexed.found (lesser_first v) (lesser_pair numbers.columns v v_pair) (omega arith) in
        let same : number_of numbers (lesser_first v) - 1 ≡ keep = omega arith in
        let there : slice_get path keep ≡ Some x.0 = ap (slice_get path) (sym same) ∙ x.1 in
        (x.0, there, tells.there x.0 there x.2)

    step_within : keep ≤ length path
    step_within = elim place [ inl e ↦ (let x = earlier e in omega (arith, slice_get_within path keep x.0 x.1)) | inr e ↦ omega (arith, e.1) ]

    step_odd : IsOdd (length path - keep + one_if back) → (rows : List (List ℕ)) → IsClosedWalk c rows walk → IsOddWalk c rows (drop keep path ++ closing back v)
    step_odd odd rows closed =
        elim place [
          | inl e ↦
              let x = earlier e in
              let leads = subst (LeadToHere rows) (sym is) (leads_here c rows walk done line path t here (follows rows closed)) in
              closes c rows (drop keep path) v back (subst (λ n. IsPair n v) kept.columns v_pair) (lead_drop c rows path keep v leads) (first_drop path keep x.0 v x.1 ∙ x.2)
              (subst (λ n. IsOdd (n + one_if back)) (sym (length-drop keep path)) odd)
          | inr e ↦ absurd (omega (arith, e.1, ap one_if (tells.past e.1), odd))
        ]
      where
        LeadToHere : List (List ℕ) → Pair → Type 0
        LeadToHere rows w = LeadTo c rows path w

    left_follows : (IsOdd (length path - keep + one_if back) → ⊥) → (rows : List (List ℕ)) → IsClosedWalk c rows walk → Follows c rows walk done (take keep path) (differ t back)
    left_follows even rows closed =
        let zero : (length path - keep + one_if back) % 2 ≡ 0 = omega (arith, even) in
        elim place [
          | inl e ↦ (let x = earlier e in follows_cut c rows walk done line path t here (follows rows closed) keep x.0 x.1 back (x.2 ∙ ap (turned_if back) is) zero)
          | inr e ↦
              let none : back ≡ false = tells.past e.1 in
              subst (λ b. Follows c rows walk done (take keep path) (differ t b)) (sym none)
              (subst (λ p. Follows c rows walk done p (differ t false)) (sym (take_all keep path (omega (arith, e.1)))) (subst (λ b. Follows c rows walk done path b) (sym (unturned t)) (follows rows closed)))
        ]
      where
        unturned : (b : Bool) → differ b false ≡ b
        unturned true = refl
        unturned false = refl

    step_fresh : (left : Numbering) → ((w : Pair) → IsPair numbers.columns w → number_of numbers w ≤ keep → number_of left w ≡ number_of numbers w) →
        ((w : Pair) → IsPair numbers.columns w → keep < number_of numbers w → number_of left w ≡ 0) → number_of left (lesser_first (turned_if back v)) ≡ 0
    step_fresh left stays lost =
        let p = lesser_pair numbers.columns v v_pair in
        ap (number_of left) columns ∙ elim place [
          | inl e ↦ lost (lesser_first v) p (omega arith)
          | inr e ↦ stays (lesser_first v) p (omega (arith, e.0)) ∙ e.0
        ]

    same_line : line_turned (differ t back) line ≡ fitted line v back
    same_line = ap (λ (w : Pair). named w) (turned_both t back line.pair ∙ ap (turned_if back) (sym is))
      where
        named : Pair → Line
        named w = record { pair = w; why = line.why }

    step_more : (IsOdd (length path - keep + one_if back) → ⊥) → (rows : List (List ℕ)) → IsClosedWalk c rows walk → Follows c rows walk (done + 1) (take keep path ++ fitted line v back ∷ []) (differ t back)
    step_more even rows closed =
        subst (λ (x : Line). Follows c rows walk (done + 1) (take keep path ++ x ∷ []) (differ t back)) same_line
        (follows_row c rows walk done line (take keep path) (differ t back) here (left_follows even rows closed) k closed row)

    step_kept : (more : Numbering) → IsIndexed columns_of more (take keep path ++ fitted line v back ∷ []) → more.columns ≡ numbers.columns → IsKept c walk more (take keep path ++ fitted line v back ∷ [])
    step_kept more indexed same =
        record {
          columns = same ∙ kept.columns;
          indexed = indexed;
          no_flip = omega (arith, flips-append (take keep path) (fitted line v back ∷ []), no_flips_take keep path kept.no_flip, ap flip_of row);
          named = All-push (IsNamedBy walk) (take keep path) (fitted line v back) (All-take (IsNamedBy walk) keep path kept.named)
              (inr (line, (done, slice_get_within walk done line here, get_or_from_slice_get walk done line line here), refl));
        }

    pub step : IsStep c walk numbers path done line t v keep back
    step =
        record {
          within = step_within;
          odd = step_odd;
          folded = folded_closed (drop keep path) back v (straight_from c walk numbers path keep kept);
          named = named_closed walk (drop keep path) back v (All-drop (IsNamedBy walk) keep path kept.named);
          is_pair = turned_if_pair numbers.columns back v v_pair;
          fresh = step_fresh;
          kept = step_kept;
          more = step_more;
        }

-- what is known of the path behind the last line
pub record IsEnd (c : ℕ) (walk path : List Line) (t : Bool) (v : Pair) : Type 0 where
  pub odd : (rows : List (List ℕ)) → IsClosedWalk c rows walk → IsOddWalk c rows (path ++ closing t v)
  pub folded : IsFolded (path ++ closing t v)
  pub named : All (IsNamedBy walk) (path ++ closing t v)

pub end_of : (c : ℕ) (walk : List Line) (numbers : Numbering) (path : List Line) (done : ℕ) (t : Bool) (v : Pair) → IsKept c walk numbers path →
    ((rows : List (List ℕ)) → IsClosedWalk c rows walk → Follows c rows walk done path t) → done ≡ length walk → IsOdd (length walk) → v ≡ turned_if t (start walk) → IsEnd c walk path t v
end_of c walk numbers path done t v kept follows all odd is =
    record {
      odd = λ rows closed.
          let whole = subst (λ n. Follows c rows walk n path t) all (follows rows closed) in
          let first = item_at walk 0 (omega (arith, odd)) in
          let p = (lead_line c rows walk 0 first.0 (start walk) first.1 (closed_leads c rows walk (pair 0 0) closed)).from in
          let begins : first.0.pair ≡ start walk = sym (first_drop walk 0 first.0 (pair 0 0) first.1) in
          subst (λ w. IsOddWalk c rows (path ++ closing t w)) (sym is) (follows_all c rows walk path t whole odd (subst (IsPair c) begins p));
      folded = folded_closed path t v (straight_from c walk numbers path 0 kept);
      named = named_closed walk path t v kept.named;
    }
