-- The first line that is refused.
use Rattle.std.proofs.Common.{◌≡◌, ◌∙◌, ℕ, zero, suc, ◌<◌, ◌+◌, List, [], ◌∷◌, slice_get, Option, Some, None, refl, sym, ap, arith}
use Rattle.row_model.specs.declared.refusal.Refusal.{Refusal}
use Rattle.text_lines.specs.Lines.{NumberedLine}
use Rattle.text_lines.specs.Rows.{numbered_lines, refusal_or, first_refusal}
use Rattle.text_lines.specs.FirstRefusal.{IsOfFirstLine, NoLineRefused, FirstLineLaw}

pub numbered_step : (number : ℕ) (line : List ℕ) (lines : List (List ℕ)) → numbered_lines number (line ∷ lines) ≡ record { number = number; text = line } ∷ numbered_lines (number + 1) lines
unfolding numbered_lines
numbered_step number line lines = refl

pub numbered_none : (number : ℕ) (lines : List (List ℕ)) → lines ≡ [] → numbered_lines number lines ≡ []
unfolding numbered_lines
numbered_none number lines is = rw is refl

-- one line less, which is refused or not
module _ (code_of : ℕ → List ℕ → Option ℕ) (before : ℕ) (line : NumberedLine) (lines : List NumberedLine) where
  pub first_refusal-here : (code : ℕ) → code_of before line.text ≡ Some code → first_refusal code_of before (line ∷ lines) ≡ Some (record { code = code; line = line.number })
  unfolding first_refusal
  first_refusal-here code h = rw h refl

  pub first_refusal-later : code_of before line.text ≡ None → first_refusal code_of before (line ∷ lines) ≡ first_refusal code_of (before + 1) lines
  unfolding first_refusal
  first_refusal-later h = rw h refl

module _ (code_of : ℕ → List ℕ → Option ℕ) where
  -- where no line is refused
  pub none_from : (before : ℕ) (lines : List NumberedLine) → NoLineRefused code_of before lines → first_refusal code_of before lines ≡ None
  unfolding first_refusal
  none_from before [] all = refl
  none_from before (line ∷ lines) all =
      let at : before ≡ before + 0 = omega arith in
      let here : code_of before line.text ≡ None = ap (λ n. code_of n line.text) at ∙ all 0 line refl in
      first_refusal-later code_of before line lines here
      ∙ none_from (before + 1) lines (λ i other e.
      let next : before + 1 + i ≡ before + suc i = omega arith in
      ap (λ n. code_of n other.text) next ∙ all (suc i) other e)

  -- where a line is the first
  pub place_first : (before : ℕ) (lines : List NumberedLine) (refusal : Refusal) (place : ℕ) (line : NumberedLine) → slice_get lines place ≡ Some line → refusal.line ≡ line.number
      → code_of (before + place) line.text ≡ Some refusal.code → ((i : ℕ) (other : NumberedLine) → i < place → slice_get lines i ≡ Some other → code_of (before + i) other.text ≡ None)
      → first_refusal code_of before lines ≡ Some refusal
  place_first before [] refusal zero line stands number code earlier = absurd (cc)
  place_first before [] refusal (suc place) line stands number code earlier = absurd (cc)
  place_first before (first ∷ lines) refusal zero line stands number code earlier =
      let same : first ≡ line = cc in
      let at : before ≡ before + 0 = omega arith in
      let here : code_of before first.text ≡ Some refusal.code = ap (λ n. code_of n first.text) at ∙ ap (λ (l : NumberedLine). code_of (before + 0) l.text) same ∙ code in
      let counted : first.number ≡ refusal.line = ap (λ (l : NumberedLine). l.number) same ∙ sym number in
      first_refusal-here code_of before first lines refusal.code here ∙ ap (λ n. Some (record { code = refusal.code; line = n })) counted
  place_first before (first ∷ lines) refusal (suc place) line stands number code earlier =
      let at : before ≡ before + 0 = omega arith in
      let here : code_of before first.text ≡ None = ap (λ n. code_of n first.text) at ∙ earlier 0 first (omega arith) refl in
      let next : before + 1 + place ≡ before + suc place = omega arith in
      first_refusal-later code_of before first lines here
      ∙ place_first (before + 1) lines refusal place line stands number (ap (λ n. code_of n line.text) next ∙ code) (λ i other lt e.
      let more : before + 1 + i ≡ before + suc i = omega arith in
      ap (λ n. code_of n other.text) more ∙ earlier (suc i) other (omega arith) e)

  -- where there is no refusal
  none_told : (before : ℕ) (lines : List NumberedLine) → first_refusal code_of before lines ≡ None → NoLineRefused code_of before lines
  unfolding first_refusal
  none_told before [] e zero line stands = absurd (cc)
  none_told before [] e (suc i) line stands = absurd (cc)
  none_told before (first ∷ lines) e i line stands = by (code_of before first.text) refl e (λ k i rest. none_told (before + 1) lines k i line rest) i stands
    where
      by : (code : Option ℕ) → code_of before first.text ≡ code → refusal_or code first.number (first_refusal code_of (before + 1) lines) ≡ None
          → (first_refusal code_of (before + 1) lines ≡ None → (i : ℕ) → slice_get lines i ≡ Some line → code_of (before + 1 + i) line.text ≡ None)
          → (i : ℕ) → slice_get (first ∷ lines) i ≡ Some line → code_of (before + i) line.text ≡ None
      by (Some code) h k later i stands = absurd (cc)
      by None h k later zero stands =
          let same : first ≡ line = cc in
          let at : before + 0 ≡ before = omega arith in
          ap (λ n. code_of n line.text) at ∙ ap (λ (l : NumberedLine). code_of before l.text) (sym same) ∙ h
      by None h k later (suc i) stands =
          let next : before + suc i ≡ before + 1 + i = omega arith in
          ap (λ n. code_of n line.text) next ∙ later k i stands

  -- where there is one
  first_told : (before : ℕ) (lines : List NumberedLine) (refusal : Refusal) → first_refusal code_of before lines ≡ Some refusal → IsOfFirstLine code_of before lines refusal
  unfolding first_refusal
  first_told before [] refusal e = absurd (cc)
  first_told before (first ∷ lines) refusal e = by (code_of before first.text) refl e (first_told (before + 1) lines refusal)
    where
      by : (code : Option ℕ) → code_of before first.text ≡ code → refusal_or code first.number (first_refusal code_of (before + 1) lines) ≡ Some refusal
          → (first_refusal code_of (before + 1) lines ≡ Some refusal → IsOfFirstLine code_of (before + 1) lines refusal) → IsOfFirstLine code_of before (first ∷ lines) refusal
      by (Some code) h k later =
          let same : record { code = code; line = first.number } ≡ refusal = cc in
          let at : before + 0 ≡ before = omega arith in
          record {
            place = 0;
            line = first;
            stands = refl;
            number = ap (λ (r : Refusal). r.line) (sym same);
            code = ap (λ n. code_of n first.text) at ∙ h ∙ ap (λ (r : Refusal). Some r.code) same;
            earlier = λ i other lt e. absurd (omega arith);
          }
      by None h k later =
          let rest = later k in
          let next : before + suc rest.place ≡ before + 1 + rest.place = omega arith in
          record {
            place = suc rest.place;
            line = rest.line;
            stands = rest.stands;
            number = rest.number;
            code = ap (λ n. code_of n rest.line.text) next ∙ rest.code;
            earlier = earlier rest.place rest.earlier;
          }
        where
          earlier : (place : ℕ) → ((i : ℕ) (other : NumberedLine) → i < place → slice_get lines i ≡ Some other → code_of (before + 1 + i) other.text ≡ None)
              → (i : ℕ) (other : NumberedLine) → i < suc place → slice_get (first ∷ lines) i ≡ Some other → code_of (before + i) other.text ≡ None
          earlier place all zero other lt stands =
              let same : first ≡ other = cc in
              let at : before + 0 ≡ before = omega arith in
              ap (λ n. code_of n other.text) at ∙ ap (λ (l : NumberedLine). code_of before l.text) (sym same) ∙ h
          earlier place all (suc i) other lt stands =
              let next : before + suc i ≡ before + 1 + i = omega arith in
              ap (λ n. code_of n other.text) next ∙ all i other (omega arith) stands

  pub of_first : (before : ℕ) (lines : List NumberedLine) (refusal : Refusal) → IsOfFirstLine code_of before lines refusal → first_refusal code_of before lines ≡ Some refusal
  of_first before lines refusal h = place_first before lines refusal h.place h.line h.stands h.number h.code h.earlier

pub first_line_law : FirstLineLaw
first_line_law = record {
  some = λ code_of before lines refusal. (first_told code_of before lines refusal, of_first code_of before lines refusal);
  none = λ code_of before lines. (none_told code_of before lines, none_from code_of before lines);
}
