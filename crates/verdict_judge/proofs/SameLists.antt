-- `==` on lists of intervals, of places and of spans.
use Rattle.std.proofs.Common.{◌≡◌, ◌∙◌, ℕ, Bool, eqb, eqb-true, eq-eqb, List, ◌&&◌, refl, sym, ap}
use Rattle.std.proofs.lemmas.Bool.{and_parts, and_from}
use Rattle.std.specs.Bool.{Decides}
use Rattle.std.specs.Cmp.Lexicographic.{pointwise}
use Rattle.std.proofs.lemmas.Slice.Eq.{slice_eq-Decides}
use Rattle.row_model.specs.declared.lists.Interval.{Interval}
use Rattle.row_model.specs.declared.lists.Place.{Place}
use Rattle.row_model.specs.declared.lists.Place.TheVariants.{Nowhere, At}
use Rattle.row_model.specs.declared.lists.Span.{Span}
use Rattle.row_model.specs.contracts.lists.IntervalPartialEq.TheImpl as interval
use Rattle.row_model.specs.contracts.lists.PlacePartialEq.TheImpl as place
use Rattle.row_model.specs.contracts.lists.SpanPartialEq.TheImpl as span

same_place : (a b : Place) → Decides (place.eq-value.it a b) (a ≡ b)
same_place Nowhere Nowhere = (λ _. refl, λ _. refl)
same_place Nowhere (At f l) = (λ e. absurd (cc), λ e. absurd (cc))
same_place (At f l) Nowhere = (λ e. absurd (cc), λ e. absurd (cc))
same_place (At f l) (At g m) = (
  λ e. (let p = and_parts (eqb f g) (eqb l m) e in ap (λ n. At n l) (eqb-true f g p.0) ∙ ap (At g) (eqb-true l m p.1)),
  λ e. (let firsts : f ≡ g = cc in let lasts : l ≡ m = cc in and_from (eqb f g) (eqb l m) (eq-eqb f g firsts) (eq-eqb l m lasts)),
)

-- values that two numbers make
same_two : {A : Type 0} (make : ℕ → ℕ → A) (one two : A → ℕ) → ((x : A) → make (one x) (two x) ≡ x) → (a b : A) → Decides (eqb (one a) (one b) && eqb (two a) (two b)) (a ≡ b)
same_two make one two made a b = (
  λ e. (
      let p = and_parts (eqb (one a) (one b)) (eqb (two a) (two b)) e in
      sym (made a) ∙ ap (λ n. make n (two a)) (eqb-true (one a) (one b) p.0) ∙ ap (make (one b)) (eqb-true (two a) (two b) p.1) ∙ made b
      ),
  λ e. and_from (eqb (one a) (one b)) (eqb (two a) (two b)) (eq-eqb (one a) (one b) (ap one e)) (eq-eqb (two a) (two b) (ap two e)),
)

same_span : (a b : Span) → Decides (span.eq-value.it a b) (a ≡ b)
same_span a b = same_two (λ first last. record { first = first; last = last }) (λ (s : Span). s.first) (λ (s : Span). s.last) (λ s. refl) a b

same_interval : (a b : Interval) → Decides (interval.eq-value.it a b) (a ≡ b)
same_interval a b = same_two (λ left right. record { left = left; right = right }) (λ (s : Interval). s.left) (λ (s : Interval). s.right) (λ s. refl) a b

-- from the clause of `==`, whether two lists of intervals are equal
pub same_intervals : (a b : List Interval) (r : Bool) → r ≡ pointwise interval.eq-value.it a b → Decides r (a ≡ b)
same_intervals a b r e = slice_eq-Decides same_interval a b r e

-- two lists of places
pub same_places : (a b : List Place) (r : Bool) → r ≡ pointwise place.eq-value.it a b → Decides r (a ≡ b)
same_places a b r e = slice_eq-Decides same_place a b r e

-- and two lists of spans
pub same_spans : (a b : List Span) (r : Bool) → r ≡ pointwise span.eq-value.it a b → Decides r (a ≡ b)
same_spans a b r e = slice_eq-Decides same_span a b r e
