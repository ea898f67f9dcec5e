-- The tests of what a yes on clones adds.
use Rattle.std.proofs.Common.{◌≡◌, ℕ, ◌-◌, List, [], ◌∷◌, Some, None, slice_get, sym, subst}
use Rattle.column_order.specs.Orders.{IsValidOrder}
use Rattle.row_model.specs.declared.kind.Kind.TheVariants.{Clones}
use Rattle.row_model.specs.declared.lists.Place.{Place}
use Rattle.row_model.specs.declared.lists.Span.{Span}
use Rattle.row_model.specs.Rows.{RowList}
use Rattle.clone_map.specs.Places.{ArePlaces}
use Rattle.clone_map.specs.Contigs.{AreContigs}
use Rattle.clone_map.specs.Laws.{PlacesLaw, ContigsLaw}
use Rattle.verdict_text.specs.Verdict.{SideValue, YesValue}
use Rattle.verdict_judge.specs.Tests.{kind_tests}
use Rattle.instance_model.specs.Instance.{plain}
use Rattle.verdict_judge.specs.YesTests.{HasSide, PassesYes}
use Rattle.verdict_judge.specs.Found.{Finds}
use Rattle.verdict_judge.specs.declared.outcome.Reason.{Reason}
use Rattle.verdict_judge.specs.declared.outcome.Reason.TheVariants as reason
use Rattle.verdict_judge.proofs.First.{finds_here, finds_next}
use Rattle.verdict_judge.proofs.SideTests.{part_has, has_part}

-- a valid order of the only side is that of the yes
pub valid_order : (m : RowList) (value : YesValue) (o : List ℕ) → HasSide value 1 (λ side. side.order ≡ o) → HasSide value 1 (λ side. IsValidOrder m.columns m.rows side.order) → IsValidOrder m.columns m.rows o
valid_order m value o is h = has_part (slice_get value.sides (1 - 1)) (λ (side : SideValue). side.order) o (IsValidOrder m.columns m.rows) is h

module _ (m : RowList) (value : YesValue) (o : List ℕ) (is : HasSide value 1 (λ side. side.order ≡ o)) (places : List Place) (contigs : List Span)
    (are : ArePlaces o m.rows places) (be : AreContigs m.rows o contigs) where
  abbrev P : Reason → Type 0
  P = PassesYes (plain Clones m) value

  order_of : (Q : List ℕ → Type 0) → HasSide value 1 (λ side. Q side.order) → Q o
  order_of Q h = has_part (slice_get value.sides (1 - 1)) (λ (side : SideValue). side.order) o Q is h

  of_order : (Q : List ℕ → Type 0) → Q o → HasSide value 1 (λ side. Q side.order)
  of_order Q h = part_has (slice_get value.sides (1 - 1)) (λ (side : SideValue). side.order) o Q is h

  places_pass : value.added.places ≡ places → P reason.Places
  places_pass e = of_order (λ x. ArePlaces x m.rows value.added.places) (subst (ArePlaces o m.rows) (sym e) are)

  contigs_pass : value.added.contigs ≡ contigs → P reason.Contigs
  contigs_pass e = of_order (λ x. AreContigs m.rows x value.added.contigs) (subst (AreContigs m.rows o) (sym e) be)

  -- the places are others
  pub places_fail : PlacesLaw → (value.added.places ≡ places → ⊥) → Finds P (kind_tests Clones) (Some reason.Places)
  places_fail places_only f =
      finds_here P reason.Places (reason.Contigs ∷ [])
      (λ h. f (places_only m.rows o value.added.places places (order_of (λ x. ArePlaces x m.rows value.added.places) h) are))

  -- the places are those of the clones, and the contigs are others
  pub contigs_fail : ContigsLaw → value.added.places ≡ places → (value.added.contigs ≡ contigs → ⊥) → Finds P (kind_tests Clones) (Some reason.Contigs)
  contigs_fail contigs_only e f =
      finds_next P reason.Places (reason.Contigs ∷ []) (Some reason.Contigs) (places_pass e)
      (finds_here P reason.Contigs [] (λ h. f (contigs_only m.rows o value.added.contigs contigs (order_of (λ x. AreContigs m.rows x value.added.contigs) h) be)))

  -- both are those of the clones
  pub both_pass : value.added.places ≡ places → value.added.contigs ≡ contigs → Finds P (kind_tests Clones) None
  both_pass e f = (places_pass e, (contigs_pass f, tt))
