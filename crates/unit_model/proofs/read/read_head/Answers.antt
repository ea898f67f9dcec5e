use Rattle.std.proofs.Common.{◌∙◌, sym, ap, refl, arith}
use Rattle.std.proofs.lemmas.Grind.{common_steps}
use Rattle.std.specs.Prelude.{option_and_then}
use Rattle.unit_model.specs.Reading.{head_at}
use Rattle.unit_model.proofs.ReadLaws.{next_number}
use Rattle.unit_model.proofs.read.read_head.Goals as goal

pub returns-in_err-vertices : goal.returns-in_err-vertices
unfolding head_at
returns-in_err-vertices c = rw c.from_residual.ensures (sym (next_number _ _ _ _ _ (rw c.from.ensures at c.in_err-vertices.ensures.value)))

pub returns-in_err-length : goal.returns-in_err-length
unfolding head_at
returns-in_err-length c =
    rw c.from_residual-in_err-length.ensures (sym (next_number _ _ _ _ _ (rw c.from.ensures at c.in_ok-vertices.ensures.value) ∙ next_number _ _ _ _ _ c.in_err-length.ensures.value))

pub returns-in_err-rest : goal.returns-in_err-rest
unfolding head_at
returns-in_err-rest c =
    rw c.from_residual-in_err-rest.ensures (sym (next_number _ _ _ _ _ (rw c.from.ensures at c.in_ok-vertices.ensures.value) ∙ next_number _ _ _ _ _ c.in_ok-length.ensures.value
    ∙ ap (option_and_then _) (sym c.in_err-rest.ensures.value)))

pub returns-then-vertices-eq0 : goal.returns-then-vertices-eq0
unfolding head_at
returns-then-vertices-eq0 c =
    sym (next_number _ _ _ _ _ (rw c.from.ensures at c.in_ok-vertices.ensures.value) ∙ next_number _ _ _ _ _ c.in_ok-length.ensures.value ∙ ap (option_and_then _) (sym c.in_ok-rest.ensures.value)
    ∙ rw c.if-vertices-eq0.true refl)

pub returns : goal.returns
unfolding head_at
returns c =
    sym (next_number _ _ _ _ _ (rw c.from.ensures at c.in_ok-vertices.ensures.value) ∙ next_number _ _ _ _ _ c.in_ok-length.ensures.value ∙ ap (option_and_then _) (sym c.in_ok-rest.ensures.value)
    ∙ grind (arith, common_steps))
