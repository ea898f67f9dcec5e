use Rattle.std.proofs.Common.{◌∙◌, sym, ap}
use Rattle.std.specs.Prelude.{option_and_then}
use Rattle.unit_model.specs.Reading.{left_at}
use Rattle.unit_model.proofs.ReadLaws.{next_number}
use Rattle.unit_model.proofs.read.read_left.Goals as goal

pub returns-in_err-index : goal.returns-in_err-index
unfolding left_at
returns-in_err-index c = rw c.from_residual.ensures (sym (next_number _ _ _ _ _ (rw c.from.ensures at c.in_err-index.ensures.value)))

pub returns-in_err-left : goal.returns-in_err-left
unfolding left_at
returns-in_err-left c = rw c.from_residual-in_err-left.ensures (sym (next_number _ _ _ _ _ (rw c.from.ensures at c.in_ok-index.ensures.value) ∙ next_number _ _ _ _ _ c.in_err-left.ensures.value))

pub returns-in_err-rest : goal.returns-in_err-rest
unfolding left_at
returns-in_err-rest c = rw c.from_residual-in_err-rest.ensures (sym (next_number _ _ _ _ _ (rw c.from.ensures at c.in_ok-index.ensures.value) ∙ next_number _ _ _ _ _ c.in_ok-left.ensures.value
    ∙ ap (option_and_then _) (sym c.in_err-rest.ensures.value)))
