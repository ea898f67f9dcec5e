use Rattle.unit_model.proofs.TextLaws.{one_unit, text_long}
use Rattle.unit_model.proofs.laws.unit_text_laws.Goals as goal

pub returns : goal.returns
returns c = record { one = one_unit; length = text_long }
