use Rattle.unit_model.proofs.UnitLaws.{unit_from}
use Rattle.unit_model.proofs.laws.unit_law.Goals as goal

pub returns : goal.returns
returns c = unit_from c.model_law.ensures.orders
