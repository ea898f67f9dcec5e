use Rattle.unit_model.proofs.OneRule as laws
use Rattle.unit_model.proofs.laws.one_rule_law.Goals as goal

pub returns : goal.returns
returns c = laws.one_rule_law
