use Rattle.core_text.proofs.CoreLaws as laws
use Rattle.core_text.proofs.laws.one_core.Goals as goal

pub returns : goal.returns
returns c = laws.one_core
