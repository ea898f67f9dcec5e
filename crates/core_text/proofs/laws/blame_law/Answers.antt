use Rattle.core_text.proofs.Masked as laws
use Rattle.core_text.proofs.laws.blame_law.Goals as goal

pub returns : goal.returns
returns c = laws.blame_law
