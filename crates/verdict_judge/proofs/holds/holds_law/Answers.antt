use Rattle.verdict_judge.proofs.HoldsExact.{holds_law, split_law}
use Rattle.verdict_judge.proofs.holds.holds_law.Goals as goal

pub returns : goal.returns
returns c = record { stretch = holds_law; split = split_law }
