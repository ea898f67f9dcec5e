use Rattle.bubble_pass.proofs.Bounds.{at_most_met}
use Rattle.bubble_pass.proofs.laws.met_law.Goals as goal

pub returns : goal.returns
returns c = λ f row n h used r. at_most_met f row n h used r
