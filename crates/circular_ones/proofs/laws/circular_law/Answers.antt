use Rattle.circular_ones.proofs.CutLaws.{valid_circular, circular_turned, turned_exactly, exists_exactly}
use Rattle.circular_ones.proofs.laws.circular_law.Goals as goal

pub returns : goal.returns
returns c = record { cut = valid_circular; rotation = circular_turned; turned = turned_exactly; exists = exists_exactly }
