use Rattle.proper_interval.proofs.FormulaLaws.{intervals_fit}
use Rattle.proper_interval.proofs.ModelLaws.{from_model, one_list, proper_exactly}
use Rattle.proper_interval.proofs.laws.model_law.Goals as goal

pub returns : goal.returns
returns c = record { orders = from_model; models = intervals_fit; one_list = one_list; exactly = proper_exactly }
