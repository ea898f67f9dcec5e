use Rattle.std.proofs.Common.{subst, ◌∙◌}
use Rattle.pq_cli.specs.Runs.{Offers}
use Rattle.pq_cli.proofs.report.report_stop.Goals as goal

pub returns-in-Refused : goal.returns-in-Refused
returns-in-Refused g c = rw c.in-Refused.is (subst (Offers _ _ _ _) (c.as_bytes.ensures.value ∙ c.as_str.ensures.value ∙ c.refusal_line.ensures) c.offer.ensures)

pub returns-in-ReadFault : goal.returns-in-ReadFault
returns-in-ReadFault g c = rw c.in-ReadFault.is c.offer-in-ReadFault.ensures

pub returns-in-NoMemory : goal.returns-in-NoMemory
returns-in-NoMemory g c = rw c.in-NoMemory.is c.offer-in-NoMemory.ensures
