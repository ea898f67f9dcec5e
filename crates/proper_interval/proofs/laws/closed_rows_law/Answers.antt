use Rattle.proper_interval.proofs.ClosedLemmas.{closed_count, closed_rows_are}
use Rattle.proper_interval.proofs.laws.closed_rows_law.Goals as goal

pub returns : goal.returns
returns c = record { count = closed_count; rows = closed_rows_are }
