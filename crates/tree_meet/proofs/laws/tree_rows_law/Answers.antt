use Rattle.tree_meet.proofs.Tied.{tied_to_rows, rows_exact}
use Rattle.tree_meet.proofs.Few.{rows_few}
use Rattle.tree_meet.proofs.laws.tree_rows_law.Goals as goal

pub returns : goal.returns
returns c = record { exact = rows_exact; tied = tied_to_rows; few = rows_few }
