use Rattle.convex_bipartite.proofs.ConvexLaws.{right_exactly, left_exactly}
use Rattle.convex_bipartite.proofs.laws.convex_law.Goals as goal

pub returns-clause-right : goal.returns-clause-right
returns-clause-right c = right_exactly

pub returns-clause-left : goal.returns-clause-left
returns-clause-left c = left_exactly
