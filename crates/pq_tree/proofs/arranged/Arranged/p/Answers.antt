use Rattle.std.proofs.lemmas.Result.{IfOk-weaker}
use Rattle.pq_tree.proofs.Canonical.{sorted_P}
use Rattle.pq_tree.proofs.arranged.Arranged.p.Goals as goal

pub returns : goal.returns
returns c = IfOk-weaker c.arranged_p.result _ _ (λ a. sorted_P _ _ _ c.sort_by_least.ensures.moved) c.arranged_p.ensures
