use Rattle.std.proofs.Common.{ap}
use Rattle.row_reduce.proofs.OneApplied.{same_treated}
use Rattle.row_reduce.proofs.apply.apply_at.Goals as goal

pub returns-in-L1-clause-treated : goal.returns-in-L1-clause-treated
returns-in-L1-clause-treated g c = same_treated _ _ _ _ _ _ c.layout_law.ensures c.requires.ready c.apply_l1.ensures.arena c.apply_l1.ensures.work (ap (λ x. x.index) c.apply_l1.ensures.answer)
