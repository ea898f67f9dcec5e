use Rattle.std.proofs.Common.{refl}
use Rattle.pq_plain.proofs.Runs.{cut_found, cut_missing}
use Rattle.pq_plain.proofs.label.find_run.Goals as goal

pub returns-then-behind-leading-clause-cut : goal.returns-then-behind-leading-clause-cut
returns-then-behind-leading-clause-cut c =
    cut_found c.args.labels.now _ _ _ _ c.leading-before.ensures.count c.leading_partial.ensures.count refl c.leading.ensures.count c.if-behind-leading.true

pub returns-else-behind-leading-clause-cut : goal.returns-else-behind-leading-clause-cut
returns-else-behind-leading-clause-cut c =
    cut_missing c.args.labels.now _ _ _ _ c.leading-before.ensures.count c.leading_partial.ensures.count refl c.leading.ensures.count c.if-behind-leading.false
