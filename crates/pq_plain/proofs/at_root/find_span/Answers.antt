use Rattle.std.proofs.Common.{refl}
use Rattle.pq_plain.proofs.Spans.{cut_found, cut_missing, span_partials}
use Rattle.pq_plain.proofs.at_root.find_span.Goals as goal

pub returns-then-behind-leading-clause-cut : goal.returns-then-behind-leading-clause-cut
returns-then-behind-leading-clause-cut c =
    cut_found c.args.labels.now _ _ _ _ _ _ _ _ c.leading-before.ensures.count c.leading_partial.ensures.count refl c.leading.ensures.count refl c.leading_partial-2.ensures.count refl c.leading-2.ensures.count c.if-behind-leading.true

pub returns-then-behind-leading-clause-partials : goal.returns-then-behind-leading-clause-partials
returns-then-behind-leading-clause-partials c =
    span_partials c.args.labels.now _ _ _ _ _ _ _ _ c.leading-before.ensures.count c.leading_partial.ensures.count refl c.leading.ensures.count refl c.leading_partial-2.ensures.count refl c.leading-2.ensures.count c.if-behind-leading.true

pub returns-else-behind-leading-clause-cut : goal.returns-else-behind-leading-clause-cut
returns-else-behind-leading-clause-cut c =
    cut_missing c.args.labels.now _ _ _ _ _ _ _ _ c.leading-before.ensures.count c.leading_partial.ensures.count refl c.leading.ensures.count refl c.leading_partial-2.ensures.count refl c.leading-2.ensures.count c.if-behind-leading.false
