use Rattle.std.proofs.Common.{length, sym, subst}
use Rattle.row_model.proofs.Ascending.{row_within}
use Rattle.others_kept.specs.Counts.{IsSpanOf}
use Rattle.others_kept.proofs.SpanLaws.{kept_span, empty_span}
use Rattle.others_kept.proofs.spans.span_in.Goals as goal

pub span_of-requires : goal.span_of-requires
span_of-requires c = row_within (length c.args.positions.now) c.args.row.now c.requires

pub returns-in-None : goal.returns-in-None
returns-in-None c o order are keeps =
    subst (λ r. IsSpanOf (length c.args.positions.now) o r (record { first = 1; last = 0 })) (sym c.in-None.ensures.least) (empty_span (length c.args.positions.now) o)

pub returns-in-Some : goal.returns-in-Some
returns-in-Some c o order are keeps = kept_span (length c.args.positions.now) o c.args.row.now order keeps c.in-Some.span (c.in-Some.ensures.spans o order are)
