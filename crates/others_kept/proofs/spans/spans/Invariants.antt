use Rattle.others_kept.proofs.Tables.{HasSpans}
use Rattle.others_kept.proofs.spans.spans.Given as goal

abbrev pub invariant-loop-k : goal.invariant-loop-k
invariant-loop-k l = HasSpans l.m l.rows l.order l.k-index l.spans.items
