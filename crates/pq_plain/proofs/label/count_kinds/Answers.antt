use Rattle.std.proofs.Common.{arith}
use Rattle.pq_plain.proofs.Marks.{count_empties, count_fulls, count_partials, count_more}
use Rattle.pq_plain.proofs.label.count_kinds.Goals as goal

pub loop-label-preserved : goal.loop-label-preserved
loop-label-preserved c =
    let i = c.loop-label.invariant in
    let e = count_more count_empties _ _ _ _ _ c.loop-label-test.true c.label-item.is i.empty c.add.ensures.empty in
    let f = count_more count_fulls _ _ _ _ _ c.loop-label-test.true c.label-item.is i.full c.add.ensures.full in
    let p = count_more count_partials _ _ _ _ _ c.loop-label-test.true c.label-item.is i.partial c.add.ensures.partial in
    record {
      empty = e.0;
      full = f.0;
      partial = p.0;
      few_empty = omega arith;
      few_full = omega arith;
      few_partial = omega arith;
    }
