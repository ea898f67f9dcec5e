use Rattle.std.proofs.Common.{length}
use Rattle.std.proofs.lemmas.Bool.{both_ways}
use Rattle.verdict_judge.proofs.Lines.{each_more, least_here}
use Rattle.verdict_judge.proofs.RowTests.{not_falling}
use Rattle.verdict_judge.proofs.CoreTests.{joins_here, here_among, here_joined}
use Rattle.verdict_judge.proofs.core_check.first_bad_join.Goals as goal
use Rattle.verdict_judge.proofs.core_check.first_bad_join.Goals.{then-not-is_among-via-then-not-is_among, then-not-is_among-via-else-not-is_among+then-not-joined_by}

pub is_among-requires : goal.is_among-requires
is_among-requires c = not_falling (length c.args.m.now.rows) c.args.rows.now c.requires.rows

pub returns-then-not-is_among : goal.returns-then-not-is_among
returns-then-not-is_among c =
    least_here _ _ _ c.loop-i-test.true c.loop-i.invariant (λ p.
    elim c.then-not-is_among.branch [
      | then-not-is_among-via-then-not-is_among w ↦ both_ways c.is_among.result w.if-not-is_among.true (c.is_among.ensures.1 (here_among _ _ _ _ _ c.loop-i-test.true p))
      | then-not-is_among-via-else-not-is_among+then-not-joined_by w ↦ both_ways w.joined_by.result w.if-not-joined_by.true
          (w.joined_by.ensures.1 (here_joined _ _ _ _ _ _ c.loop-i-test.true w.next_pair.ensures p))
    ])

pub loop-i-preserved : goal.loop-i-preserved
loop-i-preserved c =
    each_more _ _ c.loop-i.invariant
    (joins_here _ _ _ _ _ _ c.loop-i-test.true c.next_pair.ensures (c.is_among.ensures.0 c.if-not-is_among.false) (c.joined_by.ensures.0 c.if-not-joined_by.false))
