use Rattle.std.proofs.Common.{length, subst}
use Rattle.others_kept.specs.Counts.{AreCounts}
use Rattle.others_kept.proofs.Rest.{rest_is, rest_rows, rest_kept}
use Rattle.others_kept.proofs.others.Others.new.Goals as goal

pub new-requires-clause-rows : goal.new-requires-clause-rows
new-requires-clause-rows c = rest_rows (length c.args.m.now.rows) c.args.rows.now c.requires.rows

pub new-requires-clause-order : goal.new-requires-clause-order
new-requires-clause-order c = (c.in_ok-keeps_others.ensures.0 c.if-not-branch.false).order

pub new-requires-clause-kept : goal.new-requires-clause-kept
new-requires-clause-kept c = rest_kept c.args.m.now c.args.rows.now c.args.first.now (c.in_ok-keeps_others.ensures.0 c.if-not-branch.false)

pub returns : goal.returns
returns c = subst (λ xs. AreCounts c.args.m.now xs c.in_ok-new.field-0) (rest_is c.args.rows.now) c.in_ok-new.ensures
