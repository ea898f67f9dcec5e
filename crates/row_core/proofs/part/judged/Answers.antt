use Rattle.std.proofs.Common.{rules, length, arith}
use Rattle.row_model.proofs.Ascending.{ascends_few}
use Rattle.odd_cycle.specs.Short.{IsShort}
use Rattle.row_core.specs.Blamed.{rotated}
use Rattle.row_core.proofs.Judgements.{part_judged}
use Rattle.row_core.proofs.Needed.{some_valid_few}
use Rattle.row_core.proofs.Whole.{reasons_within, within_rotated, length-rotated, in_rotated, tree_rotated}
use Rattle.row_core.proofs.part.judged.Goals as goal

pub part_of-requires-clause-within : goal.part_of-requires-clause-within
part_of-requires-clause-within g c = within_rotated (length c.args.m.now.rows) c.args.needed c.args.list.now c.requires.rows

pub part_of-requires-clause-few : goal.part_of-requires-clause-few
part_of-requires-clause-few g c = omega (arith, ascends_few (length c.args.m.now.rows) 0 (rotated c.args.needed c.args.list.now) c.requires.rows, length-rotated c.args.needed c.args.list.now)

pub blame-requires-clause-within : goal.blame-requires-clause-within
blame-requires-clause-within g c =
    let judgement = rw (c.in-No.is, c.in_ok-part.ensures) at c.in_ok-tree.ensures.judged in
    reasons_within c.args.m.now.columns c.args.m.now.rows c.args.list.now c.in-No.cycle judgement.0.closed

pub returns-in-Yes-clause-finding : goal.returns-in-Yes-clause-finding
returns-in-Yes-clause-finding g c =
    let judgement = rw (c.in-Yes.is, c.in_ok-part.ensures) at c.in_ok-tree.ensures.judged in
    tree_rotated c.args.m.now c.args.needed c.args.list.now c.in-Yes.tree judgement.0

pub returns-clause-finding : goal.returns-clause-finding
returns-clause-finding g c =
    let m = c.args.m.now in
    let judgement = rw (c.in-No.is, c.in_ok-part.ensures) at c.in_ok-tree.ensures.judged in
    let short : IsShort m.columns c.in-No.cycle = search rules in
    let e = c.in_ok-blame-in-No.ensures in (
      e.blamed m c.requires.rows judgement.0 short,
      λ h. judgement.1 (some_valid_few m.columns m.rows c.args.list.now (rotated c.args.needed c.args.list.now) (in_rotated c.args.needed c.args.list.now) h),
      omega (arith, e.few, length-rotated c.args.needed c.args.list.now),
      e.more.0,
      e.more.1,
    )

pub returns-clause-in_turn : goal.returns-clause-in_turn
returns-clause-in_turn g c = λ turn needed.
    let first = rw (c.in-No.is, c.in_ok-part.ensures) at (c.in_ok-tree.ensures.in_turn turn) in
    c.in_ok-blame-in-No.ensures.needed c.args.m.now c.requires.rows needed first

pub returns-in_err-tree-clause-judgements : goal.returns-in_err-tree-clause-judgements
returns-in_err-tree-clause-judgements g c =
    part_judged g.J.Judge.costs c.in_ok-part.part c.args.m.now c.args.needed c.args.list.now c.args.steps.now c.judged_short.new.steps c.in_ok-part.ensures c.requires.rows c.judged_short.ensures.most

pub returns-in-Yes-clause-judgements : goal.returns-in-Yes-clause-judgements
returns-in-Yes-clause-judgements g c =
    part_judged g.J.Judge.costs c.in_ok-part.part c.args.m.now c.args.needed c.args.list.now c.args.steps.now c.judged_short.new.steps c.in_ok-part.ensures c.requires.rows c.judged_short.ensures.most

pub returns-in_err-blame-in-No-clause-judgements : goal.returns-in_err-blame-in-No-clause-judgements
returns-in_err-blame-in-No-clause-judgements g c =
    part_judged g.J.Judge.costs c.in_ok-part.part c.args.m.now c.args.needed c.args.list.now c.args.steps.now c.judged_short.new.steps c.in_ok-part.ensures c.requires.rows c.judged_short.ensures.most

pub returns-clause-judgements : goal.returns-clause-judgements
returns-clause-judgements g c =
    part_judged g.J.Judge.costs c.in_ok-part.part c.args.m.now c.args.needed c.args.list.now c.args.steps.now c.judged_short.new.steps c.in_ok-part.ensures c.requires.rows c.judged_short.ensures.most
