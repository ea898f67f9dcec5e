use Rattle.verdict_judge.proofs.GapCut.{within_cut, looks_cut}
use Rattle.verdict_judge.proofs.gaps.are_within.Goals as goal

pub returns-clause-within : goal.returns-clause-within
returns-clause-within g c =
    within_cut c.args.gaps.now c.args.first c.args.last c.depth.result c.depth-2.result c.max-outer.result c.requires c.max-outer.ensures c.depth.ensures c.depth-2.ensures c.all_within.result
    c.all_within.ensures.within

pub returns-clause-looks : goal.returns-clause-looks
returns-clause-looks g c =
    looks_cut c.args.gaps.now c.args.first c.args.last c.depth.result c.depth-2.result c.max-outer.result c.requires c.max-outer.ensures c.depth.ensures c.depth-2.ensures c.args.steps.now
    c.all_within.new.steps c.all_within.ensures.looks
