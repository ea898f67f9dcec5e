use Rattle.verdict_judge.proofs.SameLists.{same_spans}
use Rattle.verdict_judge.proofs.clones.same_contigs.Goals as goal

pub returns : goal.returns
returns c = same_spans c.args.contigs.now c.args.others.now c.eq.result c.eq.ensures
