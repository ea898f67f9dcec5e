use Rattle.verdict_judge.proofs.SameLists.{same_places}
use Rattle.verdict_judge.proofs.clones.same_places.Goals as goal

pub returns : goal.returns
returns c = same_places c.args.places.now c.args.others.now c.eq.result c.eq.ensures
