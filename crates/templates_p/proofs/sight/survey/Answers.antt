use Rattle.std.proofs.Common.{arith}
use Rattle.std.proofs.lemmas.Grind.{common_steps}
use Rattle.templates_p.proofs.sight.survey.Goals as goal

pub counts-counts-requires : goal.counts-counts-requires
counts-counts-requires g c = grind (arith, common_steps)
