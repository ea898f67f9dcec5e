use Rattle.std.proofs.Common.{arith}
use Rattle.std.proofs.lemmas.Grind.{common_steps}
use Rattle.full_pass.proofs.entries.Entries.clear_tallies.Goals as goal

pub returns-clause-length : goal.returns-clause-length
returns-clause-length c = grind (arith, common_steps)

pub returns-clause-seen : goal.returns-clause-seen
returns-clause-seen c = grind (arith, common_steps)
