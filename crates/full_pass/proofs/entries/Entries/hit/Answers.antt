use Rattle.std.proofs.Common.{arith}
use Rattle.std.proofs.lemmas.Grind.{common_steps}
use Rattle.full_pass.proofs.entries.Entries.hit.Goals as goal

pub returns-clause-here : goal.returns-clause-here
returns-clause-here c = grind (arith, common_steps)

pub returns-clause-others : goal.returns-clause-others
returns-clause-others c = grind (arith, common_steps)

pub returns-clause-first : goal.returns-clause-first
returns-clause-first c = grind (arith, common_steps)

pub returns-clause-firsts : goal.returns-clause-firsts
returns-clause-firsts c = grind (arith, common_steps)

pub returns-clause-next : goal.returns-clause-next
returns-clause-next c = grind (arith, common_steps)

pub returns-clause-nexts : goal.returns-clause-nexts
returns-clause-nexts c = grind (arith, common_steps)
