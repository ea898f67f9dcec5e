use Rattle.std.proofs.Common.{arith}
use Rattle.std.proofs.lemmas.Grind.{common_steps}
use Rattle.bubble_pass.proofs.labels.Labels.tell.Goals as goal

pub overflow_add-full : goal.overflow_add-full
overflow_add-full c = grind (arith, common_steps)

pub overflow_add-partial : goal.overflow_add-partial
overflow_add-partial c = grind (arith, common_steps)

pub returns : goal.returns
returns c = grind (arith, common_steps)
