use Rattle.std.proofs.Common.{length, arith}
use Rattle.file_steps.proofs.Bounds.{size_most, all_most}
use Rattle.file_steps.proofs.any_file_law.Goals as goal

pub returns-clause-yes : goal.returns-clause-yes
returns-clause-yes c kind file bytes i s n made steps =
    omega (arith, c.file_steps_law.ensures.yes kind file bytes i s n made steps, size_most i (length bytes) (c.instance_law.ensures kind bytes i made).within)

pub returns-clause-most : goal.returns-clause-most
returns-clause-most c kind file bytes i status s n made steps =
    omega (arith, c.file_steps_law.ensures.most kind file bytes i status s n made steps, all_most i (length bytes) (c.instance_law.ensures kind bytes i made).within)
