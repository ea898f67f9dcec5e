use Rattle.std.proofs.Common.{length}
use Rattle.command_input.specs.Instances.{instance_of}
use Rattle.file_steps.proofs.Found.{of_read}
use Rattle.file_steps.proofs.Bounds.{IsWithin, within}
use Rattle.file_steps.proofs.file_size_law.Goals as goal

pub returns : goal.returns
returns c kind bytes i made =
    of_read (IsWithin kind (length bytes)) (instance_of kind bytes) i made (within c.balls_law.ensures.few kind bytes) (c.instance_law.ensures kind bytes i made)
