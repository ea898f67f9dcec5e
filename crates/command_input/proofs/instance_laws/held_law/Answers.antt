use Rattle.command_input.proofs.Reading.{if_read}
use Rattle.command_input.proofs.instance_laws.held_law.Goals as goal

pub returns : goal.returns
returns c kind bytes made e = if_read c.instance_law.ensures kind bytes made e
