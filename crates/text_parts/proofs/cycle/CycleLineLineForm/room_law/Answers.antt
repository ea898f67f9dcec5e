use Rattle.text_parts.proofs.LineLaws.{lines_none}
use Rattle.text_parts.proofs.cycle.CycleLineLineForm.room_law.Goals as goal

pub returns : goal.returns
returns c = lines_none
