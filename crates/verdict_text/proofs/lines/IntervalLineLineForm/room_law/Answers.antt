use Rattle.verdict_text.proofs.AddedLaws.{intervals_none}
use Rattle.verdict_text.proofs.lines.IntervalLineLineForm.room_law.Goals as goal

pub returns : goal.returns
returns c = intervals_none
