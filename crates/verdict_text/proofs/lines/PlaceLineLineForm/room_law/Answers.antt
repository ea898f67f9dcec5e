use Rattle.verdict_text.proofs.AddedLaws.{places_none}
use Rattle.verdict_text.proofs.lines.PlaceLineLineForm.room_law.Goals as goal

pub returns : goal.returns
returns c = places_none
