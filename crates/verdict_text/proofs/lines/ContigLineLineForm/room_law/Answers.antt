use Rattle.verdict_text.proofs.AddedLaws.{contigs_none}
use Rattle.verdict_text.proofs.lines.ContigLineLineForm.room_law.Goals as goal

pub returns : goal.returns
returns c = contigs_none
