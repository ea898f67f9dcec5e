use Rattle.pq_cli.proofs.Meetings.{status_law, text_law}
use Rattle.pq_cli.proofs.replies.meet.meet_law.Goals as goal

pub returns : goal.returns
returns c = let file_law = c.tree_file_law.ensures.read in record { status = status_law file_law; text = text_law file_law }
