use Rattle.pq_cli.proofs.Told as laws
use Rattle.pq_cli.proofs.replies.core_rows.core_law.Goals as goal

pub returns : goal.returns
returns c = record { status = laws.status_law; written = laws.written_law; none = laws.none_law }
