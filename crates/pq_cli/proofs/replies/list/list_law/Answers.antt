use Rattle.pq_cli.proofs.ListLaws as laws
use Rattle.pq_cli.proofs.replies.list.list_law.Goals as goal

pub returns : goal.returns
returns c = record { status = laws.status_law; list = laws.list_law; none = laws.none_law }
