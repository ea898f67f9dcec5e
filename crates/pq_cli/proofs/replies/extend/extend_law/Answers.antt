use Rattle.pq_cli.proofs.SessionLaws as laws
use Rattle.pq_cli.proofs.replies.extend.extend_law.Goals as goal

pub returns : goal.returns
returns c = record { status = laws.extend_law; session = laws.session_law c.shown_law.ensures c.outcomes_law.ensures; base = laws.base_law }
