use Rattle.pq_cli.proofs.Units as laws
use Rattle.pq_cli.proofs.replies.unit_check.unit_check_law.Goals as goal

pub returns : goal.returns
returns c =
    let texts = c.unit_text_laws.ensures in
    record { status = laws.unit_check_law texts.one; agreed = laws.unit_agreed_law texts.one texts.length }
