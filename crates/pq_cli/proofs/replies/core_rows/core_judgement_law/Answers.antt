use Rattle.pq_cli.proofs.Told as laws
use Rattle.pq_cli.proofs.replies.core_rows.core_judgement_law.Goals as goal

pub returns : goal.returns
returns c = record {
  believed = laws.believed_law c.core_laws.ensures.names;
  valid = laws.valid_law c.one_core.ensures;
  agreed = laws.agreed_law c.instance_law.ensures c.core_grammar_law.ensures c.core_laws.ensures.told c.one_core.ensures;
}
