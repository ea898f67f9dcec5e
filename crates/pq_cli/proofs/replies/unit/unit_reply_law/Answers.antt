use Rattle.pq_cli.proofs.Units as laws
use Rattle.pq_cli.proofs.replies.unit.unit_reply_law.Goals as goal

pub returns : goal.returns
returns c = record {
  status = laws.unit_status_law c.instance_law.ensures c.reply_law.ensures.no c.unit_law.ensures;
  model = laws.printed_unit_law;
  none = laws.no_unit_law;
}
