use Rattle.one_text.proofs.OneReply.{one_reply}
use Rattle.one_text.proofs.one_reply_law.Goals as goal

pub returns : goal.returns
returns c =
    one_reply c.canonical_tree_law.ensures.one c.place_laws.ensures.places c.place_laws.ensures.contigs c.model_law.ensures.one_list c.textbook_law.ensures.valid c.shown_law.ensures c.instance_law.ensures c.one_verdict.ensures c.one_core.ensures
    c.unit_text_laws.ensures.one c.one_rule_law.ensures c.first_orders_law.ensures
