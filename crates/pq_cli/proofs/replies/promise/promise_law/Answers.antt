use Rattle.pq_cli.proofs.PromiseLaws as laws
use Rattle.pq_cli.proofs.replies.promise.promise_law.Goals as goal

pub returns : goal.returns
returns c =
    let reply = c.reply_law.ensures in
    laws.promise_law reply.no reply.yes reply.orders reply.cycle (record {
      check = c.check_law.ensures.believed;
      agreed = c.solved_law.ensures.agreed;
      session = c.extend_law.ensures.session;
      base = c.extend_law.ensures.base;
      no_core = c.core_law.ensures.none;
      core_believed = c.core_judgement_law.ensures.believed;
      core_agreed = c.core_judgement_law.ensures.agreed;
      no_list = c.list_law.ensures.none;
      unit = c.unit_reply_law.ensures.status;
      printed_unit = c.unit_reply_law.ensures.model;
      no_unit = c.unit_reply_law.ensures.none;
      unit_check = c.unit_check_law.ensures.status;
      unit_agreed = c.unit_check_law.ensures.agreed;
    })
