use Rattle.pq_cli.proofs.Judged as laws
use Rattle.pq_cli.proofs.replies.check.check_law.Goals as goal

pub returns : goal.returns
returns c =
    let read = c.instance_law.ensures in
    let one = c.one_verdict.ensures in
    record {
      believed = laws.check_law read c.true_law.ensures;
      status = laws.status_law one;
      exact = laws.true_status_law read c.true_law.ensures c.exact_laws.ensures.true_yes one;
    }
