use Rattle.pq_cli.proofs.Judged as laws
use Rattle.pq_cli.proofs.replies.check.solved_law.Goals as goal

pub returns : goal.returns
returns c =
    let read = c.instance_law.ensures in
    let passed = c.passed_law.ensures.passed in
    record { passes = laws.solved_law read passed; agreed = laws.agreed_law read passed c.one_verdict.ensures }
