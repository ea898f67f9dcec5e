use Rattle.pq_cli.proofs.report.report.Goals as goal

pub returns-in-WriteFault : goal.returns-in-WriteFault
returns-in-WriteFault g c = rw c.in-WriteFault.is c.offer-in-WriteFault.ensures
