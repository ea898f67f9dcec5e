use Rattle.pq_cli.proofs.ToldFiles.{completes_over_told, promise_over_told}
use Rattle.pq_cli.proofs.real.told_files_law.Goals as goal

pub returns-clause-complete : goal.returns-clause-complete
returns-clause-complete g c old new command before after status takes completes =
    completes_over_told g.F.Shelf.content g.F.Shelf.taken g.F.Shelf.faults old new command status takes before after completes

pub returns-clause-promise : goal.returns-clause-promise
returns-clause-promise g c old new command before after status takes completes keeps =
    promise_over_told g.F.Shelf.content g.F.Shelf.taken g.F.Shelf.faults old new command status takes before after completes keeps
