use Rattle.pq_cli.proofs.real.run_real.Goals as goal

pub returns-clause-words : goal.returns-clause-words
returns-clause-words g c = c.run.ensures.words

pub returns-clause-unread : goal.returns-clause-unread
returns-clause-unread g c = c.run.ensures.unread

pub returns-clause-files : goal.returns-clause-files
returns-clause-files g c = c.run.ensures.files

pub returns-clause-answer : goal.returns-clause-answer
returns-clause-answer g c = c.run.ensures.answer

pub returns-clause-output : goal.returns-clause-output
returns-clause-output g c = c.run.ensures.output

pub returns-clause-write_fault : goal.returns-clause-write_fault
returns-clause-write_fault g c = c.run.ensures.write_fault

pub returns-clause-unwritten : goal.returns-clause-unwritten
returns-clause-unwritten g c = c.run.ensures.unwritten

pub returns-clause-status : goal.returns-clause-status
returns-clause-status g c = c.run.ensures.status

pub returns-clause-quiet : goal.returns-clause-quiet
returns-clause-quiet g c = c.run.ensures.quiet

pub returns-clause-line : goal.returns-clause-line
returns-clause-line g c = c.run.ensures.line

pub returns-clause-complete : goal.returns-clause-complete
returns-clause-complete g c = c.run.ensures.complete

pub returns-clause-promise : goal.returns-clause-promise
returns-clause-promise g c = c.run.ensures.promise
