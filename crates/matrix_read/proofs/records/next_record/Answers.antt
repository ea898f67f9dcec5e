use Rattle.csv.specs.Records.{fields_of}
use Rattle.matrix_read.proofs.RecordLemmas.{left_after_found, left_at_end}
use Rattle.matrix_read.proofs.records.next_record.Goals as goal

pub returns-in-Ok-clause-found : goal.returns-in-Ok-clause-found
returns-in-Ok-clause-found c = λ e. left_after_found c.args.reader.now c.read_byte_record.new.self (fields_of c.read_byte_record.new.row) c.requires (rw e at (c.in-Ok.ensures.reads c.requires.trim c.requires.ready))

pub returns-in-Ok-clause-end : goal.returns-in-Ok-clause-end
returns-in-Ok-clause-end c = λ e. left_at_end c.args.reader.now c.read_byte_record.new.self (fields_of c.read_byte_record.new.row) c.requires (rw e at (c.in-Ok.ensures.reads c.requires.trim c.requires.ready))
