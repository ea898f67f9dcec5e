use Rattle.std.proofs.Common.{sym}
use Rattle.csv.specs.Records.{fields_of}
use Rattle.csv.proofs.RecordFacts.{field-there}
use Rattle.matrix_read.proofs.cells.field.Goals as goal

pub unreachable-requires : goal.unreachable-requires
unreachable-requires c = field-there (fields_of c.args.fields.now) c.args.place c.requires (sym (rw c.in-None.is at c.get.ensures.value))
