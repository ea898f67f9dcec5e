use Rattle.std.proofs.Common.{◌≡◌, sym, ap, ◌∙◌, length}
use Rattle.csv.specs.Records.{fields_of}
use Rattle.matrix_read.specs.RecordsLeft.{records_left}
use Rattle.matrix_read.specs.Table.{read_records}
use Rattle.matrix_read.specs.TableSteps.{with_even_records}
use Rattle.matrix_read.proofs.TableLemmas.{records_read}
use Rattle.matrix_read.proofs.table.read_records.Goals as goal

pub returns-then-not-branch : goal.returns-then-not-branch
returns-then-not-branch c = c.refused.ensures ∙ sym (ap read_records (c.in_ok-next_record.ensures.end c.if-not-branch.true))

pub returns : goal.returns
returns c =
    let header = fields_of c.next_record.new.fields in
    let left = records_left c.next_record.new.reader in
    let whole : read_records (records_left c.args.reader.now) ≡ with_even_records (length header) c.in_ok-begun.begun left =
    ap read_records (c.in_ok-next_record.ensures.found c.if-not-branch.false)
    ∙ records_read header left
    ∙ ap (λ begun. with_even_records (length header) begun left) (sym c.in_ok-begun.ensures.read)
    in
    rw whole c.read_further.ensures
