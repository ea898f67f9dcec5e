use Rattle.std.proofs.Common.{◌≡◌, sym, ap, ◌∙◌}
use Rattle.csv.specs.Reading.{default_config, strip_bom, records}
use Rattle.matrix_read.specs.RecordsLeft.{records_left}
use Rattle.matrix_read.specs.Table.{read_records}
use Rattle.matrix_read.proofs.RecordLemmas.{left_at_start}
use Rattle.matrix_read.proofs.TableLemmas.{table_long, table_short}
use Rattle.matrix_read.proofs.table.read_table.Goals as goal

pub returns-then-bytes-gt-MAX_FILE_BYTES : goal.returns-then-bytes-gt-MAX_FILE_BYTES
returns-then-bytes-gt-MAX_FILE_BYTES c = c.refused.ensures ∙ sym (table_long c.args.bytes.now c.if-bytes-gt-MAX_FILE_BYTES.true)

pub returns : goal.returns
returns c =
    let bytes = c.args.bytes.now in
    let start = c.from_reader-reader.ensures in
    let all : records_left c.from_reader-reader.result ≡ records default_config (strip_bom bytes) = left_at_start c.from_reader-reader.result (strip_bom bytes) start.state start.source in
    rw (table_short bytes c.if-bytes-gt-MAX_FILE_BYTES.false ∙ ap read_records (sym all)) c.read_records.ensures
