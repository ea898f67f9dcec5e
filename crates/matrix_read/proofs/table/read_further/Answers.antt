use Rattle.std.proofs.Common.{◌≡◌, sym, ap, ◌∙◌, length}
use Rattle.csv.specs.Records.{fields_of}
use Rattle.matrix_read.specs.RecordsLeft.{records_left}
use Rattle.matrix_read.specs.TableSteps.{with_even_records}
use Rattle.matrix_read.proofs.TableLemmas.{even_here, even_end}
use Rattle.matrix_read.proofs.table.read_further.Goals as goal

pub loop-so_far-preserved : goal.loop-so_far-preserved
loop-so_far-preserved c =
    let width = c.len-width.result in
    let fields = fields_of c.next_record.new.fields in
    let rest = records_left c.next_record.new.reader in
    let even : length fields ≡ width = sym c.len.ensures ∙ c.if-len-width.false in
    record {
      plain = c.in_ok-next_record.ensures.plain;
      within = rw even at c.in_ok-so_far.ensures.within;
      so_far =
          ap (λ read. with_even_records width read rest) c.in_ok-so_far.ensures.read
          ∙ even_here width c.loop-so_far.so_far fields _ rest (c.in_ok-next_record.ensures.found c.if-branch.true) even
          ∙ c.loop-so_far.invariant.so_far;
    }

pub returns : goal.returns
returns c =
    sym (even_end c.len-width.result c.loop-so_far.so_far _ (c.in_ok-next_record.ensures.end c.if-branch.false))
    ∙ c.loop-so_far.invariant.so_far
    ∙ ap (λ width. with_even_records width c.args.begun (records_left c.args.reader.now)) c.len-width.ensures
