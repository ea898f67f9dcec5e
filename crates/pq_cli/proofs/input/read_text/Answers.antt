use Rattle.file_io.specs.Whole.{IsWhole}
use Rattle.row_model.specs.declared.refusal.Read.TheVariants as read
use Rattle.pq_cli.specs.Reading.{ReadsBytes, IsRead}
use Rattle.pq_cli.proofs.Takings.{read_by_form}
use Rattle.pq_cli.proofs.input.read_text.Goals as goal

pub returns : goal.returns
returns g c =
    let one = c.in_ok-whole.ensures.whole in
    rw c.value_of.ensures (
      one.0,
      read_by_form g.F.Shelf.content g.F.Shelf.taken g.F.Shelf.faults c.args.files.now c.read_bytes.new.files c.args.name.now (IsWhole c.args.limit) 2 (ReadsBytes c.args.limit) IsRead c.in_ok-whole.whole one.0 one.1
          c.in_ok-whole.ensures.shelf (read.Ok c.in_ok-whole.whole) (λ bytes w. w) tt,
    )
