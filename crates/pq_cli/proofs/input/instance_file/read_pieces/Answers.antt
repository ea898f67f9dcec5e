use Rattle.command_input.specs.Instances.{ReadsInstance, HoldsInstance}
use Rattle.pq_cli.proofs.Takings.{read_by_form, fits_itself}
use Rattle.pq_cli.proofs.Pieces.{pieces_read}
use Rattle.pq_cli.proofs.input.instance_file.read_pieces.Goals as goal

pub returns : goal.returns
returns g c =
    let one = c.in_ok-made.ensures.made in
    let kind = c.args.kind in
    let judged = pieces_read kind c.args.reader c.requires c.long_law.ensures c.in_ok-made.made in
    rw (c.value_of.ensures, c.unwrap_or.ensures, c.too_long.ensures) (
      one.0,
      read_by_form g.F.Shelf.content g.F.Shelf.taken g.F.Shelf.faults c.args.files.now c.pass_bytes.new.files c.args.name.now _ 1 (ReadsInstance kind) (HoldsInstance kind) c.in_ok-made.made one.0 one.1
          c.in_ok-made.ensures.shelf _ judged (c.held_law.ensures kind one.0.bytes _ (judged one.0.bytes (one.1.whole one.0.bytes (fits_itself one.0)))),
    )
