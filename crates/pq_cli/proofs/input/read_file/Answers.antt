use Rattle.pq_cli.proofs.Takings.{read_by_form}
use Rattle.pq_cli.proofs.input.read_file.Goals as goal

pub returns : goal.returns
returns g c =
    let one = c.in_ok-whole.ensures.whole in
    rw c.value_of.ensures (
      one.0,
      read_by_form g.F.Shelf.content g.F.Shelf.taken g.F.Shelf.faults c.args.files.now c.read_bytes.new.files c.args.name.now _ c.args.which _ _ c.in_ok-whole.whole one.0 one.1 c.in_ok-whole.ensures.shelf
          c.in_ok-read_whole.field-0 c.in_ok-read_whole.ensures.reads c.in_ok-read_whole.ensures.holds,
    )
