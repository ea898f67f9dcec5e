use Rattle.std.proofs.Common.{◌≡◌, ◌+◌, Some, drop, rules}
use Rattle.pq_io.specs.MemShelf.{left_at}
use Rattle.pq_io.proofs.Pieces.{rest_of, none_left}
use Rattle.pq_io.proofs.mem_shelf.MemShelfShelf.read.Goals as goal

pub returns-clause-bytes : goal.returns-clause-bytes
returns-clause-bytes c =
    let bytes = c.bytes_of.result.now in
    let at = c.in-Some.place.read in
    let n = c.give-n.result in
    let left : c.args.self.now.left ≡ Some (drop at bytes) = search rules in
    let next : left_at c.self.inside.files.items (record { file = c.in-Some.place.file; read = at + n }) ≡ drop (at + n) bytes = search rules in
    rw (left, next) (
      rest_of bytes c.give-n.new.buf at n c.give-n.ensures.given,
      λ zero some. none_left bytes at n _ _ c.give-n.ensures.count c.self.invariant.0 zero (search rules),
    )
