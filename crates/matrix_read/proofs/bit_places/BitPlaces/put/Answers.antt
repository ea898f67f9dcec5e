use Rattle.std.proofs.Common.{◌*◌, ◌+◌, ℕ, List, take, get_or, ◌∙◌, ap, arith}
use Rattle.std.proofs.lemmas.List.{take-take}
use Rattle.std.proofs.lemmas.Simd.{length-chunk}
use Rattle.std.specs.Simd.Lanes.{chunk, put_chunk}
use Rattle.matrix_read.specs.BitPlaces.{ListsOnes}
use Rattle.matrix_read.proofs.BitPlaceLemmas.{put_lanes}
use Rattle.matrix_read.proofs.bit_places.BitPlaces.put.Goals as goal

pub returns-clause-columns : goal.returns-clause-columns
returns-clause-columns c =
    let places : List ℕ = c.args.self.now.places in
    let counts : List ℕ = c.args.self.now.counts in
    let byte : ℕ = c.args.byte in
    let columns : List ℕ = c.args.columns.now in
    let taken : ℕ = get_or counts byte 0 in
    let listed : ListsOnes places counts byte = c.args.self.now.listed byte c.requires.byte in
    let lanes : List ℕ = chunk (8 * byte) 8 places in
    ap (λ (l : List ℕ). take (c.args.count + taken) (put_chunk c.args.count columns l)) c.moved.ensures
    ∙ put_lanes columns lanes c.args.count taken c.args.first byte (length-chunk (8 * byte) 8 places (omega (arith, c.type_inv.self))) listed.few c.requires.room c.requires.small
    (take-take taken 8 _ listed.few ∙ listed.are)
