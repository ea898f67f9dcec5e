use Rattle.std.proofs.Common.{◌*◌, ◌%◌, ◌-◌, ◌<◌, ◌≤◌, ◌^◌, ℕ, get_or, arith}
use Rattle.std.proofs.lemmas.Simd.{length-put_chunk}
use Rattle.std.specs.Simd.Lanes.{chunk}
use Rattle.matrix_read.proofs.BitPlaceLemmas.{few_there, next_listed, top_few}
use Rattle.matrix_read.proofs.bit_places.list_byte.Goals as goal

pub bounds-places-byte : goal.bounds-places-byte
bounds-places-byte c =
    let top : ℕ = c.ilog2-top.result in
    let byte : ℕ = c.args.byte in
    let eight : top < 8 = top_few byte top c.requires.byte.1 c.ilog2-top.ensures.power_le in
    let power : 2 ^ top < 2 ^ 64 = omega (arith, c.ilog2-top.ensures.power_le) in
    let low : ℕ = byte - 1 * 2 ^ top % 2 ^ 64 in
    let few : get_or c.args.counts.now low 0 ≤ top =
    few_there c.args.places.now c.args.counts.now byte low top c.requires.places c.requires.counts c.requires.byte.1 (omega arith) (omega arith) eight c.requires.lower in
    omega (arith, few, length-put_chunk (8 * byte) c.args.places.now (chunk (8 * low) 8 c.args.places.now))

pub returns : goal.returns
returns c =
    let top : ℕ = c.ilog2-top.result in
    let byte : ℕ = c.args.byte in
    let eight : top < 8 = top_few byte top c.requires.byte.1 c.ilog2-top.ensures.power_le in
    let low : ℕ = byte - 1 * 2 ^ top % 2 ^ 64 in
    next_listed c.args.places.now c.args.counts.now byte low top c.requires.places c.requires.counts c.requires.byte.1 (omega arith) (omega arith) eight c.requires.lower
