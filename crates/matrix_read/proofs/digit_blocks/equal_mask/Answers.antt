use Rattle.std.proofs.Common.{◌≡◌, ℕ, List, length, eqb, arith, w8}
use Rattle.std.proofs.lemmas.Simd.{bitmask_splat, length-chunk}
use Rattle.std.specs.Simd.Lanes.{chunk}
use Rattle.matrix_read.proofs.digit_blocks.equal_mask.Goals as goal

pub returns : goal.returns
returns c =
    let bytes : List ℕ = chunk c.args.at 64 c.args.line.now in
    let long : length bytes ≡ 64 = length-chunk c.args.at 64 c.args.line.now c.requires in
    bitmask_splat w8 eqb bytes 64 c.args.byte long (omega arith)
