use Rattle.std.proofs.Common.{◌≡◌, ◌^◌, ℕ, List, length, map, eqb, ap, arith}
use Rattle.std.proofs.lemmas.Simd.{length-chunk}
use Rattle.std.specs.Simd.Lanes.{chunk, mask_l}
use Rattle.matrix_read.proofs.BitPlaceLemmas.{one_of_two}
use Rattle.matrix_read.proofs.digit_blocks.ones_mask.Goals as goal

pub returns-then-equal_mask-ones-clause-digits : goal.returns-then-equal_mask-ones-clause-digits
returns-then-equal_mask-ones-clause-digits c =
    let bytes : List ℕ = chunk c.args.at 64 c.args.line.now in
    let long : length bytes ≡ 64 = length-chunk c.args.at 64 c.args.line.now c.requires in
    let power : 2 ^ length bytes ≡ 2 ^ 64 = ap (λ k. 2 ^ k) long in
    let zeros : ℕ = mask_l (map (λ b. eqb b 48) bytes) in
    let ones : ℕ = mask_l (map (λ b. eqb b 49) bytes) in
    one_of_two (λ b. eqb b 48) (λ b. eqb b 49) bytes (omega (arith, power, c.equal_mask-ones.ensures, c.equal_mask.ensures, c.if-equal_mask-ones.true))
