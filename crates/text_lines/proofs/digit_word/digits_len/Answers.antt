use Rattle.std.proofs.Common.{◌≡◌, ℕ, arith, w64}
use Rattle.std.specs.Int.{trailing_ones}
use Rattle.std.proofs.lemmas.Nat.Bits.{bit_at-trailing_ones}
use Rattle.text_lines.proofs.DigitWord.{digits_counted}
use Rattle.text_lines.proofs.digit_word.digits_len.Goals as goal

pub returns : goal.returns
returns c =
    let mask : ℕ = c.digit_mask.result in
    let count : c.trailing_ones.result ≡ trailing_ones w64 mask = c.trailing_ones.ensures in
    let set = bit_at-trailing_ones w64 mask (omega (arith, c.digit_mask.ensures.small)) in
    digits_counted c.args.lanes mask c.trailing_ones.result c.requires c.digit_mask.ensures.mask (λ i lt. set.2 i (omega (arith, count, lt)))
