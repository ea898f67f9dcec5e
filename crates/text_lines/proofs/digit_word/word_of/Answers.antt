use Rattle.std.proofs.Common.{◌<◌, ◌^◌, arith, w8}
use Rattle.std.proofs.lemmas.Simd.{below_from_Fits}
use Rattle.std.specs.Simd.Lanes.{number_l}
use Rattle.text_lines.proofs.DigitWord.{number_small}
use Rattle.text_lines.proofs.digit_word.word_of.Goals as goal

pub returns : goal.returns
returns c =
    let small : number_l 256 c.args.lanes < 2 ^ 64 = number_small c.args.lanes c.requires (below_from_Fits w8 c.args.lanes c.fits-lanes.1) in
    omega (arith, small)
