use Rattle.std.proofs.Common.{ℕ, List, ◌∙◌}
use Rattle.std.proofs.lemmas.Simd.{length-chunk, length-zip2}
use Rattle.std.specs.Simd.Lanes.{chunk}
use Rattle.text_lines.proofs.digit_word.lanes_at.Goals as goal

pub returns-clause-len : goal.returns-clause-len
returns-clause-len c =
    let bytes : List ℕ = chunk c.args.at 8 c.args.text.now in
    length-zip2 _ bytes _ (length-chunk c.args.at 8 c.args.text.now c.requires) ∙ length-chunk c.args.at 8 c.args.text.now c.requires
