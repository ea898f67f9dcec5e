use Rattle.std.proofs.Common.{◌∙◌, ◌+◌, ◌%◌, ap, map, leb, ℕ, List}
use Rattle.std.proofs.lemmas.Simd.{map-map, length-chunk, length-zip2, zip2_splat}
use Rattle.std.specs.Simd.Lanes.{chunk, mask_l}
use Rattle.text_lines.proofs.digit_ends.other_marks.Goals as goal

pub large_lanes-requires : goal.large_lanes-requires
large_lanes-requires c =
    let bytes : List ℕ = chunk c.args.at 64 c.args.text.now in
    length-zip2 _ bytes _ (length-chunk c.args.at 64 c.args.text.now c.requires) ∙ length-chunk c.args.at 64 c.args.text.now c.requires

pub returns : goal.returns
returns c =
    c.large_lanes.ensures
    ∙ ap (λ lanes. mask_l (map (λ lane. leb 10 lane) lanes)) (zip2_splat _ (chunk c.args.at 64 c.args.text.now) 64 48 (length-chunk c.args.at 64 c.args.text.now c.requires))
    ∙ ap mask_l (map-map (λ lane. leb 10 lane) (λ byte. (byte + 208) % 256) (chunk c.args.at 64 c.args.text.now))
