use Rattle.std.proofs.Common.{◌∙◌, ◌%◌, ◌^◌, ap, arith, map, leb, replicate, w8}
use Rattle.std.proofs.lemmas.List.{length-map}
use Rattle.std.proofs.lemmas.Simd.{tops_compared, zip2_splat_left, mask_l-mod}
use Rattle.std.specs.Simd.Lanes.{mask_l}
use Rattle.text_lines.proofs.digit_ends.large_lanes.Goals as goal

pub returns : goal.returns
returns c =
    ap (λ lanes. mask_l lanes % 2 ^ 64) (tops_compared w8 leb (replicate 64 10) c.args.lanes ∙ zip2_splat_left leb 10 64 c.args.lanes c.requires)
    ∙ mask_l-mod (map (leb 10) c.args.lanes) 64 (omega (arith, length-map c.args.lanes (leb 10), c.requires))
