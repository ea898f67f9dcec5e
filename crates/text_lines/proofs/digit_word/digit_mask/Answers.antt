use Rattle.std.proofs.Common.{◌≡◌, ◌∙◌, ◌<◌, map, ltb, length, arith, w8}
use Rattle.std.proofs.lemmas.List.{length-map}
use Rattle.std.proofs.lemmas.Simd.{bitmask_splat, mask_l-lt}
use Rattle.std.specs.Simd.Lanes.{mask_l}
use Rattle.text_lines.proofs.digit_word.digit_mask.Goals as goal

pub returns : goal.returns
returns c =
    let long : length (map (λ x. ltb x 10) c.args.lanes) ≡ 8 = length-map c.args.lanes (λ x. ltb x 10) ∙ c.requires in
    let small : mask_l (map (λ x. ltb x 10) c.args.lanes) < 256 = rw long at (mask_l-lt (map (λ x. ltb x 10) c.args.lanes)) in
    let is = bitmask_splat w8 ltb c.args.lanes 8 10 c.requires (omega arith) in
    record {
      mask = is;
      small = omega (arith, is, small);
    }
