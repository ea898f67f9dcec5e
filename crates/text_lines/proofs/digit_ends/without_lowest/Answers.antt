use Rattle.std.proofs.Common.{◌<◌, ◌^◌, arith, rules, w64}
use Rattle.std.proofs.lemmas.Nat.Bits.{bit_at-trailing_zeros}
use Rattle.std.specs.Int.{trailing_zeros}
use Rattle.text_lines.proofs.EndLemmas.{IsLowest, lowest_cleared, others_kept}
use Rattle.text_lines.proofs.digit_ends.without_lowest.Goals as goal

pub returns : goal.returns
returns c =
    let fits : c.args.marks < 2 ^ 64 = search rules in
    let lowest : IsLowest c.args.marks (trailing_zeros w64 c.args.marks) = bit_at-trailing_zeros w64 c.args.marks (omega arith) fits in
    record {
      lowest = lowest_cleared c.args.marks (trailing_zeros w64 c.args.marks) lowest;
      others = others_kept c.args.marks (trailing_zeros w64 c.args.marks) lowest;
    }
