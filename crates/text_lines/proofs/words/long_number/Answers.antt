use Rattle.std.proofs.Common.{◌≤◌, ◌+◌, ◌-◌, ◌*◌, ◌^◌, drop, suc, get_or, sym, ◌∙◌, arith}
use Rattle.std.proofs.lemmas.Grind.{common_steps}
use Rattle.text_lines.proofs.WordLemmas.{numeral_large, digit_after}
use Rattle.text_lines.proofs.words.long_number.Goals as goal

pub returns-then-value-digit : goal.returns-then-value-digit
returns-then-value-digit c =
    let word = c.args.word.now in
    let value = c.loop-b.value in
    let digit = get_or word c.loop-b.b-index 0 in
    let large : 2 ^ 64 ≤ value * 10 + (digit - 48) = grind (arith, common_steps) in
    numeral_large word c.requires (sym c.if-not-all_digits.ensures) value digit (drop (suc c.loop-b.b-index) word) (digit_after value c.loop-b.b-index word c.loop-b-test.true ∙ c.loop-b.invariant) large
