use Rattle.std.proofs.Common.{◌≡◌, ◌≤◌, ℕ, List, ◌+◌, ◌*◌, drop, suc, get_or, ap, sym, ◌∙◌, true, arith}
use Rattle.std.specs.Char.{is_ascii_digit}
use Rattle.text_lines.specs.Words.{number_after}
use Rattle.text_lines.proofs.WordLemmas.{one_more_digit, few_digits, digit_most, digits_after, digit_after}
use Rattle.text_lines.proofs.words.short_number.Goals as goal

pub overflow_mul-value : goal.overflow_mul-value
overflow_mul-value c =
    let more = one_more_digit c.loop-b.value 0 c.loop-b.b-index c.loop-b.invariant.small (omega arith) in
    omega (arith, few_digits (c.loop-b.value * 10 + 0) (c.loop-b.b-index + 1) more (omega (arith, c.loop-b-test.true, c.requires.short)))

pub overflow_add-value : goal.overflow_add-value
overflow_add-value c =
    let nine : c.from.result ≤ 9 = omega (arith, c.from.ensures, digit_most (get_or c.args.word.now c.loop-b.b-index 0) (sym c.is_ascii_digit.ensures.value ∙ c.if-not-is_ascii_digit.false)) in
    let more = one_more_digit c.loop-b.value c.from.result c.loop-b.b-index c.loop-b.invariant.small nine in
    omega (arith, few_digits (c.loop-b.value * 10 + c.from.result) (c.loop-b.b-index + 1) more (omega (arith, c.loop-b-test.true, c.requires.short)))

pub loop-b-preserved : goal.loop-b-preserved
loop-b-preserved c =
    let word : List ℕ = c.args.word.now in
    let i : ℕ = c.loop-b.b-index in
    let v : ℕ = c.loop-b.value in
    let next : i + 1 ≡ suc i = omega arith in
    let digit : is_ascii_digit (get_or word i 0) ≡ true = sym c.is_ascii_digit.ensures.value ∙ c.if-not-is_ascii_digit.false in
    let nine : c.from.result ≤ 9 = omega (arith, c.from.ensures, digit_most (get_or c.args.word.now c.loop-b.b-index 0) (sym c.is_ascii_digit.ensures.value ∙ c.if-not-is_ascii_digit.false)) in
    record {
      number = ap (λ n. number_after (v * 10 + c.from.result) (drop n word)) next ∙ ap (λ d. number_after (v * 10 + d) (drop (suc i) word)) c.from.ensures
          ∙ digit_after v i word c.loop-b-test.true ∙ c.loop-b.invariant.number;
      digits = digits_after i word c.loop-b-test.true digit c.loop-b.invariant.digits;
      small = one_more_digit v c.from.result i c.loop-b.invariant.small nine;
    }
