use Rattle.std.proofs.Common.{◌≡◌, ◌∙◌, ◌<◌, ℕ, List, ◌+◌, ◌-◌, ◌*◌, ◌%◌, ◌^◌, get_or, refl, sym, ap, arith, true}
use Rattle.std.specs.Char.{is_ascii_digit}
use Rattle.text_lines.proofs.WordLemmas.{one_more_digit, few_digits, digit_most}
use Rattle.text_lines.proofs.FewDigits.{value_fits, digit_more, value_more}
use Rattle.text_lines.proofs.words.first_digits.Goals as goal

pub loop-i-init : goal.loop-i-init
loop-i-init c = record { digits = refl; value = λ few. (refl, omega arith) }

pub loop-i-preserved : goal.loop-i-preserved
loop-i-preserved c =
    let bytes : List ℕ = c.args.bytes.now in
    let i : ℕ = c.loop-i.i in
    let b : ℕ = get_or bytes i 0 in
    let v : ℕ = c.loop-i.value in
    let digit : is_ascii_digit b ≡ true = sym c.is_ascii_digit.ensures.value ∙ c.if-not-is_ascii_digit.false in
    record {
      digits = digit_more bytes i c.loop-i-test.true c.loop-i.invariant.digits digit;
      value = λ few.
          let so_far = c.loop-i.invariant.value (omega arith) in
          let more = one_more_digit v (b - 48) i so_far.1 (digit_most b digit) in
          let small : v * 10 + (b - 48) < 2 ^ 64 = few_digits (v * 10 + (b - 48)) (i + 1) more few in
          let is : (v * 10 % 2 ^ 64 + c.from.result) % 2 ^ 64 ≡ v * 10 + (b - 48) =
          ap (λ d. (v * 10 % 2 ^ 64 + d) % 2 ^ 64) c.from.ensures ∙ value_fits v (b - 48) small in
          (is ∙ value_more bytes i c.loop-i-test.true v so_far.0, rw is more);
    }
