use Rattle.std.proofs.Common.{◌≡◌, ◌≤◌, ◌<◌, ◌+◌, ◌-◌, ◌*◌, ℕ, List, length, get_or, sym, ap, ◌∙◌, arith, true}
use Rattle.std.specs.Char.{is_ascii_digit}
use Rattle.text_lines.proofs.WordLemmas.{one_more_digit, few_digits, digit_most}
use Rattle.text_lines.proofs.PlainLemmas.{digit_between, value_between}
use Rattle.text_lines.proofs.plain.digits_at.Goals as goal

pub overflow_mul-value : goal.overflow_mul-value
overflow_mul-value c =
    let len : ℕ = c.loop-end.end - c.args.at in
    let more = one_more_digit c.loop-end.value 0 len c.loop-end.invariant.small (omega arith) in
    omega (arith, few_digits (c.loop-end.value * 10 + 0) (len + 1) more (omega (arith, c.loop-end-test.true, c.loop-end.invariant.near)))

pub overflow_add-value : goal.overflow_add-value
overflow_add-value c =
    let len : ℕ = c.loop-end.end - c.args.at in
    let nine : c.from.result ≤ 9 = omega (arith, c.from.ensures, digit_most (get_or c.args.text.now c.loop-end.end 0) (sym c.is_ascii_digit.ensures.value ∙ c.if-not-is_ascii_digit.false)) in
    let more = one_more_digit c.loop-end.value c.from.result len c.loop-end.invariant.small nine in
    omega (arith, few_digits (c.loop-end.value * 10 + c.from.result) (len + 1) more (omega (arith, c.loop-end-test.true, c.loop-end.invariant.near)))

pub loop-end-preserved : goal.loop-end-preserved
loop-end-preserved c =
    let text : List ℕ = c.args.text.now in
    let at : ℕ = c.args.at in
    let i : ℕ = c.loop-end.end in
    let b : ℕ = get_or text i 0 in
    let v : ℕ = c.loop-end.value in
    let digit : is_ascii_digit b ≡ true = sym c.is_ascii_digit.ensures.value ∙ c.if-not-is_ascii_digit.false in
    let nine : c.from.result ≤ 9 = omega (arith, c.from.ensures, digit_most b digit) in
    let within : i < length text = omega (arith, c.loop-end-test.true, c.loop-end.invariant.within) in
    let longer : i - at + 1 ≡ i + 1 - at = omega (arith, c.loop-end.invariant.from) in
    record {
      from = omega arith;
      upto = omega arith;
      within = c.loop-end.invariant.within;
      near = c.loop-end.invariant.near;
      digits = digit_between text at i c.loop-end.invariant.from within c.loop-end.invariant.digits digit;
      value = ap (λ d. v * 10 + d) c.from.ensures ∙ value_between text at i c.loop-end.invariant.from within v c.loop-end.invariant.value;
      small = rw longer at (one_more_digit v c.from.result (i - at) c.loop-end.invariant.small nine);
    }
