use Rattle.std.proofs.Common.{◌≡◌, ◌∙◌, ◌+◌, ◌%◌, ◌*◌, ◌-◌, ◌^◌, map, ap, arith}
use Rattle.std.specs.Simd.Lanes.{chunk, number_l}
use Rattle.text_lines.proofs.DigitWord.{run_digits, run_value}
use Rattle.text_lines.proofs.digit_word.few_digits_at.Goals as goal

pub returns-clause-digits : goal.returns-clause-digits
returns-clause-digits c =
    run_digits c.args.text.now c.args.at c.digits_len-len.result c.requires (omega arith) (omega arith) (λ k. (c.type_inv.text k).fits)
    (λ k lt. rw c.lanes_at-lanes.ensures.lanes at (c.digits_len-len.ensures k lt))

pub returns-clause-value : goal.returns-clause-value
returns-clause-value c =
    run_value c.args.text.now c.args.at c.digits_len-len.result c.requires (omega arith) (omega arith) (λ k. (c.type_inv.text k).fits)
    (λ k lt. rw c.lanes_at-lanes.ensures.lanes at (c.digits_len-len.ensures k lt))
    c.value_of_eight.result
    (λ bytes long digits is.
    let word : c.word_of.result ≡ number_l 256 (map (λ byte. (byte + 208) % 256) (chunk c.args.at 8 c.args.text.now)) =
    c.word_of.ensures ∙ ap (number_l 256) c.lanes_at-lanes.ensures.lanes in
    c.value_of_eight.ensures bytes long digits (ap (λ n. n * 2 ^ (64 - 8 * c.digits_len-len.result) % 2 ^ 64) word ∙ is))
