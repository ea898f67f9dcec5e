use Rattle.std.proofs.Common.{◌∙◌, ◌%◌, ◌*◌, ◌-◌, ◌^◌, ap}
use Rattle.text_lines.proofs.FourDigits.{few_read}
use Rattle.text_lines.proofs.four_digits.few_digits.Goals as goal

pub returns : goal.returns
returns c =
    c.from-2.ensures
    ∙ few_read c.args.text.now c.args.at c.args.end c.value_of_four.result c.requires.room c.requires.few.0 c.requires.few.1 c.requires.digits
    (λ a b c' d p q r s is.
    c.value_of_four.ensures a b c' d p q r s
    (ap (λ n. n * 2 ^ (32 - 8 * (c.args.end - c.args.at)) % 2 ^ 64 % 4294967296) (c.from.ensures ∙ c.word_at.ensures) ∙ is))
