use Rattle.text_lines.proofs.FourDigits.{four_joined}
use Rattle.text_lines.proofs.four_digits.value_of_four.Goals as goal

pub returns : goal.returns
returns c = λ a b c' d p q r s is. four_joined a b c' d c.args.word p q r s is
