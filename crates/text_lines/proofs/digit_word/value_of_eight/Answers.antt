use Rattle.text_lines.proofs.DigitWord.{eight_joined}
use Rattle.text_lines.proofs.digit_word.value_of_eight.Goals as goal

pub returns : goal.returns
returns c = λ bytes long digits is. eight_joined bytes c.args.word long digits is
