use Rattle.text_lines.proofs.EndLemmas.{no_ends}
use Rattle.text_lines.proofs.digit_ends.DigitEnds.none.Goals as goal

pub returns : goal.returns
returns c = λ text at. no_ends text at
