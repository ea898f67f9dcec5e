use Rattle.std.proofs.Common.{◌∙◌, [], ap, refl, arith}
use Rattle.std.proofs.Math.ListN.{drop_of_length-le}
use Rattle.text_lines.specs.Words.{words_of}
use Rattle.text_lines.proofs.WordLemmas.{words_of_blanks}
use Rattle.text_lines.proofs.words.next_number.Goals as goal

pub returns-then-at-line-clause-nothing : goal.returns-then-at-line-clause-nothing
returns-then-at-line-clause-nothing c = ap words_of (drop_of_length-le c.args.line.now (omega arith)) ∙ words_of_blanks [] refl
