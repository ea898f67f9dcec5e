use Rattle.text_lines.proofs.TextLemmas.{lines_law, line_numbers_law, words_law}
use Rattle.text_lines.proofs.laws.text_laws.Goals as goal

pub returns : goal.returns
returns c = record { lines = lines_law; numbers = line_numbers_law; words = words_law }
