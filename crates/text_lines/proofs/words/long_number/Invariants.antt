use Rattle.std.proofs.Common.{◌≡◌, drop}
use Rattle.text_lines.specs.Words.{number_after}
use Rattle.text_lines.proofs.words.long_number.Given as goal

abbrev pub invariant-loop-b : goal.invariant-loop-b
invariant-loop-b l = number_after l.value (drop l.b-index l.word) ≡ number_after 0 l.word
