use Rattle.std.proofs.Common.{◌≡◌, ◌+◌, drop}
use Rattle.text_lines.specs.Words.{word_len}
use Rattle.text_lines.proofs.words.count_word.Given as goal

abbrev pub invariant-loop-i : goal.invariant-loop-i
invariant-loop-i l = l.i + word_len (drop l.i l.bytes) ≡ word_len l.bytes
