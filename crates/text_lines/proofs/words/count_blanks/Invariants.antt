use Rattle.std.proofs.Common.{◌≡◌, ◌+◌, drop}
use Rattle.text_lines.specs.Words.{blank_len}
use Rattle.text_lines.proofs.words.count_blanks.Given as goal

abbrev pub invariant-loop-i : goal.invariant-loop-i
invariant-loop-i l = l.i + blank_len (drop l.i l.bytes) ≡ blank_len l.bytes
