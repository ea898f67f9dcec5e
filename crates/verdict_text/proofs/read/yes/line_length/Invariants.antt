use Rattle.std.proofs.Common.{◌≡◌, ◌+◌, drop}
use Rattle.verdict_text.specs.Reading.{line_len}
use Rattle.verdict_text.proofs.read.yes.line_length.Given as goal

abbrev pub invariant-loop-i : goal.invariant-loop-i
invariant-loop-i l = l.i + line_len (drop l.i l.bytes) ≡ line_len l.bytes
