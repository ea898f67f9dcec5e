use Rattle.std.proofs.Common.{◌≡◌, ◌-◌, ◌+◌}
use Rattle.text_parts.specs.Numbered.{numbered_at}
use Rattle.text_parts.proofs.LoopLaws.{before_items}
use Rattle.text_parts.proofs.lines.read_lines.Given as goal

abbrev pub invariant-lines : goal.invariant-lines
invariant-lines g l = before_items l.lines (numbered_at g.F.LineForm.line_at (l.i + 1) (l.count - l.i) l.rest) ≡ numbered_at g.F.LineForm.line_at 1 l.count l.bytes
