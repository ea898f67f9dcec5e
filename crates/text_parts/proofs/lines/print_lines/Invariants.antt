use Rattle.std.proofs.Common.{◌≡◌, ◌++◌, take}
use Rattle.text_parts.specs.Numbered.{numbered}
use Rattle.text_parts.proofs.lines.print_lines.Given as goal

abbrev pub invariant-loop-i : goal.invariant-loop-i
invariant-loop-i g l = l.text.items ≡ l.initial.text.items ++ numbered g.F.LineForm.line_text 1 (take l.i l.items)
