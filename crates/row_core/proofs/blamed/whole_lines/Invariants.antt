use Rattle.std.proofs.Common.{◌≡◌, map, take}
use Rattle.row_core.specs.Blamed.{whole_line}
use Rattle.row_core.proofs.blamed.whole_lines.Given as goal

abbrev pub invariant-loop-line : goal.invariant-loop-line
invariant-loop-line l = l.whole ≡ map (whole_line l.list) (take l.line-index l.lines)
