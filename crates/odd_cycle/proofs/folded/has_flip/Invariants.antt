use Rattle.std.proofs.Common.{◌≡◌, take}
use Rattle.odd_cycle.specs.Short.{flips}
use Rattle.odd_cycle.proofs.folded.has_flip.Given as goal

abbrev pub invariant-loop-line : goal.invariant-loop-line
invariant-loop-line l = flips (take l.line-index l.lines) ≡ 0
