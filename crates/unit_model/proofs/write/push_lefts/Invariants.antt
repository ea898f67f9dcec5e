use Rattle.std.proofs.Common.{◌≡◌, ◌++◌, take}
use Rattle.unit_model.specs.Text.{left_lines}
use Rattle.unit_model.proofs.write.push_lefts.Given as goal

abbrev pub invariant-loop-i : goal.invariant-loop-i
invariant-loop-i l = l.text.items ≡ l.initial.text.items ++ left_lines 1 (take l.i l.lefts)
