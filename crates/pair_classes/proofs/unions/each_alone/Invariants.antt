use Rattle.std.proofs.Common.{◌≡◌, length}
use Rattle.pair_classes.specs.Unions.{AreAlone}
use Rattle.pair_classes.proofs.unions.each_alone.Given as goal

abbrev pub invariant-loop-place : goal.invariant-loop-place
invariant-loop-place l = (length l.parents.items ≡ l.place) × AreAlone l.parents.items
