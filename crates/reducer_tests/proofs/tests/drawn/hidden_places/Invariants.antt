use Rattle.std.proofs.Common.{◌≡◌, length}
use Rattle.reducer_tests.proofs.tests.drawn.hidden_places.Given as goal

abbrev pub invariant-loop-place : goal.invariant-loop-place
invariant-loop-place l = length l.places.items ≡ l.place

abbrev pub invariant-loop-i : goal.invariant-loop-i
invariant-loop-i l = length l.places.items ≡ l.columns
