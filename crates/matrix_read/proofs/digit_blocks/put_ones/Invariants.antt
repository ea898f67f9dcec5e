use Rattle.std.proofs.Common.{◌≡◌, ◌+◌, ◌-◌, ◌*◌, ◌≤◌, ◌++◌, take}
use Rattle.matrix_read.specs.BitPlaces.{bit_places}
use Rattle.matrix_read.proofs.digit_blocks.put_ones.Given as goal

abbrev pub invariant-loop-k : goal.invariant-loop-k
invariant-loop-k l = record {
  few : l.ones ≤ l.count + 8 * l.k;
  so_far : take l.ones l.columns ++ bit_places (64 - 8 * l.k) (l.first + 8 * l.k) l.rest ≡ take l.count l.fn.columns ++ bit_places 64 l.first l.mask;
}
