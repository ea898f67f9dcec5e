use Rattle.std.proofs.Common.{◌<◌, ℕ}
use Rattle.matrix_read.specs.BitPlaces.{ListsOnes}
use Rattle.matrix_read.proofs.bit_places.BitPlaces.new.Given as goal

abbrev pub invariant-loop-byte : goal.invariant-loop-byte
invariant-loop-byte l = (b : ℕ) → b < l.byte → ListsOnes l.places l.counts b
