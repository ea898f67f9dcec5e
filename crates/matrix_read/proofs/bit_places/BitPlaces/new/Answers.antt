use Rattle.std.proofs.Common.{◌≡◌, refl, subst, arith}
use Rattle.matrix_read.specs.BitPlaces.{ListsOnes}
use Rattle.matrix_read.proofs.BitPlaceLemmas.{first_listed}
use Rattle.matrix_read.proofs.bit_places.BitPlaces.new.Goals as goal

pub loop-byte-init : goal.loop-byte-init
loop-byte-init c = λ b lt.
    let zero_is : 0 ≡ b = omega arith in
    subst (ListsOnes _ _) zero_is (first_listed _ _ refl)
