use Rattle.std.proofs.Common.{arith}
use Rattle.std.proofs.lemmas.Grind.{common_steps}
use Rattle.templates_p.proofs.fits.fits_l1.Goals as goal

pub label-requires : goal.label-requires
label-requires g c = grind (arith, common_steps)
