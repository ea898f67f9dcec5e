use Rattle.std.proofs.Common.{ℕ, ◌<◌, ◌-◌, get_or}
use Rattle.unit_model.specs.Models.{DifferByAtMost}
use Rattle.unit_model.proofs.fits.end_fits.Given as goal

abbrev pub invariant-loop-neighbour : goal.invariant-loop-neighbour
invariant-loop-neighbour l = (k : ℕ) → k < l.neighbour-index → DifferByAtMost l.length l.left (get_or l.lefts (get_or l.neighbours k 0 - 1) 0)
