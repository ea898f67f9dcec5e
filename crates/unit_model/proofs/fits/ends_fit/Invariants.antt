use Rattle.std.proofs.Common.{ℕ, ◌<◌, [], get_or}
use Rattle.unit_model.specs.Fitting.{EndFits}
use Rattle.unit_model.proofs.fits.ends_fit.Given as goal

abbrev pub invariant-loop-before : goal.invariant-loop-before
invariant-loop-before l = (k : ℕ) → k < l.before → EndFits l.lefts l.length k (get_or l.g.neighbours k [])
