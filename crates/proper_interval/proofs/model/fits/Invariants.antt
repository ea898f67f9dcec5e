use Rattle.std.proofs.Common.{ℕ, ◌<◌, [], get_or}
use Rattle.proper_interval.specs.Fitting.{FitsLater}
use Rattle.proper_interval.proofs.model.fits.Given as goal

abbrev pub invariant-loop-before : goal.invariant-loop-before
invariant-loop-before l = (k : ℕ) → k < l.before → FitsLater l.list k (get_or l.g.neighbours k [])
