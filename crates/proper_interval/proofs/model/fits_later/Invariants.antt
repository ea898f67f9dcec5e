use Rattle.std.proofs.Common.{ℕ, ◌<◌, ◌≤◌, length}
use Rattle.proper_interval.proofs.IntervalLemmas.{ArePassed, Fits}
use Rattle.proper_interval.proofs.model.fits_later.Given as goal

-- the neighbours so far were passed, and the interval fits those before the place behind the last of them
abbrev pub invariant-loop-neighbour : goal.invariant-loop-neighbour
invariant-loop-neighbour l = record {
  behind : l.at < l.from;
  within : l.from ≤ length l.list;
  passed : ArePassed l.neighbours l.neighbour-index l.from;
  fits : (i : ℕ) → l.at < i → i < l.from → Fits l.list l.at l.neighbours i;
}
