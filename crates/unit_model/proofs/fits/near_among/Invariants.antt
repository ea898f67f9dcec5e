use Rattle.std.proofs.Common.{◌≡◌, take}
use Rattle.std.specs.List.{count_by}
use Rattle.unit_model.specs.Fitting.{is_near}
use Rattle.unit_model.proofs.fits.near_among.Given as goal

abbrev pub invariant-loop-end : goal.invariant-loop-end
invariant-loop-end l = l.near ≡ count_by (is_near l.length l.left) (take l.end-index l.lefts)
