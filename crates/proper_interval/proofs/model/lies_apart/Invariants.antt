use Rattle.std.proofs.Common.{ℕ, ◌<◌, get_or}
use Rattle.row_model.specs.declared.lists.Interval.{Interval}
use Rattle.proper_interval.specs.Fitting.{AreApart}
use Rattle.proper_interval.proofs.model.lies_apart.Given as goal

abbrev pub invariant-loop-b : goal.invariant-loop-b
invariant-loop-b l = (k : ℕ) → k < l.b-index → (d : Interval) → AreApart l.a (get_or l.others k d)
