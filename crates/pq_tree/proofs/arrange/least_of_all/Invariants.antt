use Rattle.std.proofs.Common.{◌≡◌, fold, map, min, take}
use Rattle.pq_tree.proofs.Canonical.{key}
use Rattle.pq_tree.proofs.arrange.least_of_all.Given as goal

abbrev pub invariant-loop-other : goal.invariant-loop-other
invariant-loop-other l = l.least ≡ fold min l.initial.least (map key (take l.other-index l.others))
