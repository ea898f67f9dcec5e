use Rattle.std.proofs.Common.{◌≡◌, take}
use Rattle.instance_model.proofs.instance.copied.Given as goal

-- the first rows are copied
abbrev pub invariant-loop-k : goal.invariant-loop-k
invariant-loop-k l = (l.copy.columns ≡ l.matrix.columns) × (l.copy.rows ≡ take l.k l.matrix.rows)
