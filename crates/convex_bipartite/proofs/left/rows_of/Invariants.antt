use Rattle.std.proofs.Common.{◌≡◌, take}
use Rattle.convex_bipartite.proofs.left.rows_of.Given as goal

-- the first lists are copied
abbrev pub invariant-loop-k : goal.invariant-loop-k
invariant-loop-k l = (l.rows.columns ≡ l.g.right) × (l.rows.rows ≡ take l.k l.g.neighbours)
