use Rattle.pq_tree.proofs.Shown.{outline_of-Leaf}
use Rattle.pq_tree.proofs.Canonical.{canonical_leaf, least_leaf}
use Rattle.pq_tree.proofs.arranged.Arranged.leaf.Goals as goal

pub invariant_of-result : goal.invariant_of-result
invariant_of-result c = record { canonical = canonical_leaf c.args.column; is_least = least_leaf c.args.column }

pub returns : goal.returns
returns c = outline_of-Leaf c.args.column
