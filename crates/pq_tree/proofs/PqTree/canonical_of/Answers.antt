use Rattle.pq_tree.specs.Proper.{outline_of}
use Rattle.pq_tree.specs.Arranged.{outline_in}
use Rattle.pq_tree.proofs.Equivalent.{equivalent_proper}
use Rattle.pq_tree.proofs.Frontiers.{same_frontiers}
use Rattle.pq_tree.proofs.PqTree.canonical_of.Goals as goal

pub from_arranged-requires : goal.from_arranged-requires
from_arranged-requires c = equivalent_proper c.args.c (outline_of c.args.tree.now) (outline_in c.in_ok-arranged.arranged) c.in_ok-arranged.ensures c.requires

pub returns-clause-frontiers : goal.returns-clause-frontiers
returns-clause-frontiers c =
    rw c.from_arranged.ensures.tree (same_frontiers (outline_of c.args.tree.now) (outline_in c.in_ok-arranged.arranged) c.in_ok-arranged.ensures)
