use Rattle.std.proofs.Common.{◌≡◌, ap}
use Rattle.arena_model.specs.NamedTree.{outline_at}
use Rattle.pq_tree.proofs.Equivalent.{equivalent_proper}
use Rattle.pq_tree.specs.Arranged.{outline_in}
use Rattle.pq_arena.specs.StandsFor.{layout_read}
use Rattle.pq_arena.proofs.arena.Arena.to_tree.Goals as goal

pub from_arranged-requires : goal.from_arranged-requires
unfolding layout_read
from_arranged-requires c =
    let r : c.self.inside.root ≡ c.args.self.now.root = ap (λ f. f.root) c.self.view_is in
    let n : c.self.inside.columns ≡ c.args.self.now.columns = ap (λ f. f.columns) c.self.view_is in
    rw n (equivalent_proper c.args.self.now.columns (outline_at c.args.self.now) (outline_in c.in_ok-tree.tree) (rw r at c.in_ok-tree.ensures) c.requires)
