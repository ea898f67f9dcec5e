use Rattle.std.proofs.Common.{map, take}
use Rattle.pq_tree.specs.Arranged.{outline_in, children_in}
use Rattle.pq_tree.specs.Equivalent.{AreEquivalent}
use Rattle.pq_tree.specs.Proper.{forest}
use Rattle.arena_model.specs.NamedTree.{outline_below}
use Rattle.pq_arena.proofs.Levels.{levels}
use Rattle.pq_arena.proofs.arena.Arena.+tree_below.Given as goal

abbrev pub decreases-tree_below : goal.decreases-tree_below
decreases-tree_below l = levels (outline_below l.self.now l.n)

abbrev pub invariant-loop-number : goal.invariant-loop-number
invariant-loop-number l = AreEquivalent (forest (map (outline_below l.self) (take l.number-index l.number-items))) (map outline_in l.children.items)

abbrev pub invariant-loop-number-2 : goal.invariant-loop-number-2
invariant-loop-number-2 l = AreEquivalent (forest (map (outline_below l.self) (take l.number-index l.number-items))) (children_in l.children)
