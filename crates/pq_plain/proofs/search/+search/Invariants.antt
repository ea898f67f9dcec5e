use Rattle.std.proofs.Common.{◌≡◌, map, take}
use Rattle.pq_tree.specs.Outline.{leaves_of}
use Rattle.pq_tree.specs.Proper.{outline_of}
use Rattle.pq_tree.specs.Forests.{forest}
use Rattle.pq_tree.specs.Nodes.{NoneHolds}
use Rattle.pq_plain.specs.Found.{hits}
use Rattle.pq_plain.proofs.search.+search.Given as goal

abbrev pub invariant-reduce_children-loop-i : goal.invariant-reduce_children-loop-i
invariant-reduce_children-loop-i l = record {
  unvisited : goal.unvisited-reduce_children-loop-i l;
  same : map outline_of l.children ≡ map outline_of l.initial.children;
  none : NoneHolds l.row (forest (take l.i (map outline_of l.initial.children)));
  count : l.count ≡ hits l.row (leaves_of (forest (take l.i (map outline_of l.initial.children))));
}
