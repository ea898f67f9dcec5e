-- Trees in canonical form that are made from their parts.
use Rattle.std.specs.Prelude.{List, map}
use Rattle.pq_tree.specs.Outline.{Outline}
use Rattle.pq_tree.specs.Proper.{outline_of}
use Rattle.pq_tree.specs.declared.arranged.Arranged.{Arranged}
use Rattle.pq_tree.specs.declared.q_children.QChildren.{QChildren}

-- the tree that it is
abbrev pub outline_in : Arranged → Outline
outline_in a = outline_of a.tree

-- the children so far, from left to right
abbrev pub children_in : QChildren → List Outline
children_in q = map outline_of q.trees.items
