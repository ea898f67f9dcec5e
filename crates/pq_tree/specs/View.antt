-- What a view shows of a tree.
use Rattle.std.specs.Prelude.{◌≡◌, map}
use Rattle.std.specs.declared.vec.Vec.{Vec}
use Rattle.std.specs.declared.alloc.Global.{Global}
use Rattle.pq_tree.specs.Outline.{Outline, leaf, p_node, q_node}
use Rattle.pq_tree.specs.Proper.{outline_of, forest}
use Rattle.pq_tree.specs.declared.Tree
use Rattle.pq_tree.specs.declared.Tree.{Tree}
use Rattle.pq_tree.specs.declared.View.{View}
use Rattle.pq_tree.specs.declared.View.TheVariants.{Leaf, P, Q}

-- the view's variant is the tree's, with its column or its children
abbrev pub Shows : View → Tree → Type 0
Shows (Leaf a) t = t ≡ Tree.Leaf a
Shows (P children) t = (v : Vec Tree Global) × (t ≡ Tree.P v) × (children.now ≡ v.items)
Shows (Q children) t = (v : Vec Tree Global) × (t ≡ Tree.Q v) × (children.now ≡ v.items)

-- the outline of a tree with this view
abbrev pub shown_outline : View → Outline
shown_outline (Leaf a) = leaf a
shown_outline (P children) = p_node (forest (map outline_of children.now))
shown_outline (Q children) = q_node (forest (map outline_of children.now))
