-- A tree that is handed on with its first column.
use Rattle.pq_tree.specs.Outline.{Outline}
use Rattle.pq_tree.specs.Proper.{outline_of}
use Rattle.order_list.specs.declared.low.Low.{Low}

-- the tree that it is
abbrev pub outline_low : Low → Outline
outline_low a = outline_of a.tree
