-- What contracts see of a `PqTree`.
use Rattle.std.specs.Prelude.{ℕ}
use Rattle.pq_tree.specs.Outline.{Outline}
use Rattle.pq_tree.specs.Proper.{outline_of}
use Rattle.pq_tree.specs.declared.PqTree.{PqTree}

-- the number of its columns
abbrev pub column_count : PqTree → ℕ
column_count t = t.columns

-- the tree that it is
abbrev pub outline : PqTree → Outline
outline t = outline_of t.tree
