-- Lists of trees, as the children of a node stand from left to right.
use Rattle.std.specs.Prelude.{ℕ, ◌+◌, List, [], ◌∷◌}
use Rattle.pq_tree.specs.Outline.{Outline, Forest, no_tree, tree_and}

-- a list of trees as a forest
abbrev pub forest : List Outline → Forest
forest [] = no_tree
forest (t ∷ ts) = tree_and t (forest ts)

-- a forest as a list of trees
abbrev pub trees : Forest → List Outline
trees no_tree = []
trees (tree_and t ts) = t ∷ trees ts

-- the number of trees
abbrev pub count : Forest → ℕ
count no_tree = 0
count (tree_and t ts) = 1 + count ts

-- the first trees, then the others
abbrev pub join : Forest → Forest → Forest
join no_tree us = us
join (tree_and t ts) us = tree_and t (join ts us)

-- the trees from the last to the first
abbrev pub back : Forest → Forest
back no_tree = no_tree
back (tree_and t ts) = join (back ts) (tree_and t no_tree)
