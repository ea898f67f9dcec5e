-- The children of a node by their labels.
pub use Rattle.tree_theory.specs.Templates.{Partial, Label, empty_label, full_label, partial_label}
use Rattle.std.specs.Prelude.{List, [], ◌∷◌, Option, Some, None}
use Rattle.pq_tree.specs.Outline.{Forest, no_tree, tree_and}

-- the empty ones of the trees, by their labels
abbrev pub empty_trees : Forest → List Label → Forest
empty_trees no_tree ps = no_tree
empty_trees (tree_and t ts) [] = no_tree
empty_trees (tree_and t ts) (empty_label ∷ ps) = tree_and t (empty_trees ts ps)
empty_trees (tree_and t ts) (full_label ∷ ps) = empty_trees ts ps
empty_trees (tree_and t ts) (partial_label h ∷ ps) = empty_trees ts ps

-- the full ones
abbrev pub full_trees : Forest → List Label → Forest
full_trees no_tree ps = no_tree
full_trees (tree_and t ts) [] = no_tree
full_trees (tree_and t ts) (empty_label ∷ ps) = full_trees ts ps
full_trees (tree_and t ts) (full_label ∷ ps) = tree_and t (full_trees ts ps)
full_trees (tree_and t ts) (partial_label h ∷ ps) = full_trees ts ps

-- what the partial ones become
abbrev pub partials : List Label → List Partial
partials [] = []
partials (empty_label ∷ ps) = partials ps
partials (full_label ∷ ps) = partials ps
partials (partial_label h ∷ ps) = h ∷ partials ps

-- the first of them, if there is one
abbrev pub first_of : List Partial → Option Partial
first_of [] = None
first_of (h ∷ hs) = Some h
