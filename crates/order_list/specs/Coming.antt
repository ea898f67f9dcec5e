-- What is read after the columns so far, as a list of trees.
use Rattle.std.specs.Prelude.{List, [], ◌∷◌, ◌++◌, map, reverse}
use Rattle.std.specs.Borrow.{Bor}
use Rattle.pq_tree.specs.Outline.{Outline, p_node}
use Rattle.pq_tree.specs.Proper.{outline_of, forest}
use Rattle.pq_tree.specs.declared.Tree.{Tree}
use Rattle.order_list.specs.declared.walk.Coming.{Coming, fold-Coming}
use Rattle.order_list.specs.declared.walk.Coming.TheOpen.{Coming-F}

-- the outlines of trees
abbrev pub outlines : List (Bor Tree) → List Outline
outlines trees = map (λ (t : Bor Tree). outline_of t.now) trees

abbrev pub coming_step : Coming-F (List Outline) → List Outline
coming_step Coming-F.Nothing = []
coming_step (Coming-F.InAnyOrder bag rest) = p_node (forest (outlines bag.trees.now)) ∷ rest.now
coming_step (Coming-F.Forwards trees rest) = map outline_of trees.now ++ rest.now
coming_step (Coming-F.Backwards trees rest) = reverse (map outline_of trees.now) ++ rest.now

-- the trees that are read in turn, where those that come in any order are the children of one P-node
abbrev pub coming_trees : Coming → List Outline
coming_trees = fold-Coming (List Outline) coming_step

abbrev pub within_step : Coming-F (List Outline) → List Outline
within_step Coming-F.Nothing = []
within_step (Coming-F.InAnyOrder bag rest) = outlines bag.trees.now ++ rest.now
within_step (Coming-F.Forwards trees rest) = map outline_of trees.now ++ rest.now
within_step (Coming-F.Backwards trees rest) = reverse (map outline_of trees.now) ++ rest.now

-- the trees themselves
abbrev pub trees_within : Coming → List Outline
trees_within = fold-Coming (List Outline) within_step
