-- What comes after each link of the walk: as trees that are read, as trees that share no column, and as a weight.
use Rattle.std.proofs.Common.{rules, ◌≡◌, ◌+◌, List, [], ◌∷◌, ◌++◌, map, reverse, Bor}
use Rattle.pq_tree.specs.Outline.{p_node}
use Rattle.pq_tree.specs.Proper.{outline_of, forest}
use Rattle.pq_tree.specs.declared.Tree.{Tree}
use Rattle.order_list.specs.Coming.{outlines, coming_trees, trees_within}
use Rattle.order_list.specs.Weights.{walk_weights, weight_within}
use Rattle.order_list.specs.declared.walk.Bag.{Bag}
use Rattle.order_list.specs.declared.walk.Coming.{Coming, Nothing, InAnyOrder, Forwards, Backwards, the_lemmas}

pub trees-Nothing : coming_trees Nothing ≡ []
trees-Nothing = search (rules, the_lemmas)

pub within-Nothing : trees_within Nothing ≡ []
within-Nothing = search (rules, the_lemmas)

module _ (bag : Bag) (rest : Bor Coming) where
  pub trees-InAnyOrder : coming_trees (InAnyOrder bag rest) ≡ p_node (forest (outlines bag.trees.now)) ∷ coming_trees rest.now
  trees-InAnyOrder = search (rules, the_lemmas)

  pub within-InAnyOrder : trees_within (InAnyOrder bag rest) ≡ outlines bag.trees.now ++ trees_within rest.now
  within-InAnyOrder = search (rules, the_lemmas)

  pub weight-InAnyOrder : weight_within (InAnyOrder bag rest) ≡ 1 + (walk_weights (forest (outlines bag.trees.now)) + weight_within rest.now)
  weight-InAnyOrder = search (rules, the_lemmas)

module _ (trees : Bor (List Tree)) (rest : Bor Coming) where
  pub trees-Forwards : coming_trees (Forwards trees rest) ≡ map outline_of trees.now ++ coming_trees rest.now
  trees-Forwards = search (rules, the_lemmas)

  pub within-Forwards : trees_within (Forwards trees rest) ≡ map outline_of trees.now ++ trees_within rest.now
  within-Forwards = search (rules, the_lemmas)

  pub weight-Forwards : weight_within (Forwards trees rest) ≡ 1 + (walk_weights (forest (map outline_of trees.now)) + weight_within rest.now)
  weight-Forwards = search (rules, the_lemmas)

  pub trees-Backwards : coming_trees (Backwards trees rest) ≡ reverse (map outline_of trees.now) ++ coming_trees rest.now
  trees-Backwards = search (rules, the_lemmas)

  pub within-Backwards : trees_within (Backwards trees rest) ≡ reverse (map outline_of trees.now) ++ trees_within rest.now
  within-Backwards = search (rules, the_lemmas)

  pub weight-Backwards : weight_within (Backwards trees rest) ≡ 1 + (walk_weights (forest (map outline_of trees.now)) + weight_within rest.now)
  weight-Backwards = search (rules, the_lemmas)
