-- The nodes of a tree, counted child by child.
use Rattle.std.proofs.Common.{◌≡◌, ◌∙◌, ℕ, zero, suc, ◌+◌, ◌<◌, ◌≤◌, List, [], ◌∷◌, ◌++◌, length, length-append, map, take, get_or, sym, ap, arith}
use Rattle.std.proofs.lemmas.List.{map_more, take_all}
use Rattle.std.specs.declared.vec.Vec.{Vec}
use Rattle.std.specs.declared.alloc.Global.{Global}
use Rattle.pq_tree.specs.Outline.{Outline, Forest, leaf, p_node, q_node, no_tree, tree_and, leaves, leaves_of}
use Rattle.pq_tree.specs.Proper.{outline_of, forest, count, HasArities, HaveArities}
use Rattle.pq_tree.specs.declared.Tree.{Tree, Leaf, P, Q}
use Rattle.pq_tree.proofs.Shown.{outline_of-Leaf, outline_of-P, outline_of-Q}
use Rattle.solve_replies.specs.Summaries.{inner_sum, inner_sum_of}

module _ (p q : ℕ) where
  weight_more : (us : List Outline) (u : Outline) → inner_sum_of p q (forest (us ++ u ∷ [])) ≡ inner_sum_of p q (forest us) + inner_sum p q u
  weight_more [] u = omega arith
  weight_more (x ∷ us) u = omega (arith, weight_more us u)

  weight_front : (us : List Outline) (i : ℕ) → inner_sum_of p q (forest (take i us)) ≤ inner_sum_of p q (forest us)
  weight_front [] zero = omega arith
  weight_front [] (suc i) = omega arith
  weight_front (u ∷ us) zero = omega arith
  weight_front (u ∷ us) (suc i) = omega (arith, weight_front us i)

  -- one child more
  pub weight_next : (ts : List Tree) (i : ℕ) (child : Tree) → i < length ts → child ≡ get_or ts i child →
      inner_sum_of p q (forest (map outline_of (take (i + 1) ts))) ≡ inner_sum_of p q (forest (map outline_of (take i ts))) + inner_sum p q (outline_of child)
  weight_next ts i child l e =
      ap (λ us. inner_sum_of p q (forest us)) (map_more outline_of ts i child l) ∙ weight_more (map outline_of (take i ts)) (outline_of (get_or ts i child)) ∙
      ap (λ t. inner_sum_of p q (forest (map outline_of (take i ts))) + inner_sum p q (outline_of t)) (sym e)

  -- the first children count no more than all
  pub weight_within : (ts : List Tree) (i : ℕ) → inner_sum_of p q (forest (map outline_of (take i ts))) ≤ inner_sum_of p q (forest (map outline_of ts))
  weight_within [] zero = omega arith
  weight_within [] (suc i) = omega arith
  weight_within (t ∷ ts) zero = omega arith
  weight_within (t ∷ ts) (suc i) = omega (arith, weight_within ts i)

  pub weight_whole : (ts : List Tree) (i : ℕ) → length ts ≤ i → inner_sum_of p q (forest (map outline_of (take i ts))) ≡ inner_sum_of p q (forest (map outline_of ts))
  weight_whole ts i l = ap (λ xs. inner_sum_of p q (forest (map outline_of xs))) (take_all i ts l)

  -- a tree by its cases
  pub weight_Leaf : (t : Tree) (a : ℕ) → t ≡ Leaf a → inner_sum p q (outline_of t) ≡ 0
  weight_Leaf t a e = ap (λ x. inner_sum p q x) (ap outline_of e ∙ outline_of-Leaf a)

  pub weight_P : (t : Tree) (v : Vec Tree Global) (ts : List Tree) → t ≡ P v → ts ≡ v.items → inner_sum p q (outline_of t) ≡ p + inner_sum_of p q (forest (map outline_of ts))
  weight_P t v ts e s = ap (λ x. inner_sum p q x) (ap outline_of e ∙ outline_of-P v ∙ ap (λ x. p_node (forest (map outline_of x))) (sym s))

  pub weight_Q : (t : Tree) (v : Vec Tree Global) (ts : List Tree) → t ≡ Q v → ts ≡ v.items → inner_sum p q (outline_of t) ≡ q + inner_sum_of p q (forest (map outline_of ts))
  weight_Q t v ts e s = ap (λ x. inner_sum p q x) (ap outline_of e ∙ outline_of-Q v ∙ ap (λ x. q_node (forest (map outline_of x))) (sym s))

-- a tree has fewer nodes that are no leaves than leaves
mutual
  pub few_nodes : (t : Outline) → HasArities t → inner_sum 1 0 t + inner_sum 0 1 t + 1 ≤ length (leaves t)
  few_nodes (leaf a) h = omega arith
  few_nodes (p_node ts) h = omega (arith, few_nodes_of ts h.1, h.0)
  few_nodes (q_node ts) h = omega (arith, few_nodes_of ts h.1, h.0)

  few_nodes_of : (ts : Forest) → HaveArities ts → inner_sum_of 1 0 ts + inner_sum_of 0 1 ts + count ts ≤ length (leaves_of ts)
  few_nodes_of no_tree h = omega arith
  few_nodes_of (tree_and t ts) h = omega (arith, few_nodes t h.0, few_nodes_of ts h.1, length-append (leaves t) (leaves_of ts))
