-- Outlines of trees as lists of numbers: the code of a session's value.
--
-- A tree is written after its children, and a list of trees after its first tree, which stands after the others: 0 is the
-- empty list, 1 puts a tree before a list, 2 makes a list a P-node, 3 makes it a Q-node, and a + 4 is the leaf a.
use Rattle.std.specs.Prelude.{◌≡◌, ℕ, List, [], ◌∷◌, refl}
use Rattle.std.proofs.Common.{zero, suc, ◌∙◌}
use Rattle.std.specs.Coded.{Coded, code_by, coded×, coded_ℕ, coded_list}
use Rattle.pq_tree.specs.Outline.{Outline, Forest, leaf, p_node, q_node, no_tree, tree_and}
use Rattle.c1p_solve.specs.Sessions.{SessionValue}

abbrev mutual
  -- the numbers of a tree, before further ones
  pub numbers : Outline → List ℕ → List ℕ
  numbers (leaf a) more = suc (suc (suc (suc a))) ∷ more
  numbers (p_node ts) more = numbers_of ts (2 ∷ more)
  numbers (q_node ts) more = numbers_of ts (3 ∷ more)

  pub numbers_of : Forest → List ℕ → List ℕ
  numbers_of no_tree more = 0 ∷ more
  numbers_of (tree_and t ts) more = numbers_of ts (numbers t (1 ∷ more))

-- the tree that lies on top
abbrev pub top : List Outline → Outline
top [] = leaf 0
top (t ∷ ts) = t

-- the tree of such numbers, read after those that gave these trees and these lists of trees
abbrev pub tree_from : List ℕ → List Outline → List Forest → Outline
tree_from [] ts fs = top ts
tree_from (zero ∷ more) ts fs = tree_from more ts (no_tree ∷ fs)
tree_from (suc zero ∷ more) [] fs = leaf 0
tree_from (suc zero ∷ more) (t ∷ ts) [] = leaf 0
tree_from (suc zero ∷ more) (t ∷ ts) (f ∷ fs) = tree_from more ts (tree_and t f ∷ fs)
tree_from (suc (suc zero) ∷ more) ts [] = leaf 0
tree_from (suc (suc zero) ∷ more) ts (f ∷ fs) = tree_from more (p_node f ∷ ts) fs
tree_from (suc (suc (suc zero)) ∷ more) ts [] = leaf 0
tree_from (suc (suc (suc zero)) ∷ more) ts (f ∷ fs) = tree_from more (q_node f ∷ ts) fs
tree_from (suc (suc (suc (suc a))) ∷ more) ts fs = tree_from more (leaf a ∷ ts) fs

mutual
  pub tree_again : (t : Outline) (more : List ℕ) (ts : List Outline) (fs : List Forest) → tree_from (numbers t more) ts fs ≡ tree_from more (t ∷ ts) fs
  tree_again (leaf a) more ts fs = refl
  tree_again (p_node us) more ts fs = forest_again us (2 ∷ more) ts fs
  tree_again (q_node us) more ts fs = forest_again us (3 ∷ more) ts fs

  pub forest_again : (us : Forest) (more : List ℕ) (ts : List Outline) (fs : List Forest) → tree_from (numbers_of us more) ts fs ≡ tree_from more ts (us ∷ fs)
  forest_again no_tree more ts fs = refl
  forest_again (tree_and t us) more ts fs = forest_again us (numbers t (1 ∷ more)) ts fs ∙ tree_again t (1 ∷ more) ts (us ∷ fs)

-- the code of a tree
abbrev pub outline_code : Coded Outline
outline_code = code_by (List ℕ) (coded_list coded_ℕ) (λ t. numbers t []) (λ ns. tree_from ns [] []) (λ t. tree_again t [] [] [])

-- the code of a session's value: its columns, its rows and its tree
abbrev pub session_code : Coded SessionValue
session_code =
    code_by (ℕ × (List (List ℕ) × Outline)) (coded× coded_ℕ (coded× (coded_list (coded_list coded_ℕ)) outline_code))
    (λ s. (s.matrix.columns, (s.matrix.rows, s.tree)))
    (λ p. record { matrix = record { columns = p.0; rows = p.1.0 }; tree = p.1.1 })
    (λ _. refl)
