-- One row reduced (Booth and Lueker, 1976): the tree with its pertinent root replaced by the template that fits, up to turning.
--
-- Nothing here says how a reducer finds the pertinent root, in which order it takes the children of a P-node, or from which
-- end it reads a Q-node.
use Rattle.std.specs.Prelude.{◌≡◌, ◌⊎◌, ℕ, List, [], ◌∷◌, IsFalse}
use Rattle.column_order.specs.Orders.{has}
use Rattle.pq_tree.specs.Outline.{Outline, Forest, leaf, p_node, q_node, no_tree, tree_and}
use Rattle.pq_tree.specs.Forests.{trees, join}
use Rattle.pq_tree.specs.Nodes.{IsPertinentRoot}
use Rattle.pq_tree.specs.Equivalent.{IsEquivalent, AreEquivalent}
use Rattle.tree_theory.specs.Templates.{Partial, Label, empty_label, full_label, partial_label, IsL1, l1}
use Rattle.tree_theory.specs.Chosen.{IsLabelOfP, IsLabelOfQ, IsRootOfP, IsRootOfQ}

-- the second label is the first, the trees of a partial turned
abbrev pub IsTurned : Label → Label → Type 0
IsTurned empty_label x = x ≡ empty_label
IsTurned full_label x = x ≡ full_label
IsTurned (partial_label h) x = (k : Partial) × AreEquivalent h.e (trees k.e) × AreEquivalent h.f (trees k.f) × (x ≡ partial_label k)

-- the label of a leaf: full by L1, else empty
abbrev pub IsLabelOfLeaf : List ℕ → ℕ → Label → Type 0
IsLabelOfLeaf row a x = (IsL1 row a × (x ≡ full_label)) ⊎ (IsFalse (has row a) × (x ≡ empty_label))

-- The label that the templates give a tree below the pertinent root, from the leaves up: a leaf has its label by L1, a node
-- by P1, P3, P5, Q1 or Q2 from labels of its children. The trees of a partial may be turned before the next template.
abbrev mutual
  pub IsLabel : List ℕ → Outline → Label → Type 0
  IsLabel row (leaf a) x = IsLabelOfLeaf row a x
  IsLabel row (p_node ts) x = (ps : List Label) × (y : Label) × AreLabels row ts ps × IsLabelOfP ts ps y × IsTurned y x
  IsLabel row (q_node ts) x = (ps : List Label) × (y : Label) × AreLabels row ts ps × IsLabelOfQ ts ps y × IsTurned y x

  -- so one for each of the trees
  pub AreLabels : List ℕ → Forest → List Label → Type 0
  AreLabels row no_tree [] = Unit {0}
  AreLabels row no_tree (x ∷ ps) = ⊥
  AreLabels row (tree_and t ts) [] = ⊥
  AreLabels row (tree_and t ts) (x ∷ ps) = IsLabel row t x × AreLabels row ts ps

-- what the template that fits makes of the pertinent root: L1, P1, P2, P4, P6, Q1, Q2 or Q3, by labels of its children
abbrev pub IsRootMade : List ℕ → Outline → Outline → Type 0
IsRootMade row (leaf a) u = IsL1 row a × (u ≡ l1 a)
IsRootMade row (p_node ts) u = (ps : List Label) × AreLabels row ts ps × IsRootOfP ts ps u
IsRootMade row (q_node ts) u = (ps : List Label) × AreLabels row ts ps × IsRootOfQ ts ps u

-- the first tree has x at some node where the second has y; else they are alike
pub data IsReplaced (x y : Outline) : Outline → Outline → Type 0 where
  replaced_here : IsReplaced x y x y
  replaced_under_p : {t u : Outline} (ts us : Forest) → IsReplaced x y t u → IsReplaced x y (p_node (join ts (tree_and t us))) (p_node (join ts (tree_and u us)))
  replaced_under_q : {t u : Outline} (ts us : Forest) → IsReplaced x y t u → IsReplaced x y (q_node (join ts (tree_and t us))) (q_node (join ts (tree_and u us)))

-- The tree u is t reduced by the row: t with its pertinent root x replaced by what a template makes of it, up to turning.
-- A row without a column changes nothing, up to turning.
pub data IsReduced (row : List ℕ) (t u : Outline) : Type 0 where
  no_column : row ≡ [] → IsEquivalent t u → IsReduced row t u
  by_template : (x y v : Outline) → IsPertinentRoot row t x → IsRootMade row x y → IsReplaced x y t v → IsEquivalent v u → IsReduced row t u
