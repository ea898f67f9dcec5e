-- Where no template fits.
use Rattle.std.specs.Prelude.{◌⊎◌, ℕ, List}
use Rattle.pq_tree.specs.Outline.{Outline, leaf, p_node, q_node}
use Rattle.pq_tree.specs.Nodes.{children, IsNodeOf, IsPertinentRoot}
use Rattle.tree_theory.specs.Templates.{Label}
use Rattle.tree_theory.specs.Chosen.{IsLabelOfP, IsLabelOfQ, IsRootOfP, IsRootOfQ}
use Rattle.tree_theory.specs.Reduced.{AreLabels}

-- the children of the node have labels, and no template gives the node one
abbrev pub IsUnfit : List ℕ → Outline → Type 0
IsUnfit row (leaf a) = ⊥
IsUnfit row (p_node ts) = (ps : List Label) × AreLabels row ts ps × ((x : Label) → IsLabelOfP ts ps x → ⊥)
IsUnfit row (q_node ts) = (ps : List Label) × AreLabels row ts ps × ((x : Label) → IsLabelOfQ ts ps x → ⊥)

-- the children of the pertinent root have labels, and no template replaces the root
abbrev pub IsUnfitRoot : List ℕ → Outline → Type 0
IsUnfitRoot row (leaf a) = ⊥
IsUnfitRoot row (p_node ts) = (ps : List Label) × AreLabels row ts ps × ((u : Outline) → IsRootOfP ts ps u → ⊥)
IsUnfitRoot row (q_node ts) = (ps : List Label) × AreLabels row ts ps × ((u : Outline) → IsRootOfQ ts ps u → ⊥)

-- no template fits at the pertinent root x, or at a node below it
abbrev pub IsStuck : List ℕ → Outline → Type 0
IsStuck row x = IsUnfitRoot row x ⊎ ((z : Outline) × IsNodeOf z (children x) × IsUnfit row z)

-- no template fits at the pertinent root of the tree, or at a node below it
abbrev pub IsRefused : List ℕ → Outline → Type 0
IsRefused row t = (x : Outline) × IsPertinentRoot row t x × IsStuck row x
