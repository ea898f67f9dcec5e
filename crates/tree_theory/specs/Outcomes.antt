-- What the templates make of a node, or that none fits there.
use Rattle.std.specs.Prelude.{ℕ, List, Option, Some, None, IsTrue}
use Rattle.pq_tree.specs.Outline.{Outline, Forest}
use Rattle.pq_tree.specs.Proper.{IsTree}
use Rattle.pq_tree.specs.Nodes.{children, IsNode, IsNodeOf, holds, NoneHolds}
use Rattle.tree_theory.specs.Templates.{Label}
use Rattle.tree_theory.specs.Reduced.{IsLabel, AreLabels, IsRootMade}
use Rattle.tree_theory.specs.Refused.{IsUnfit, IsStuck}

-- the value that was found has the property; where none was found, no value has it
abbrev pub FindsAny : {X : Type 0} → (X → Type 0) → Option X → Type 0
FindsAny F (Some x) = F x
FindsAny F None = (x : _) → F x → ⊥

-- the label of a tree below the pertinent root; none, where at some node no template fits
abbrev pub IsLabelFound : List ℕ → Outline → Option Label → Type 0
IsLabelFound row t (Some x) = IsLabel row t x
IsLabelFound row t None = (z : Outline) × IsNode z t × IsUnfit row z

-- so the labels of trees
abbrev pub AreLabelsFound : List ℕ → Forest → Option (List Label) → Type 0
AreLabelsFound row ts (Some ps) = AreLabels row ts ps
AreLabelsFound row ts None = (z : Outline) × IsNodeOf z ts × IsUnfit row z

-- x holds the whole row, and none of its children does
abbrev pub IsLowest : List ℕ → Outline → Type 0
IsLowest row x = IsTrue (holds row x) × NoneHolds row (children x)

-- the labels of the children of a pertinent root x, for some row
abbrev pub HasRootLabels : Outline → List Label → Type 0
HasRootLabels x ps = (row : List ℕ) × IsTree x × IsLowest row x × AreLabels row (children x) ps

-- what the pertinent root x becomes; nothing, where at it or at some node below no template fits
abbrev pub IsRootFound : List ℕ → Outline → Option Outline → Type 0
IsRootFound row x (Some y) = IsRootMade row x y
IsRootFound row x None = IsStuck row x
