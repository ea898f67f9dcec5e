-- Where the templates at leaves and at P-nodes fit, and where they may be applied.
use Rattle.std.specs.Prelude.{◌≡◌, ℕ, Bool, true, false, List, Some}
use Rattle.arena_model.specs.declared.Shape.TheVariants.{Leaf, P}
use Rattle.arena_model.specs.Layout.{Layout, shape_at, children_at}
use Rattle.bubble_pass.specs.declared.labels.Label.TheVariants.{Full}
use Rattle.bubble_pass.specs.Marks.{Marks, label_at}
use Rattle.pq_tree.specs.Outline.{Outline}
use Rattle.tree_theory.specs.Templates.{Partial, Label, IsP1, IsP2, IsP3, IsP4, IsP5, IsP6}
use Rattle.template_model.specs.Standing.{child_trees, AreMarkedAs, AreShapesAt}

-- L1 fits: a full leaf
abbrev pub FitsL1 : Layout → Marks → ℕ → Type 0
FitsL1 f w n = ((a : ℕ) × (shape_at f n ≡ Some (Leaf a))) × (label_at w n ≡ Full)

-- P1 fits the labels ps of the children of n
abbrev pub FitsP1 : Layout → ℕ → List Label → Type 0
FitsP1 f n ps = (shape_at f n ≡ Some P) × IsP1 (child_trees f n) ps

-- P2 fits the labels ps of the children of n; `root` tells whether n is the pertinent root
abbrev pub FitsP2 : Layout → ℕ → Bool → List Label → Type 0
FitsP2 f n root ps = (shape_at f n ≡ Some P) × ((u : Outline) × IsP2 root (child_trees f n) ps u)

-- so for P3
abbrev pub FitsP3 : Layout → ℕ → Bool → List Label → Type 0
FitsP3 f n root ps = (shape_at f n ≡ Some P) × ((x : Partial) × IsP3 root (child_trees f n) ps x)

-- so for P4
abbrev pub FitsP4 : Layout → ℕ → Bool → List Label → Type 0
FitsP4 f n root ps = (shape_at f n ≡ Some P) × ((u : Outline) × IsP4 root (child_trees f n) ps u)

-- so for P5
abbrev pub FitsP5 : Layout → ℕ → Bool → List Label → Type 0
FitsP5 f n root ps = (shape_at f n ≡ Some P) × ((x : Partial) × IsP5 root (child_trees f n) ps x)

-- so for P6
abbrev pub FitsP6 : Layout → ℕ → Bool → List Label → Type 0
FitsP6 f n root ps = (shape_at f n ≡ Some P) × ((u : Outline) × IsP6 root (child_trees f n) ps u)

-- the children of n have labels ps, each partial one stands as its Q-shape, and the template fits these labels
abbrev pub StandsAt : Layout → Marks → ℕ → (List Label → Type 0) → Type 0
StandsAt f w n fits = (ps : List Label) × AreMarkedAs f w n ps × AreShapesAt f w (children_at f n) ps × fits ps

-- P1 stands at n
abbrev pub StandsP1 : Layout → Marks → ℕ → Type 0
StandsP1 f w n = StandsAt f w n (FitsP1 f n)

-- P2 stands at n, the pertinent root
abbrev pub StandsP2 : Layout → Marks → ℕ → Type 0
StandsP2 f w n = StandsAt f w n (FitsP2 f n true)

-- P3 stands at n, which is not the pertinent root
abbrev pub StandsP3 : Layout → Marks → ℕ → Type 0
StandsP3 f w n = StandsAt f w n (FitsP3 f n false)

-- P4 stands at n, the pertinent root
abbrev pub StandsP4 : Layout → Marks → ℕ → Type 0
StandsP4 f w n = StandsAt f w n (FitsP4 f n true)

-- P5 stands at n, which is not the pertinent root
abbrev pub StandsP5 : Layout → Marks → ℕ → Type 0
StandsP5 f w n = StandsAt f w n (FitsP5 f n false)

-- P6 stands at n, the pertinent root
abbrev pub StandsP6 : Layout → Marks → ℕ → Type 0
StandsP6 f w n = StandsAt f w n (FitsP6 f n true)
