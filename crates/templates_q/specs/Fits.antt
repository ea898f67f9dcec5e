-- Where the templates of a Q-node fit in an arena.
use Rattle.std.specs.Prelude.{◌≡◌, Bool, ℕ, List, Some}
use Rattle.pq_tree.specs.Outline.{Outline}
use Rattle.tree_theory.specs.Templates.{Partial, Label, IsQ1, IsQ2, IsQ3}
use Rattle.arena_model.specs.declared.Shape.TheVariants.{Q}
use Rattle.arena_model.specs.Layout.{Layout, shape_at, children_at}
use Rattle.bubble_pass.specs.Marks.{Marks}
use Rattle.template_model.specs.Standing.{child_trees, AreMarkedAs, AreShapesAt}

-- n is a Q-node where Q1 fits by the labels ps of its children
abbrev pub FitsQ1 : Layout → ℕ → List Label → Type 0
FitsQ1 f n ps = (shape_at f n ≡ Some Q) × IsQ1 (child_trees f n) ps

-- n is a Q-node where Q2 fits
abbrev pub FitsQ2 : Layout → ℕ → List Label → Type 0
FitsQ2 f n ps = (shape_at f n ≡ Some Q) × (x : Partial) × IsQ2 (child_trees f n) ps x

-- n is a Q-node where Q3 fits, root telling whether it is the pertinent root
abbrev pub FitsQ3 : Layout → ℕ → Bool → List Label → Type 0
FitsQ3 f n root ps = (shape_at f n ≡ Some Q) × (u : Outline) × IsQ3 root (child_trees f n) ps u

-- the children of n have labels ps, each partial one stands as its Q-shape, and the template fits these labels
abbrev pub StandsAt : Layout → Marks → ℕ → (List Label → Type 0) → Type 0
StandsAt f w n fits = (ps : List Label) × AreMarkedAs f w n ps × AreShapesAt f w (children_at f n) ps × fits ps

-- Q2 stands at n
abbrev pub StandsQ2 : Layout → Marks → ℕ → Type 0
StandsQ2 f w n = StandsAt f w n (FitsQ2 f n)
