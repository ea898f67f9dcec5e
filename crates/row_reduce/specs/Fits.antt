-- Where a template stands at a node of an arena.
use Rattle.std.specs.Prelude.{◌≡◌, ℕ, Bool, List, Option, Some, None}
use Rattle.pq_tree.specs.Outline.{Outline}
use Rattle.tree_theory.specs.Templates.{Partial, Label, IsP1, IsP2, IsP3, IsP4, IsP5, IsP6, IsQ1, IsQ2, IsQ3}
use Rattle.arena_model.specs.declared.Shape.TheVariants.{Leaf, P, Q}
use Rattle.arena_model.specs.Layout.{Layout, shape_at}
use Rattle.bubble_pass.specs.declared.labels.Label.TheVariants.{Full}
use Rattle.bubble_pass.specs.Marks.{Marks, label_at}
use Rattle.template_model.specs.Standing.{child_trees, AreMarkedAs}
use Rattle.row_reduce.specs.declared.template.Template.{Template}
use Rattle.row_reduce.specs.declared.template.Template.TheVariants.{L1, P1, P2, P3, P4, P5, P6, Q1, Q2, Q3}

-- the pattern of the template stands at node n, whose children have the labels ps; root tells whether n is the
-- pertinent root
abbrev pub TemplateFits : Template → Layout → Marks → ℕ → Bool → List Label → Type 0
TemplateFits L1 f w n root ps = ((a : ℕ) × (shape_at f n ≡ Some (Leaf a))) × (label_at w n ≡ Full)
TemplateFits P1 f w n root ps = (shape_at f n ≡ Some P) × IsP1 (child_trees f n) ps
TemplateFits P2 f w n root ps = (shape_at f n ≡ Some P) × ((u : Outline) × IsP2 root (child_trees f n) ps u)
TemplateFits P3 f w n root ps = (shape_at f n ≡ Some P) × ((x : Partial) × IsP3 root (child_trees f n) ps x)
TemplateFits P4 f w n root ps = (shape_at f n ≡ Some P) × ((u : Outline) × IsP4 root (child_trees f n) ps u)
TemplateFits P5 f w n root ps = (shape_at f n ≡ Some P) × ((x : Partial) × IsP5 root (child_trees f n) ps x)
TemplateFits P6 f w n root ps = (shape_at f n ≡ Some P) × ((u : Outline) × IsP6 root (child_trees f n) ps u)
TemplateFits Q1 f w n root ps = (shape_at f n ≡ Some Q) × IsQ1 (child_trees f n) ps
TemplateFits Q2 f w n root ps = (shape_at f n ≡ Some Q) × ((x : Partial) × IsQ2 (child_trees f n) ps x)
TemplateFits Q3 f w n root ps = (shape_at f n ≡ Some Q) × ((u : Outline) × IsQ3 root (child_trees f n) ps u)

-- the template stands at n, by any labels of its children that have their marks
abbrev pub IsFit : Layout → Marks → ℕ → Bool → Template → Type 0
IsFit f w n root t = (ps : List Label) → AreMarkedAs f w n ps → TemplateFits t f w n root ps

-- the template that was found stands at n; where none was found, none does
abbrev pub IsChoice : Layout → Marks → ℕ → Bool → Option Template → Type 0
IsChoice f w n root (Some t) = IsFit f w n root t
IsChoice f w n root None = (t : Template) (ps : List Label) → AreMarkedAs f w n ps → TemplateFits t f w n root ps → ⊥
