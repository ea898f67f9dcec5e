-- What a template makes of a node in place.
use Rattle.std.specs.Prelude.{◌≡◌, ℕ, Bool, true, false, List}
use Rattle.pq_tree.specs.Outline.{Outline}
use Rattle.tree_theory.specs.Templates.{Partial, Label, IsP2, IsP3, IsP4, IsP5, IsP6, IsQ2, IsQ3}
use Rattle.arena_model.specs.Layout.{Layout, children_at}
use Rattle.bubble_pass.specs.Marks.{Marks}
use Rattle.template_model.specs.Standing.{child_trees, AreMarkedAs, AreShapesAt}
use Rattle.template_model.specs.Treated.{StandsForTree, StandsForPartial}
use Rattle.row_reduce.specs.declared.template.Template.{Template}
use Rattle.row_reduce.specs.declared.template.Template.TheVariants.{L1, P1, P2, P3, P4, P5, P6, Q1, Q2, Q3}
use Rattle.row_reduce.specs.Fits.{TemplateFits}

-- arena and marks stay, and so does the node
abbrev pub IsSame : Layout → Layout → Marks → Marks → ℕ → ℕ → Type 0
IsSame f g v w n a = (g ≡ f) × (w ≡ v) × (a ≡ n)

-- what stands at a in the place of n once the template was applied, the children of n having the labels ps
abbrev pub IsMade : Template → Layout → Layout → Marks → Marks → ℕ → ℕ → List Label → Type 0
IsMade L1 f g v w n a ps = IsSame f g v w n a
IsMade P1 f g v w n a ps = IsSame f g v w n a
IsMade P2 f g v w n a ps = (u : Outline) → IsP2 true (child_trees f n) ps u → StandsForTree g a u
IsMade P3 f g v w n a ps = (x : Partial) → IsP3 false (child_trees f n) ps x → StandsForPartial g w a x
IsMade P4 f g v w n a ps = (u : Outline) → IsP4 true (child_trees f n) ps u → StandsForTree g a u
IsMade P5 f g v w n a ps = (x : Partial) → IsP5 false (child_trees f n) ps x → StandsForPartial g w a x
IsMade P6 f g v w n a ps = (u : Outline) → IsP6 true (child_trees f n) ps u → StandsForTree g a u
IsMade Q1 f g v w n a ps = IsSame f g v w n a
IsMade Q2 f g v w n a ps = (x : Partial) → IsQ2 (child_trees f n) ps x → StandsForPartial g w a x
IsMade Q3 f g v w n a ps = (u : Outline) × IsQ3 true (child_trees f n) ps u × StandsForTree g a u

-- by any labels of the children that have their marks, each partial child standing as its Q-shape
abbrev pub Becomes : Template → Layout → Layout → Marks → Marks → ℕ → ℕ → Type 0
Becomes t f g v w n a = (ps : List Label) → AreMarkedAs f v n ps → AreShapesAt f v (children_at f n) ps → IsMade t f g v w n a ps

-- labels of the children by which the template stands at n, each partial child standing as its Q-shape
pub record Stands (t : Template) (f : Layout) (v : Marks) (n : ℕ) (root : Bool) : Type 0 where
  pub ps : List Label
  pub marked : AreMarkedAs f v n ps
  pub shapes : AreShapesAt f v (children_at f n) ps
  pub fits : TemplateFits t f v n root ps

-- The template stands at n. Only where n is not the pertinent root may the pass have found a run of inner children, since
-- Q3 is then meant for another node.
pub record CanApply (t : Template) (f : Layout) (v : Marks) (n : ℕ) : Type 0 where
  pub root : Bool
  pub stands : Stands t f v n root
  pub outside : root ≡ true → v.inside ≡ false
