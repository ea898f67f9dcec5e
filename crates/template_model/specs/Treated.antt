-- What stands in an arena once a template was applied at a node.
use Rattle.std.specs.Prelude.{◌≡◌, ◌↔◌, ℕ, ◌≤◌, if◌then◌else◌, ◌==◌, List, Some}
use Rattle.column_order.specs.Orders.{occurs}
use Rattle.arena_model.specs.declared.Shape.TheVariants.{Leaf}
use Rattle.pq_tree.specs.Outline.{Outline}
use Rattle.pq_tree.specs.Equivalent.{IsEquivalent}
use Rattle.tree_theory.specs.Templates.{Partial, Label, partial_label}
use Rattle.tree_theory.specs.Reduced.{IsTurned}
use Rattle.arena_model.specs.ChildLists.{with_replaced}
use Rattle.arena_model.specs.Layout.{Layout, shape_at, children_at, IsAtOrAbove, IsInUse}
use Rattle.arena_model.specs.NamedTree.{outline_below, IsOneTree, HasTwoEach}
use Rattle.bubble_pass.specs.Marks.{Marks, label_at, size_of}
use Rattle.bubble_pass.specs.Pass.{IsRightAt}
use Rattle.bubble_pass.specs.Sweep.{IsRight}
use Rattle.template_model.specs.Standing.{AreMarkedAs, AreShapesAt, IsShapeAt}

-- m is in use, and not at or below n
abbrev pub IsOutside : Layout → ℕ → ℕ → Type 0
IsOutside f n m = IsInUse f m × (IsAtOrAbove f.slots n m → ⊥)

-- The arena f has become g: in place of n, with all below it, stands a, with the same leaves below it. All else stays.
pub record IsReplacedAt (f g : Layout) (n a : ℕ) : Type 0 where
  pub columns : g.columns ≡ f.columns
  pub one : IsOneTree g
  pub two : HasTwoEach g
  pub used : IsInUse g a
  pub root : g.root ≡ (if f.root == n then a else f.root)
  pub outside : (m : ℕ) → IsOutside f n m →
      (shape_at g m ≡ shape_at f m) × (children_at g m ≡ with_replaced (children_at f m) n a)
  pub apart : (m : ℕ) → IsOutside f n m → IsAtOrAbove g.slots a m → ⊥
  pub leaves : (x c : ℕ) → shape_at f x ≡ Some (Leaf c) → IsAtOrAbove f.slots n x ↔ IsAtOrAbove g.slots a x

-- The marks v have become w: a has the label that n had, each node outside of n keeps its label, its counts and its chain,
-- in which a has taken the place of n, and labels at and below n that were right for a row of leaves are right at and below a.
pub record AreKeptAt (f g : Layout) (v w : Marks) (n a : ℕ) : Type 0 where
  pub room : size_of w ≡ size_of v
  pub nodes : w.nodes ≡ v.nodes
  pub inside : w.inside ≡ v.inside
  pub label : label_at w a ≡ label_at v n
  pub outside : (m : ℕ) → IsOutside f n m → label_at w m ≡ label_at v m
  pub chains : (m : ℕ) → IsOutside f n m → IsRightAt f v m → IsRightAt g w m
  pub right : (row : List ℕ) → ((x : ℕ) → 1 ≤ occurs row x → (c : ℕ) × (shape_at f x ≡ Some (Leaf c))) →
      ((m : ℕ) → IsAtOrAbove f.slots n m → IsRight f row m (label_at v m)) →
      (m : ℕ) → IsAtOrAbove g.slots a m → IsRight g row m (label_at w m)

-- both
pub record IsTreated (f g : Layout) (v w : Marks) (n a : ℕ) : Type 0 where
  pub arena : IsReplacedAt f g n a
  pub marks : AreKeptAt f g v w n a

-- the tree at a is u, up to turning
abbrev pub StandsForTree : Layout → ℕ → Outline → Type 0
StandsForTree g a u = IsEquivalent u (outline_below g a)

-- the Q-node a stands for the partial x, its trees turned
pub record StandsForPartial (g : Layout) (w : Marks) (a : ℕ) (x : Partial) : Type 0 where
  pub shape : Partial
  pub turned : IsTurned (partial_label x) (partial_label shape)
  pub is : IsShapeAt g w a shape

-- Whatever labels the children of n have with their marks, each partial child standing as its Q-shape: the tree that the
-- template makes by them stands at a.
abbrev pub BecomesTree : Layout → Layout → Marks → ℕ → ℕ → (List Label → Outline → Type 0) → Type 0
BecomesTree f g v n a makes =
    (ps : List Label) (u : Outline) → AreMarkedAs f v n ps → AreShapesAt f v (children_at f n) ps → makes ps u → StandsForTree g a u

-- so where it makes a partial
abbrev pub BecomesPartial : Layout → Layout → Marks → Marks → ℕ → ℕ → (List Label → Partial → Type 0) → Type 0
BecomesPartial f g v w n a makes =
    (ps : List Label) (x : Partial) → AreMarkedAs f v n ps → AreShapesAt f v (children_at f n) ps → makes ps x → StandsForPartial g w a x
