-- What stands in the arena while the templates below the pertinent root are applied, one after another.
use Rattle.std.specs.Prelude.{◌≡◌, ℕ, ◌≤◌, ◌==◌, if◌then◌else◌, List, map}
use Rattle.column_order.specs.Orders.{occurs}
use Rattle.tree_theory.specs.Templates.{Partial, Label, full_label, partial_label}
use Rattle.tree_theory.specs.Reduced.{IsLabel}
use Rattle.arena_model.specs.Layout.{Layout, shape_at, children_at, IsInUse, IsAtOrAbove}
use Rattle.arena_model.specs.NamedTree.{outline_below, IsOneTree, HasTwoEach}
use Rattle.bubble_pass.specs.Marks.{Marks, label_at, size_of}
use Rattle.bubble_pass.specs.Pass.{IsRightAt}
use Rattle.template_model.specs.Standing.{mark_of, IsShapeAt}

-- x is in use, and none of the nodes ds is at or above it
pub record IsStanding (f : Layout) (ds : List ℕ) (x : ℕ) : Type 0 where
  pub used : IsInUse f x
  pub clear : (y : ℕ) → 1 ≤ occurs ds y → IsAtOrAbove f.slots y x → ⊥

-- Node a of the arena g stands in the place of node k of f: as the Q-shape of a label of the tree at k, or as that
-- tree, where it is full.
pub record IsAnswered (f : Layout) (v : Marks) (row : List ℕ) (g : Layout) (w : Marks) (k a : ℕ) : Type 0 where
  pub used : IsInUse g a
  pub kept : label_at w a ≡ label_at v k
  pub label : Label
  pub is : IsLabel row (outline_below f k) label
  pub marked : mark_of label ≡ label_at v k
  pub shape : (h : Partial) → label ≡ partial_label h → IsShapeAt g w a h
  pub same : label ≡ full_label → outline_below g a ≡ outline_below f k

-- a stands in the place of n too
abbrev pub placed : (ℕ → ℕ) → ℕ → ℕ → ℕ → ℕ
placed place n a k = if k == n then a else place k

-- The arena f with the marks v has become g with w: the templates at the nodes ds have been applied, and each of these
-- nodes has given its place to another one, or kept it. The nodes that stand are as they were, but for that.
pub record AreApplied (f : Layout) (v : Marks) (row ds : List ℕ) (place : ℕ → ℕ) (g : Layout) (w : Marks) : Type 0 where
  pub one : IsOneTree g
  pub two : HasTwoEach g
  pub columns : g.columns ≡ f.columns
  pub root : g.root ≡ f.root
  pub room : size_of w ≡ size_of v
  pub nodes : w.nodes ≡ v.nodes
  pub inside : w.inside ≡ v.inside
  pub fixed : (k : ℕ) → occurs ds k ≡ 0 → place k ≡ k
  pub shapes : (x : ℕ) → IsStanding f ds x → shape_at g x ≡ shape_at f x
  pub children : (x : ℕ) → IsStanding f ds x → children_at g x ≡ map place (children_at f x)
  pub labels : (x : ℕ) → IsStanding f ds x → label_at w x ≡ label_at v x
  pub chains : (x : ℕ) → IsStanding f ds x → IsRightAt f v x → IsRightAt g w x
  pub paths : (x y : ℕ) → IsStanding f ds x → IsStanding f ds y → IsAtOrAbove g.slots y x → IsAtOrAbove f.slots y x
  pub apart : (x p k : ℕ) → IsStanding f ds x → IsStanding f ds p → 1 ≤ occurs (children_at f p) k → 1 ≤ occurs ds k →
      IsAtOrAbove g.slots (place k) x → ⊥
  pub answers : (p k : ℕ) → IsStanding f ds p → 1 ≤ occurs (children_at f p) k → 1 ≤ occurs ds k → IsAnswered f v row g w k (place k)
