-- The children of Q-shapes at the ends of some labelled children in their places.
use Rattle.std.specs.Prelude.{◌≡◌, ℕ, ◌≤◌, List, [], ◌∷◌, ◌++◌, length}
use Rattle.column_order.specs.Orders.{occurs}
use Rattle.tree_theory.specs.Templates.{Partial}
use Rattle.arena_model.specs.Layout.{Layout, children_at, IsLayout}
use Rattle.arena_model.specs.NamedTree.{HasTwoEach}
use Rattle.bubble_pass.specs.declared.labels.Label.TheVariants.{Partial as Partly}
use Rattle.bubble_pass.specs.Marks.{Marks, label_at, size_of}
use Rattle.template_model.specs.Standing.{IsShapeAt}
use Rattle.templates_q.specs.declared.walk.ChildGap.{ChildGap}
use Rattle.templates_q.specs.declared.stretch.PassedSpan.{PassedSpan}
use Rattle.templates_q.specs.Walk.{IsChildGap, IsFirst}
use Rattle.templates_q.specs.Span.{IsStretch}
use Rattle.templates_q.specs.Splicing.{CanBeOpened, IsSplicedIn}

-- x is a Q-shape, and the next child at this place
abbrev pub CanOpen : Layout → Marks → ChildGap → ℕ → Type 0
CanOpen f w from x = CanBeOpened f w x (λ q us vs. IsFirst f q us x vs from)

-- so many children, at most one, come next at this place, if there is one, and each is a Q-shape
pub record CanOpenCounted (f : Layout) (w : Marks) (from : ChildGap) (count : ℕ) : Type 0 where
  pub two : HasTwoEach f
  pub room : size_of w ≡ length f.slots
  pub q : ℕ
  pub us : List ℕ
  pub xs : List ℕ
  pub vs : List ℕ
  pub place : 1 ≤ length xs → IsChildGap f q us (xs ++ vs) from
  pub many : length xs ≡ count
  pub one : length xs ≤ 1
  pub shape : (k : ℕ) → 1 ≤ occurs xs k → (h : Partial) × IsShapeAt f w k h

-- each partial child of q is a Q-shape
abbrev pub AreShaped : Layout → Marks → ℕ → Type 0
AreShaped f w q = (k : ℕ) → 1 ≤ occurs (children_at f q) k → label_at w k ≡ Partly → (h : Partial) × IsShapeAt f w k h

-- The arena f became g: instead of the one node that comes next at this place stand its children, the empty ones first.
-- Where no node is named, nothing changed.
abbrev pub IsOpenedAt : Layout → Layout → Marks → ℕ → ChildGap → List ℕ → Type 0
IsOpenedAt f g w q from [] = g ≡ f
IsOpenedAt f g w q from (x ∷ []) = (us vs : List ℕ) (h : Partial) → IsFirst f q us x vs from → (s : IsShapeAt f w x h) → IsSplicedIn f g q x us (s.es ++ s.fs) vs
IsOpenedAt f g w q from (x ∷ y ∷ xs) = ⊥

-- the arena f became g by that at the front of the labelled children, and then e by that at their end
pub record AreOpened (f e : Layout) (w : Marks) (q : ℕ) (s : PassedSpan) (r : IsStretch f w q s) : Type 0 where
  pub g : Layout
  pub layout : IsLayout g
  pub first : IsOpenedAt f g w q s.from r.passed.ps
  pub last : IsOpenedAt g e w q (record { before = s.last.gap.next; next = s.last.gap.before }) r.passed.ls
