-- Where Q3 stands: how the labels of the children of a Q-node stand in line, what its calls ask, and what they leave.
use Rattle.std.specs.Prelude.{◌≡◌, ◌≢◌, ℕ, ◌+◌, ◌≤◌, Bool, true, List, [], ◌∷◌, ◌++◌, length, Some, sum_by}
use Rattle.column_order.specs.Orders.{occurs}
use Rattle.pq_tree.specs.Outline.{Outline}
use Rattle.tree_theory.specs.Templates.{Label, IsQ3}
use Rattle.arena_model.specs.declared.Shape.TheVariants.{Leaf, Q}
use Rattle.arena_model.specs.Layout.{Layout, shape_at, children_at, IsAtOrAbove}
use Rattle.bubble_pass.specs.declared.labels.Label.TheVariants.{Empty, Partial, Full}
use Rattle.bubble_pass.specs.Marks.{Marks, label_at, size_of}
use Rattle.bubble_pass.specs.Pass.{IsRightAt}
use Rattle.bubble_pass.specs.Sweep.{IsRight, full_one, partial_one}
use Rattle.template_model.specs.Standing.{child_trees, AreMarkedAs, AreShapesAt, IsReady, IsInMarkedRun, IsReadyInside}
use Rattle.template_model.specs.Treated.{IsOutside, StandsForTree}
use Rattle.templates_q.specs.declared.walk.ChildGap.{ChildGap}
use Rattle.templates_q.specs.declared.stretch.PassedSpan.{PassedSpan}
use Rattle.templates_q.specs.Walk.{AreAll, EndsWithout, IsChildGap}
use Rattle.templates_q.specs.Fits.{FitsQ3}

-- how many of these nodes have a label
abbrev pub labelled_in : Marks → List ℕ → ℕ
labelled_in w ks = sum_by (λ k. full_one (label_at w k)) ks + sum_by (λ k. partial_one (label_at w k)) ks

-- the first of these nodes is empty, or there is none
abbrev pub BeginsEmpty : Marks → List ℕ → Type 0
BeginsEmpty w [] = Unit {0}
BeginsEmpty w (x ∷ xs) = label_at w x ≡ Empty

-- the last of these nodes is empty, or there is none
abbrev pub EndsEmpty : Marks → List ℕ → Type 0
EndsEmpty w [] = Unit {0}
EndsEmpty w (x ∷ []) = label_at w x ≡ Empty
EndsEmpty w (x ∷ y ∷ ys) = EndsEmpty w (y ∷ ys)

-- there is a first one of these nodes, and it has a label
abbrev pub BeginsLabelled : Marks → List ℕ → Type 0
BeginsLabelled w [] = ⊥
BeginsLabelled w (x ∷ xs) = label_at w x ≢ Empty

-- x is a labelled child of the Q-node q
pub record IsMarkedChild (f : Layout) (w : Marks) (q x : ℕ) : Type 0 where
  pub is_q : shape_at f q ≡ Some Q
  pub child : 1 ≤ occurs (children_at f q) x
  pub marked : label_at w x ≢ Empty

-- the place between an empty child of q, or its end, and a labelled one
pub record IsStart (f : Layout) (w : Marks) (q : ℕ) (gap : ChildGap) : Type 0 where
  pub us : List ℕ
  pub vs : List ℕ
  pub place : IsChildGap f q us vs gap
  pub before : EndsEmpty w us
  pub some : BeginsLabelled w vs

-- From the place between us and vs the walk passed of vs at most one partial child, then full ones, then at most one
-- partial one, and each time all that came.
pub record IsSpanPassed (f : Layout) (w : Marks) (q : ℕ) (us vs : List ℕ) (s : PassedSpan) : Type 0 where
  pub ps : List ℕ
  pub fs : List ℕ
  pub ls : List ℕ
  pub rest : List ℕ
  pub is : vs ≡ ps ++ (fs ++ (ls ++ rest))
  pub first : AreAll Partial w ps
  pub full : AreAll Full w fs
  pub last : AreAll Partial w ls
  pub one : length ps ≤ 1
  pub one_more : length ls ≤ 1
  pub firsts : length ps ≡ s.first.count
  pub fulls : length fs ≡ s.fulls.count
  pub lasts : length ls ≡ s.last.count
  pub no_first : length ps ≡ 0 → EndsWithout Partial w (fs ++ (ls ++ rest))
  pub no_full : EndsWithout Full w (ls ++ rest)
  pub no_last : length ls ≡ 0 → EndsWithout Partial w rest
  pub from : IsChildGap f q us vs s.from
  pub end : IsChildGap f q (us ++ (ps ++ (fs ++ ls))) rest s.last.gap

-- such a walk over the labelled children of q that stand together
pub record IsStretch (f : Layout) (w : Marks) (q : ℕ) (s : PassedSpan) : Type 0 where
  pub us : List ℕ
  pub vs : List ℕ
  pub before : EndsEmpty w us
  pub some : BeginsLabelled w vs
  pub passed : IsSpanPassed f w q us vs s

-- the pattern that is meant is that of the Q-node of the run
abbrev pub IsRunMeant : Marks → Bool → Type 0
IsRunMeant w root = (w.inside ≡ true) × (root ≡ true)

-- no child of n is partial
abbrev pub HasNoPartial : Layout → Marks → ℕ → Type 0
HasNoPartial f w n = (k : ℕ) → 1 ≤ occurs (children_at f n) k → label_at w k ≢ Partial

-- what it asks of n to tell whether Q3 fits: as for any template, or that n is one of the run
pub record CanAskQ3 (f : Layout) (w : Marks) (n : ℕ) (root : Bool) : Type 0 where
  pub at : (IsRunMeant w root → ⊥) → IsReady f w n
  pub inside : IsRunMeant w root → IsReadyInside f w n

-- labels of the children of n by which Q3 fits there, each partial child standing as its Q-shape
pub record StandsQ3 (f : Layout) (w : Marks) (n : ℕ) : Type 0 where
  pub ps : List Label
  pub marked : AreMarkedAs f w n ps
  pub shapes : AreShapesAt f w (children_at f n) ps
  pub fits : FitsQ3 f n true ps

-- Q3 stands at n, or at the Q-node whose run has n
pub record CanApplyQ3 (f : Layout) (w : Marks) (n : ℕ) : Type 0 where
  pub at : (IsRunMeant w true → ⊥) → StandsQ3 f w n
  pub inside : IsRunMeant w true → (q : ℕ) × IsInMarkedRun f w q n × StandsQ3 f w q

-- The marks v have become w: each node outside of q keeps its label, its counts and its chain, and labels below q that were
-- right for a row of leaves are right below q. Nothing is said of the label of q itself.
pub record AreKeptBelow (f g : Layout) (v w : Marks) (q : ℕ) : Type 0 where
  pub room : size_of w ≡ size_of v
  pub nodes : w.nodes ≡ v.nodes
  pub inside : w.inside ≡ v.inside
  pub outside : (m : ℕ) → IsOutside f q m → label_at w m ≡ label_at v m
  pub chains : (m : ℕ) → IsOutside f q m → IsRightAt f v m → IsRightAt g w m
  pub right : (row : List ℕ) → ((x : ℕ) → 1 ≤ occurs row x → (c : ℕ) × (shape_at f x ≡ Some (Leaf c))) →
      ((m : ℕ) → IsAtOrAbove f.slots q m → m ≢ q → IsRight f row m (label_at v m)) →
      (m : ℕ) → IsAtOrAbove g.slots q m → m ≢ q → IsRight g row m (label_at w m)

-- what Q3 makes of n stands at a, up to turning, whatever labels the children of n have with their marks and shapes
abbrev pub BecomesQ3 : Layout → Layout → Marks → ℕ → ℕ → Type 0
BecomesQ3 f g v n a = (ps : List Label) → AreMarkedAs f v n ps → AreShapesAt f v (children_at f n) ps →
    (u : Outline) × IsQ3 true (child_trees f n) ps u × StandsForTree g a u
