-- A node of an arena with the labels of its children, as the templates see it.
use Rattle.std.specs.Prelude.{◌≡◌, ◌≢◌, ◌⊎◌, ◌↔◌, ℕ, ◌≤◌, Bool, true, IsTrue, List, [], ◌∷◌, ◌++◌, map, reverse, length, Some, All}
use Rattle.column_order.specs.Orders.{occurs}
use Rattle.pq_tree.specs.Outline.{Forest}
use Rattle.pq_tree.specs.Proper.{forest}
use Rattle.tree_theory.specs.Templates.{Partial, Label, empty_label, full_label, partial_label}
use Rattle.arena_model.specs.declared.Shape.TheVariants.{Q}
use Rattle.arena_model.specs.Layout.{Layout, shape_at, children_at, IsInUse}
use Rattle.arena_model.specs.NamedTree.{outline_below, IsOneTree, HasTwoEach}
use Rattle.bubble_pass.specs.declared.labels.Label.{Label as Mark}
use Rattle.bubble_pass.specs.declared.labels.Label.TheVariants.{Empty, Partial as Partly, Full}
use Rattle.bubble_pass.specs.Marks.{Marks, label_at, size_of}
use Rattle.bubble_pass.specs.Pass.{IsRightAt}

-- the trees of the children of n from left to right
abbrev pub child_trees : Layout → ℕ → Forest
child_trees f n = forest (map (outline_below f) (children_at f n))

-- what a mark tells of a label: whether it is empty, full or partial
abbrev pub mark_of : Label → Mark
mark_of empty_label = Empty
mark_of full_label = Full
mark_of (partial_label h) = Partly

-- the marks of the children of n are those of the labels ps
abbrev pub AreMarkedAs : Layout → Marks → ℕ → List Label → Type 0
AreMarkedAs f w n ps = map mark_of ps ≡ map (label_at w) (children_at f n)

-- the answer tells whether a pattern fits the children of n, whatever labels with their marks these have
abbrev pub Tells : Layout → Marks → ℕ → (List Label → Type 0) → Bool → Type 0
Tells f w n fits answer = (ps : List Label) → AreMarkedAs f w n ps → (IsTrue answer ↔ fits ps)

-- The Q-node k stands for the partial h: empty children, one or more, then full ones, one or more, in this order or turned.
pub record IsShapeAt (f : Layout) (w : Marks) (k : ℕ) (h : Partial) : Type 0 where
  pub es : List ℕ
  pub fs : List ℕ
  pub is_q : shape_at f k ≡ Some Q
  pub children : (children_at f k ≡ es ++ fs) ⊎ (children_at f k ≡ reverse (es ++ fs))
  pub some_empty : 1 ≤ length es
  pub some_full : 1 ≤ length fs
  pub empty : All (λ x. label_at w x ≡ Empty) es
  pub full : All (λ x. label_at w x ≡ Full) fs
  pub empty_trees : h.e ≡ forest (map (outline_below f) es)
  pub full_trees : h.f ≡ forest (map (outline_below f) fs)

-- each child with a partial label stands as its Q-shape
abbrev pub AreShapesAt : Layout → Marks → List ℕ → List Label → Type 0
AreShapesAt f w [] [] = Unit {0}
AreShapesAt f w [] (x ∷ ps) = ⊥
AreShapesAt f w (k ∷ ks) [] = ⊥
AreShapesAt f w (k ∷ ks) (empty_label ∷ ps) = AreShapesAt f w ks ps
AreShapesAt f w (k ∷ ks) (full_label ∷ ps) = AreShapesAt f w ks ps
AreShapesAt f w (k ∷ ks) (partial_label h ∷ ps) = IsShapeAt f w k h × AreShapesAt f w ks ps

-- what the calls of the templates ask of the arena and of the node: one tree, two children or more at each inner node, and
-- at the node right counts and a right chain
pub record IsReady (f : Layout) (w : Marks) (n : ℕ) : Type 0 where
  pub one : IsOneTree f
  pub two : HasTwoEach f
  pub room : size_of w ≡ length f.slots
  pub used : IsInUse f n
  pub right : IsRightAt f w n

-- the node n is one of a run ks of marked inner children of the Q-node q, which has no other marked child
pub record IsInMarkedRun (f : Layout) (w : Marks) (q n : ℕ) : Type 0 where
  pub us : List ℕ
  pub ks : List ℕ
  pub vs : List ℕ
  pub is_q : shape_at f q ≡ Some Q
  pub children : children_at f q ≡ us ++ (ks ++ vs)
  pub left : 1 ≤ length us
  pub right : 1 ≤ length vs
  pub some : 2 ≤ length ks
  pub one_of : 1 ≤ occurs ks n
  pub marked : All (λ x. label_at w x ≢ Empty) ks
  pub before : All (λ x. label_at w x ≡ Empty) us
  pub behind : All (λ x. label_at w x ≡ Empty) vs

-- what Q3 asks where a run of inner children holds the row: n is one of the run of some Q-node
pub record IsReadyInside (f : Layout) (w : Marks) (n : ℕ) : Type 0 where
  pub one : IsOneTree f
  pub two : HasTwoEach f
  pub room : size_of w ≡ length f.slots
  pub inside : w.inside ≡ true
  pub q : ℕ
  pub run : IsInMarkedRun f w q n
