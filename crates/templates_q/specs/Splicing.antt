-- A Q-shape among the children of a Q-node, and its children in its place.
use Rattle.std.specs.Prelude.{◌≡◌, ◌⊎◌, ℕ, List, ◌∷◌, ◌++◌, reverse, length, Option, Some}
use Rattle.arena_model.specs.declared.Shape.TheVariants.{Q}
use Rattle.arena_model.specs.ChildLists.{head_or, none}
use Rattle.arena_model.specs.Layout.{Layout, shape_at, children_at, spliced}
use Rattle.arena_model.specs.NamedTree.{HasTwoEach}
use Rattle.pq_arena.specs.declared.node.NodeId.{NodeId}
use Rattle.pq_arena.specs.Looks.{node_named}
use Rattle.bubble_pass.specs.declared.labels.Label.TheVariants.{Empty, Partial as Partly, Full}
use Rattle.bubble_pass.specs.Marks.{Marks, label_at, size_of}
use Rattle.tree_theory.specs.Templates.{Partial}
use Rattle.template_model.specs.Standing.{IsShapeAt}
use Rattle.templates_q.specs.declared.q2.PartialLine.{PartialLine}
use Rattle.templates_q.specs.Walk.{AreChildren, AreAll}

-- the children of the Q-node q are us, c and vs, in this order or turned, and `towards` is the neighbour of c among vs
pub record IsLineIn (f : Layout) (q c : ℕ) (us vs : List ℕ) (towards : Option NodeId) : Type 0 where
  pub is_q : shape_at f q ≡ Some Q
  pub children : AreChildren f q (us ++ c ∷ vs)
  pub towards_is : towards ≡ node_named (head_or vs none)

-- c is a Q-shape, and stands among the children of some Q-node, with us on one side and vs on the other, as At says
pub record CanBeOpened (f : Layout) (w : Marks) (c : ℕ) (At : ℕ → List ℕ → List ℕ → Type 0) : Type 0 where
  pub two : HasTwoEach f
  pub room : size_of w ≡ length f.slots
  pub q : ℕ
  pub us : List ℕ
  pub vs : List ℕ
  pub place : At q us vs
  pub h : Partial
  pub shape : IsShapeAt f w c h

-- c is a Q-shape, and a child of a Q-node beside `towards`
abbrev pub CanSpliceIn : Layout → Marks → ℕ → Option NodeId → Type 0
CanSpliceIn f w c towards = CanBeOpened f w c (λ q us vs. IsLineIn f q c us vs towards)

-- Of the children us, c and vs of q, in this order or turned, c is given back, and ms stand in its place.
abbrev pub IsSplicedIn : Layout → Layout → ℕ → ℕ → List ℕ → List ℕ → List ℕ → Type 0
IsSplicedIn f g q c us ms vs =
    ((children_at f q ≡ us ++ c ∷ vs) × (g ≡ spliced f q c (us ++ (ms ++ vs))))
    ⊎ ((children_at f q ≡ reverse (us ++ c ∷ vs)) × (g ≡ spliced f q c (reverse (us ++ (ms ++ vs)))))

-- the partial child of the Q-node q, between empty children and full ones
pub record IsPartialLine (f : Layout) (w : Marks) (q : ℕ) (line : PartialLine) : Type 0 where
  pub us : List ℕ
  pub vs : List ℕ
  pub place : IsLineIn f q line.child.index us vs line.towards
  pub empty : AreAll Empty w us
  pub partial : label_at w line.child.index ≡ Partly
  pub full : AreAll Full w vs
