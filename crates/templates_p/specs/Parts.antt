-- The steps below the pertinent root: a line takes the place of its node, and what is left of the node stands at its end.
use Rattle.std.specs.Prelude.{◌≡◌, ◌≢◌, ◌⊎◌, ℕ, ◌≤◌, if◌then◌else◌, ◌==◌, List, [], ◌∷◌, ◌++◌, map, reverse, length, set, All, Option, Some, None}
use Rattle.pq_tree.specs.Outline.{Forest}
use Rattle.pq_tree.specs.Equivalent.{AreEquivalent}
use Rattle.arena_model.specs.declared.Shape.TheVariants.{P, Q}
use Rattle.arena_model.specs.ChildLists.{without, with_replaced, put_on}
use Rattle.arena_model.specs.Layout.{Layout, shape_at, children_at, with_children, given_back, IsAtOrAbove}
use Rattle.arena_model.specs.NamedTree.{outline_below}
use Rattle.pq_arena.specs.declared.node.NodeId.{NodeId}
use Rattle.bubble_pass.specs.declared.labels.Label.TheVariants.{Empty, Full}
use Rattle.bubble_pass.specs.Marks.{Marks, label_at, size_of, IsChain, exchange}
use Rattle.templates_p.specs.Lines.{CanHandOver, CanAbsorb, IsAbsorbed}

-- What is left of the P-node n is the node e: n, marked as empty, where it has two children or more; else its only child,
-- and n is gone.
abbrev pub IsLeftPart : Layout → Layout → Marks → Marks → ℕ → ℕ → Type 0
IsLeftPart f g v w n e =
    ((e ≡ n) × (2 ≤ length (children_at f n)) × (g ≡ f) × (w ≡ record v { labels = set v.labels n Empty }))
    ⊎ ((children_at f n ≡ e ∷ []) × (g ≡ given_back (with_children f n (without (children_at f n) e)) n) × (w ≡ v))

-- the child h of the P-node n, a Q-node, may stand in its place with the other children of n at its end
pub record CanLift (f : Layout) (v : Marks) (n h : ℕ) : Type 0 where
  pub hand : CanHandOver f n h
  pub is_q : shape_at f h ≡ Some Q
  pub more : 2 ≤ length (children_at f n)
  pub room : size_of v ≡ length f.slots

-- the marks v and w differ in labels and in chains alone
pub record AreAlike (v w : Marks) : Type 0 where
  pub room : size_of w ≡ size_of v
  pub nodes : w.nodes ≡ v.nodes
  pub inside : w.inside ≡ v.inside
  pub full : w.full ≡ v.full
  pub partial : w.partial ≡ v.partial

-- The marks v became w: h has the label that n had, other nodes than these two keep theirs, and in the chains n and h are
-- exchanged.
pub record AreMoved (v w : Marks) (n h : ℕ) : Type 0 where
  pub alike : AreAlike v w
  pub label : label_at w h ≡ label_at v n
  pub labels : (m : ℕ) → m ≢ n → m ≢ h → label_at w m ≡ label_at v m
  pub old : NodeId
  pub new : NodeId
  pub old_is : old.index ≡ n
  pub new_is : new.index ≡ h
  pub chains : (m : ℕ) (xs : List NodeId) → IsChain v m xs → IsChain w m (map (exchange old new) xs)

-- The Q-node h stands in the place of n. Its children are `line` and, at this end, what is left of n: n over `rest`, marked
-- as empty, or the only one of `rest`, where n is gone.
pub record IsParted (f g : Layout) (v w : Marks) (n h end : ℕ) (rest line : List ℕ) : Type 0 where
  pub e : ℕ
  pub columns : g.columns ≡ f.columns
  pub root : g.root ≡ (if f.root == n then h else f.root)
  pub is_q : shape_at g h ≡ Some Q
  pub shapes : (m : ℕ) → m ≢ n → m ≢ h → shape_at g m ≡ shape_at f m
  pub children : (m : ℕ) → m ≢ n → m ≢ h → children_at g m ≡ with_replaced (children_at f m) n h
  pub over : children_at g h ≡ put_on end e line
  pub part : ((e ≡ n) × (shape_at g n ≡ Some P) × (children_at g n ≡ rest) × (2 ≤ length rest) × (label_at w n ≡ Empty)) ⊎ ((shape_at g n ≡ None) × (rest ≡ e ∷ []))
  pub marks : AreMoved v w n h

-- the Q-node q, which was spare, stands in the place of the child y of n, and y is its only child
pub record IsStarted (f g : Layout) (n y q : ℕ) : Type 0 where
  pub spare : shape_at f q ≡ None
  pub columns : g.columns ≡ f.columns
  pub root : g.root ≡ f.root
  pub is_q : shape_at g q ≡ Some Q
  pub shapes : (m : ℕ) → m ≢ q → shape_at g m ≡ shape_at f m
  pub node : children_at g n ≡ with_replaced (children_at f n) y q
  pub line : children_at g q ≡ y ∷ []
  pub others : (m : ℕ) → m ≢ n → m ≢ q → children_at g m ≡ children_at f m
  pub above : IsAtOrAbove g.slots g.root n

-- what the full children of n became may be put at an end of its child h
abbrev pub CanFill : Layout → Marks → ℕ → ℕ → Option NodeId → Type 0
CanFill f w n h None = Unit {0}
CanFill f w n h (Some y) = CanAbsorb f w n h y.index

-- it was put there; where there is nothing, all stays
abbrev pub IsFilled : Layout → Marks → Layout → Marks → ℕ → ℕ → ℕ → ℕ → Option NodeId → Type 0
IsFilled f v g w n h end a None = (a ≡ n) × (g ≡ f) × (w ≡ v)
IsFilled f v g w n h end a (Some y) = IsAbsorbed f v g w n h y.index end a

-- These nodes are empty ones, whose trees are those of E, turned, and then full ones, whose trees are those of F, turned. The
-- full ones are at this end: 0 the first, 1 the last.
pub record IsLineFor (f : Layout) (w : Marks) (line : List ℕ) (end : ℕ) (E F : Forest) : Type 0 where
  pub es : List ℕ
  pub fs : List ℕ
  pub sides : ((end ≡ 1) × (line ≡ es ++ fs)) ⊎ ((end ≡ 0) × (line ≡ reverse (es ++ fs)))
  pub some : 1 ≤ length fs
  pub empty : All (λ x. label_at w x ≡ Empty) es
  pub full : All (λ x. label_at w x ≡ Full) fs
  pub empty_trees : AreEquivalent E (map (outline_below f) es)
  pub full_trees : AreEquivalent F (map (outline_below f) fs)
