-- A P-node beside a child of a Q-node becomes two children of that: one over some of its children, one over the others.
use Rattle.std.specs.Prelude.{◌≡◌, ◌≢◌, ◌⊎◌, ℕ, ◌≤◌, ◌<◌, List, [], ◌∷◌, ◌++◌, length, Some, None}
use Rattle.column_order.specs.Orders.{occurs}
use Rattle.pq_tree.specs.Outline.{Forest}
use Rattle.pq_tree.specs.Equivalent.{AreEquivalent}
use Rattle.arena_model.specs.declared.Shape.TheVariants.{P, Q}
use Rattle.arena_model.specs.ChildLists.{without}
use Rattle.arena_model.specs.Layout.{Layout, slot, shape_at, children_at, with_children, given_back, IsAtOrAbove, StandsAlone}
use Rattle.arena_model.specs.NamedTree.{outline_below}
use Rattle.tree_theory.specs.Templates.{star, IsSorted}
use Rattle.template_model.specs.Standing.{child_trees}
use Rattle.template_model.specs.Treated.{IsReplacedAt}
use Rattle.templates_p.specs.Members.{member_labels}
use Rattle.templates_p.specs.Steps.{without_all, onto}

-- some children of the P-node n, each once, one or more and not all
pub record AreSome (f : Layout) (n : ℕ) (members : List ℕ) : Type 0 where
  pub is_p : shape_at f n ≡ Some P
  pub once : (k : ℕ) → occurs members k ≤ 1
  pub child : (k : ℕ) → 1 ≤ occurs members k → 1 ≤ occurs (children_at f n) k
  pub some : 1 ≤ length members
  pub not_all : length members < length (children_at f n)

-- n stands beside t among the children of some Q-node
pub record CanDivide (f : Layout) (n t : ℕ) : Type 0 where
  pub q : ℕ
  pub us : List ℕ
  pub vs : List ℕ
  pub is_q : shape_at f q ≡ Some Q
  pub place : (children_at f q ≡ us ++ (n ∷ (t ∷ vs))) ⊎ (children_at f q ≡ us ++ (t ∷ (n ∷ vs)))

-- The Q-node q has become one in whose children two nodes take the place of the P-node n, side by side as the list says:
-- `rest` over its other children and `group` over the members. All else below q is as it was.
pub record IsDivided (f g : Layout) (q n : ℕ) (members : List ℕ) (list : ℕ → ℕ → List ℕ) : Type 0 where
  pub rest : ℕ
  pub group : ℕ
  pub replaced : IsReplacedAt f g q q
  pub is_q : shape_at g q ≡ Some Q
  pub children : children_at g q ≡ list rest group
  pub trees : (es fs : Forest) → IsSorted (child_trees f n) (member_labels members (children_at f n)) es fs [] →
      AreEquivalent (star es) (outline_below g rest ∷ []) × AreEquivalent (star fs) (outline_below g group ∷ [])
  pub kept : (k m : ℕ) → 1 ≤ occurs (children_at f q) k → k ≢ n → IsAtOrAbove f.slots k m → (shape_at g m ≡ shape_at f m) × (children_at g m ≡ children_at f m)

-- The members, children of the P-node n, have become the node x, which stands alone: the only one of them, or a new P-node
-- over them. `fresh` has the new node, if there is one; all other nodes but n are as they were.
pub record IsPartedOff (f g : Layout) (n x : ℕ) (members fresh : List ℕ) : Type 0 where
  pub columns : g.columns ≡ f.columns
  pub root : g.root ≡ f.root
  pub node_shape : shape_at g n ≡ Some P
  pub node_children : children_at g n ≡ without_all (children_at f n) members
  pub alone : StandsAlone g x
  pub others : (m : ℕ) → m ≢ n → occurs fresh m ≡ 0 → slot g.slots m ≡ slot f.slots m
  pub group : ((fresh ≡ []) × (members ≡ x ∷ [])) ⊎ ((fresh ≡ x ∷ []) × (shape_at f x ≡ None) × (shape_at g x ≡ Some P) × (children_at g x ≡ onto members []) × (2 ≤ length members))

-- What is left of the P-node n is the node e: n itself, where it has two children or more; else its only child, and n is
-- given back.
abbrev pub IsOneLeft : Layout → Layout → ℕ → ℕ → Type 0
IsOneLeft f g n e =
    ((e ≡ n) × (2 ≤ length (children_at f n)) × (g ≡ f))
    ⊎ ((children_at f n ≡ e ∷ []) × (g ≡ given_back (with_children f n (without (children_at f n) e)) n))
