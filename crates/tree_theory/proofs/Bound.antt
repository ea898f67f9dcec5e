-- The second and third part of being tied, node by node: what a node says of its own columns and children alone.
-- It is said for any relation R of pairs; for R take that a walk of even length leads from the one to the other.
pub use Rattle.tree_theory.specs.Tied.{IsClosed, IsInLine}
use Rattle.std.proofs.Common.{◌≡◌, ℕ, List, ◌++◌, IsTrue, refl, sym, subst, inl, inr}
use Rattle.std.proofs.lemmas.Bool.{cases_Bool, both_ways}
use Rattle.row_model.specs.declared.graph.Pair.{Pair}
use Rattle.column_order.specs.Orders.{has}
use Rattle.row_model.specs.Graph.{pair}
use Rattle.column_order.proofs.Lists.{has_append_left, has_append_right, has_append_cases}
use Rattle.pq_tree.specs.Outline.{Outline, Forest, leaf, p_node, q_node, no_tree, tree_and, leaves, leaves_of}
use Rattle.pq_tree.specs.Nodes.{IsNode, IsNodeOf}
use Rattle.pq_tree.proofs.Nodes.{node_itself}

-- the columns of each tree are closed in l
abbrev pub AreClosed : (Pair → Pair → Type 0) → List ℕ → Forest → Type 0
AreClosed R l no_tree = Unit {0}
AreClosed R l (tree_and t ts) = IsClosed R l (leaves t) × AreClosed R l ts

-- A tree is bound by R where the columns of each child of a P-node are closed in those of the node, and the children of
-- each Q-node stand in line.
abbrev mutual
  pub IsBound : (Pair → Pair → Type 0) → Outline → Type 0
  IsBound R (leaf a) = Unit {0}
  IsBound R (p_node ts) = AreClosed R (leaves_of ts) ts × AreBound R ts
  IsBound R (q_node ts) = IsInLine R ts × AreBound R ts

  pub AreBound : (Pair → Pair → Type 0) → Forest → Type 0
  AreBound R no_tree = Unit {0}
  AreBound R (tree_and t ts) = IsBound R t × AreBound R ts

module _ (R : Pair → Pair → Type 0) (all : Outline) (l : List ℕ)
    (together : (x : Outline) → IsNode x all → IsClosed R l (leaves x))
    (in_line : (ts : Forest) → IsNode (q_node ts) all → IsInLine R ts) where
  closed_from : (m : List ℕ) → ((d : ℕ) → IsTrue (has m d) → IsTrue (has l d)) → (ts : Forest) → ((x : Outline) → IsNodeOf x ts → IsNode x all) → AreClosed R m ts
  closed_from m sub no_tree below = tt
  closed_from m sub (tree_and t ts) below =
      (λ a b d xa xb md xd. together t (below t (inl (node_itself t))) a b d xa xb (sub d md) xd, closed_from m sub ts (λ x h. below x (inr h)))

  mutual
    pub bound_from : (t : Outline) → ((d : ℕ) → IsTrue (has (leaves t) d) → IsTrue (has l d)) → ((x : Outline) → IsNode x t → IsNode x all) → IsBound R t
    bound_from (leaf a) sub below = tt
    bound_from (p_node ts) sub below = (closed_from (leaves_of ts) sub ts (λ x h. below x (inr h)), are_bound_from ts sub (λ x h. below x (inr h)))
    bound_from (q_node ts) sub below = (in_line ts (below (q_node ts) (inl refl)), are_bound_from ts sub (λ x h. below x (inr h)))

    pub are_bound_from : (ts : Forest) → ((d : ℕ) → IsTrue (has (leaves_of ts) d) → IsTrue (has l d)) → ((x : Outline) → IsNodeOf x ts → IsNode x all) → AreBound R ts
    are_bound_from no_tree sub below = tt
    are_bound_from (tree_and t ts) sub below = (
      bound_from t (λ d h. sub d (has_append_left (leaves t) (leaves_of ts) d h)) (λ x h. below x (inl h)),
      are_bound_from ts (λ d h. sub d (has_append_right (leaves t) (leaves_of ts) d h)) (λ x h. below x (inr h)),
    )

-- R is an equivalence of pairs that stays where the columns of both pairs are exchanged
pub record IsPairEq (R : Pair → Pair → Type 0) : Type 0 where
  pub same : (v : Pair) → R v v
  pub turn : (v w : Pair) → R v w → R w v
  pub join : (v w z : Pair) → R v w → R w z → R v z
  pub flip : (v w : Pair) → R v w → R (pair v.b v.a) (pair w.b w.a)

closed_mono : (R S : Pair → Pair → Type 0) → ((v w : Pair) → R v w → S v w) → (l : List ℕ) (ts : Forest) → AreClosed R l ts → AreClosed S l ts
closed_mono R S m l no_tree h = tt
closed_mono R S m l (tree_and t ts) h = (λ a b d i j k n. m (pair a d) (pair b d) (h.0 a b d i j k n), closed_mono R S m l ts h.1)

mutual
  pub bound_mono : (R S : Pair → Pair → Type 0) → ((v w : Pair) → R v w → S v w) → (t : Outline) → IsBound R t → IsBound S t
  bound_mono R S m (leaf a) h = tt
  bound_mono R S m (p_node ts) h = (closed_mono R S m (leaves_of ts) ts h.0, are_bound_mono R S m ts h.1)
  bound_mono R S m (q_node ts) h = (λ v w i j. m v w (h.0 v w i j), are_bound_mono R S m ts h.1)

  pub are_bound_mono : (R S : Pair → Pair → Type 0) → ((v w : Pair) → R v w → S v w) → (ts : Forest) → AreBound R ts → AreBound S ts
  are_bound_mono R S m no_tree h = tt
  are_bound_mono R S m (tree_and t ts) h = (bound_mono R S m t h.0, are_bound_mono R S m ts h.1)

-- what is closed in a set x that is closed in l is closed in l
pub closed_through : (R : Pair → Pair → Type 0) (l x : List ℕ) → IsClosed R l x → (ts : Forest) →
    ((d : ℕ) → IsTrue (has (leaves_of ts) d) → IsTrue (has x d)) → AreClosed R x ts → AreClosed R l ts
closed_through R l x h no_tree sub c = tt
closed_through R l x h (tree_and t ts) sub c = (
  λ a b d i j k n. elim (cases_Bool (has x d)) [
    | inl y ↦ c.0 a b d i j y n
    | inr y ↦ h a b d (sub a (has_append_left (leaves t) (leaves_of ts) a i)) (sub b (has_append_left (leaves t) (leaves_of ts) b j)) k y
  ],
  closed_through R l x h ts (λ d k. sub d (has_append_right (leaves t) (leaves_of ts) d k)) c.1,
)

-- the columns of a child that stands in a line are closed
pub line_closed : (R : Pair → Pair → Type 0) → IsPairEq R → (ts : Forest) → IsInLine R ts → AreClosed R (leaves_of ts) ts
line_closed R eq no_tree h = tt
line_closed R eq (tree_and t ts) h = (
  λ a b d i j k n. elim (has_append_cases (leaves t) (leaves_of ts) d k) [
    | inl y ↦ absurd (both_ways (has (leaves t) d) n y)
    | inr y ↦ h (pair a d) (pair b d) (inl (i, y)) (inl (j, y))
  ],
  closed_through R (leaves t ++ leaves_of ts) (leaves_of ts)
      (λ a b d i j k n. elim (has_append_cases (leaves t) (leaves_of ts) d k) [
        | inl y ↦ eq.flip (pair d a) (pair d b) (h (pair d a) (pair d b) (inl (y, i)) (inl (y, j)))
        | inr y ↦ absurd (both_ways (has (leaves_of ts) d) n y)
      ])
      ts (λ d k. k) (line_closed R eq ts (λ v w i j. h v w (inr i) (inr j))),
)

module _ (R : Pair → Pair → Type 0) (eq : IsPairEq R) (l : List ℕ) where
  mutual
    -- each node of a bound tree is closed in what the tree is closed in
    pub node_closed : (t : Outline) → IsClosed R l (leaves t) → IsBound R t → (x : Outline) → IsNode x t → IsClosed R l (leaves x)
    node_closed (leaf a) c b x n = subst (λ y. IsClosed R l (leaves y)) (sym n) c
    node_closed (p_node ts) c b x n =
        elim n [
          | inl e ↦ subst (λ y. IsClosed R l (leaves y)) (sym e) c
          | inr k ↦ nodes_closed ts (closed_through R l (leaves_of ts) c ts (λ d h. h) b.0) b.1 x k
        ]
    node_closed (q_node ts) c b x n =
        elim n [
          | inl e ↦ subst (λ y. IsClosed R l (leaves y)) (sym e) c
          | inr k ↦ nodes_closed ts (closed_through R l (leaves_of ts) c ts (λ d h. h) (line_closed R eq ts b.0)) b.1 x k
        ]

    pub nodes_closed : (ts : Forest) → AreClosed R l ts → AreBound R ts → (x : Outline) → IsNodeOf x ts → IsClosed R l (leaves x)
    nodes_closed no_tree c b x n = absurd n
    nodes_closed (tree_and t ts) c b x n =
        elim n [
          | inl k ↦ node_closed t c.0 b.0 x k
          | inr k ↦ nodes_closed ts c.1 b.1 x k
        ]

mutual
  pub node_in_line : (R : Pair → Pair → Type 0) (t : Outline) → IsBound R t → (us : Forest) → IsNode (q_node us) t → IsInLine R us
  node_in_line R (leaf a) b us n = cc
  node_in_line R (p_node ts) b us n = elim n [ inl e ↦ cc | inr k ↦ nodes_in_line R ts b.1 us k ]
  node_in_line R (q_node ts) b us n =
      elim n [
        | inl e ↦ let f : us ≡ ts = cc in subst (IsInLine R) (sym f) b.0
        | inr k ↦ nodes_in_line R ts b.1 us k
      ]

  pub nodes_in_line : (R : Pair → Pair → Type 0) (ts : Forest) → AreBound R ts → (us : Forest) → IsNodeOf (q_node us) ts → IsInLine R us
  nodes_in_line R no_tree b us n = absurd n
  nodes_in_line R (tree_and t ts) b us n =
      elim n [ inl k ↦ node_in_line R t b.0 us k | inr k ↦ nodes_in_line R ts b.1 us k ]
