-- Trees at nodes: they exist, they are the only ones, and they stay where their cells stay.
use Rattle.std.proofs.Common.{◌≡◌, ◌≢◌, inl, inr, ℕ, ◌≤◌, List, [], ◌∷◌, Option, Some, None, refl, sym, ap, subst, ◌∙◌, arith}
use Rattle.std.proofs.lemmas.Bool.{cases_eq, cases_lt}
use Rattle.arena_model.proofs.Lists.{occurs_here, occurs_other}
use Rattle.arena_model.proofs.Paths.{above_step}
use Rattle.arena_model.proofs.Slots.{some_none, child_used}
use Rattle.arena_model.specs.Layout.{Slot, Layout, slot, shape_at, children_at, IsGrounded, grounded, IsAtOrAbove, here, down, IsLayout, IsInUse}
use Rattle.arena_model.specs.NamedTree.{NamedTree, NamedTrees, named_tree, no_named, named_and, top_name, top_names, IsAt, AreAt, node_names, node_names_of}
use Rattle.column_order.proofs.Lists.{occurs-append}
use Rattle.column_order.specs.Orders.{occurs}

-- a tree stays where its cells stay
mutual
  pub at_same : (slots slots' : List Slot) (t : NamedTree) → ((x : ℕ) → 1 ≤ occurs (node_names t) x → slot slots' x ≡ slot slots x) → IsAt slots t → IsAt slots' t
  at_same slots slots' (named_tree n s ts) same h =
      (same n (occurs_here n (node_names_of ts)) ∙ h.0, all_same slots slots' ts (λ x o. same x (omega arith)) h.1)

  pub all_same : (slots slots' : List Slot) (ts : NamedTrees) → ((x : ℕ) → 1 ≤ occurs (node_names_of ts) x → slot slots' x ≡ slot slots x) → AreAt slots ts → AreAt slots' ts
  all_same slots slots' no_named same h = tt
  all_same slots slots' (named_and t ts) same h = (
    at_same slots slots' t (λ x o. same x (omega (arith, occurs-append (node_names t) (node_names_of ts) x))) h.0,
    all_same slots slots' ts (λ x o. same x (omega (arith, occurs-append (node_names t) (node_names_of ts) x))) h.1,
  )

-- there is a tree at each node in use
pub record TreeAt (f : Layout) (n : ℕ) : Type 0 where
  pub it : NamedTree
  pub is : IsAt f.slots it
  pub named : top_name it ≡ n

pub record TreesAt (f : Layout) (ks : List ℕ) : Type 0 where
  pub them : NamedTrees
  pub are : AreAt f.slots them
  pub called : top_names them ≡ ks

pub some_of : {A : Type 0} (o : Option A) → o ≢ None → (x : A) × (o ≡ Some x)
some_of None h = absurd (h refl)
some_of (Some x) h = (x, refl)

all_at : (f : Layout) (ks : List ℕ) → ((k : ℕ) → 1 ≤ occurs ks k → TreeAt f k) → TreesAt f ks
all_at f [] h = record { them = no_named; are = tt; called = refl }
all_at f (k ∷ ks) h =
    let t : TreeAt f k = h k (occurs_here k ks) in
    let r : TreesAt f ks = all_at f ks (λ x o. h x (omega arith)) in
    record { them = named_and t.it r.them; are = (t.is, r.are); called = ap (λ x. x ∷ top_names r.them) t.named ∙ ap (λ xs. k ∷ xs) r.called }

tree_of : (f : Layout) (n : ℕ) → IsLayout f → IsGrounded f.slots n → IsInUse f n → TreeAt f n
tree_of f _ h (grounded n below) used =
    let r : TreesAt f (children_at f n) = all_at f (children_at f n)
    (λ k o. tree_of f k h (below k o) (child_used f n k h o)) in
    let s = some_of (shape_at f n) used in
    record {
      it = named_tree n s.0 r.them;
      is = (
        ap (λ z. let c : Slot = record { shape = z; children = children_at f n } in c) s.1
            ∙ ap (λ z. let c : Slot = record { shape = Some s.0; children = z } in c) (sym r.called),
        r.are,
      );
      named = refl;
    }

pub tree_at : (f : Layout) (n : ℕ) → IsLayout f → IsInUse f n → TreeAt f n
tree_at f n h used = tree_of f n h (h.grounds n) used

-- each name is reached from the top
mutual
  pub reached : (slots : List Slot) (t : NamedTree) (x : ℕ) → IsAt slots t → 1 ≤ occurs (node_names t) x → IsAtOrAbove slots (top_name t) x
  reached slots (named_tree n s ts) x h o = elim (cases_eq x n) [
    | inl e ↦ subst (λ z. IsAtOrAbove slots n z) (sym e) (here n)
    | inr ne ↦ let r = reached_in slots ts x h.1 (subst (λ k. 1 ≤ k) (occurs_other n x (node_names_of ts) ne) o) in
        down n r.0 x (subst (λ c. 1 ≤ occurs c.children r.0) (sym h.0) r.1) r.2
  ]

  pub reached_in : (slots : List Slot) (ts : NamedTrees) (x : ℕ) → AreAt slots ts → 1 ≤ occurs (node_names_of ts) x →
      (k : ℕ) × (1 ≤ occurs (top_names ts) k) × IsAtOrAbove slots k x
  reached_in slots no_named x h o = absurd (omega arith)
  reached_in slots (named_and t ts) x h o = elim (cases_lt 0 (occurs (node_names t) x)) [
    | inl l ↦ (top_name t, occurs_here (top_name t) (top_names ts), reached slots t x h.0 l)
    | inr l ↦ let r = reached_in slots ts x h.1 (omega (arith, occurs-append (node_names t) (node_names_of ts) x)) in (r.0, omega (arith, r.1), r.2)
  ]

-- each name is in use
mutual
  pub name_used : (f : Layout) (t : NamedTree) (x : ℕ) → IsAt f.slots t → 1 ≤ occurs (node_names t) x → IsInUse f x
  name_used f (named_tree n s ts) x h o = elim (cases_eq x n) [
    | inl e ↦ λ q. some_none s (sym (ap (λ c. c.shape) h.0) ∙ subst (λ z. shape_at f z ≡ None) e q)
    | inr ne ↦ names_used f ts x h.1 (subst (λ k. 1 ≤ k) (occurs_other n x (node_names_of ts) ne) o)
  ]

  pub names_used : (f : Layout) (ts : NamedTrees) (x : ℕ) → AreAt f.slots ts → 1 ≤ occurs (node_names_of ts) x → IsInUse f x
  names_used f no_named x h o = absurd (omega arith)
  names_used f (named_and t ts) x h o = elim (cases_lt 0 (occurs (node_names t) x)) [
    | inl l ↦ name_used f t x h.0 l
    | inr l ↦ names_used f ts x h.1 (omega (arith, occurs-append (node_names t) (node_names_of ts) x))
  ]

-- no node is below one of its children
pub no_circle : (slots : List Slot) (n k : ℕ) → IsGrounded slots n → 1 ≤ occurs (slot slots n).children k → IsAtOrAbove slots k n → ⊥
no_circle slots _ k (grounded n below) o l = turn k n o l (below k o)
  where
    -- a circle through k is one through the next node too
    turn : (k n : ℕ) → 1 ≤ occurs (slot slots n).children k → IsAtOrAbove slots k n → IsGrounded slots k → ⊥
    turn _ _ o (here k) (grounded k' b) = turn k k o (here k) (b k o)
    turn _ _ o (down k j n oj lj) (grounded k' b) = turn j k oj (above_step slots j n k lj o) (b j oj)
