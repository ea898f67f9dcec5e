-- The conditions of the calls, from what a look at a node shows.
use Rattle.std.proofs.Common.{◌≡◌, ◌≢◌, ◌⊎◌, inl, inr, ℕ, ◌≤◌, ◌<◌, cond, List, [], ◌∷◌, length, Option, Some, None, refl, sym, ap, subst, ◌∙◌, arith, ne_eqb, get_or}
use Rattle.std.proofs.lemmas.Bool.{cases_lt}
use Rattle.column_order.specs.Orders.{occurs}
use Rattle.arena_model.specs.declared.Shape.{Shape}
use Rattle.arena_model.specs.declared.Shape.TheVariants.{Leaf, P, Q}
use Rattle.arena_model.specs.ChildLists.{none, head_or, last_or}
use Rattle.arena_model.specs.Layout.{Layout, shape_at, children_at, times_child, IsInUse, IsLayout, IsChildOfP, IsAtOrAbove, here, down, IsSpliceAt, MayHaveChildren}
use Rattle.arena_model.proofs.Lists.{occurs_here, split_at}
use Rattle.arena_model.proofs.Slots.{in_range, few_slots, children_times, placed_in, used_by}
use Rattle.pq_arena.specs.declared.node.NodeId.{NodeId}
use Rattle.pq_arena.specs.declared.node.NodeView.{NodeView}
use Rattle.pq_arena.specs.Looks.{node_named, shown_ends, ShowsNode, IsBeside}

-- a node without children is above itself alone
pub childless_alone : (f : Layout) (n x : ℕ) → children_at f n ≡ [] → IsAtOrAbove f.slots n x → n ≡ x
childless_alone f _ _ e (here n) = refl
childless_alone f _ _ e (down n k x o l) =
    absurd (let o' : 1 ≤ occurs [] k = subst (λ z. 1 ≤ occurs z k) e o in omega arith)

-- no child has the number that names no node
pub child_named : (f : Layout) (n x : ℕ) → IsLayout f → 1 ≤ occurs (children_at f n) x → x ≢ none
child_named f n x h o e =
    let t : 1 ≤ times_child f.slots x = omega (arith, children_times f n x) in
    let lt : x < length f.slots = in_range f x (h.used x t) in
    let few : length f.slots ≤ 65540 = few_slots f h in
    omega arith

-- a number that is not the one of no node names a node
pub named_some : (x : ℕ) → x ≢ none → node_named x ≢ None
named_some x ne e =
    let s : node_named x ≡ Some (record { index = x }) = ap (λ b. cond {A = Option NodeId} b None (Some (record { index = x }))) (ne_eqb x none ne) in
    cc

-- where no first child is shown, there is none
no_first : (ks : List ℕ) → ((x : ℕ) → 1 ≤ occurs ks x → x ≢ none) → node_named (head_or ks none) ≡ None → ks ≡ []
no_first [] real e = refl
no_first (x ∷ xs) real e = absurd (named_some x (real x (occurs_here x xs)) e)

pub no_children : (f : Layout) (n : ℕ) → IsLayout f → node_named (head_or (children_at f n) none) ≡ None → children_at f n ≡ []
no_children f n h e = no_first (children_at f n) (λ x o. child_named f n x h o) e

-- a list of no length is empty
pub empty_list : (ks : List ℕ) → length ks ≡ 0 → ks ≡ []
empty_list [] e = refl
empty_list (x ∷ xs) e = absurd (omega arith)

-- where the two end children differ, there are two
pub two_ends : (ks : List ℕ) → node_named (head_or ks none) ≢ node_named (last_or ks none) → 2 ≤ length ks
two_ends [] ne = absurd (ne refl)
two_ends (x ∷ []) ne = absurd (ne refl)
two_ends (x ∷ y ∷ xs) ne = omega arith

-- nothing stands in an empty list
not_there : (ks : List ℕ) (x : ℕ) → ks ≡ [] → 1 ≤ occurs ks x → ⊥
not_there ks x e o = let z : 1 ≤ occurs [] x = subst (λ w. 1 ≤ occurs w x) e o in omega arith

-- the node above, a Q-node
pub record LineAbove (f : Layout) (n : ℕ) : Type 0 where
  pub q : ℕ
  pub is_q : shape_at f q ≡ Some Q
  pub child : 1 ≤ occurs (children_at f q) n

line_from : (f : Layout) (n q : ℕ) (s : Option Shape) → shape_at f q ≡ s → MayHaveChildren s (children_at f q) → 1 ≤ occurs (children_at f q) n →
    (IsChildOfP f n → ⊥) → LineAbove f n
line_from f n q None e may o not_p = absurd (not_there (children_at f q) n may o)
line_from f n q (Some (Leaf a)) e may o not_p = absurd (not_there (children_at f q) n may o)
line_from f n q (Some P) e may o not_p = absurd (not_p (q, e, o))
line_from f n q (Some Q) e may o not_p = record { q = q; is_q = e; child = o }

-- a child of no P-node is a child of a Q-node
line_above : (f : Layout) (n : ℕ) → IsLayout f → 1 ≤ times_child f.slots n → (IsChildOfP f n → ⊥) → LineAbove f n
line_above f n h t not_p =
    let m = placed_in f.slots n t in
    line_from f n m.0 (shape_at f m.0) refl (h.children_fit m.0) m.1 not_p

-- a view of a Q-node without a first end shows that it has no children
pub bare_run : (f : Layout) (n : ℕ) (view : NodeView) → IsLayout f → ShowsNode f n view → view.shape ≡ Q → get_or view.ends 0 None ≡ None → children_at f n ≡ []
bare_run f n view h s q e =
    let first : get_or view.ends 0 None ≡ node_named (head_or (children_at f n) none) =
    ap (λ (es : List (Option NodeId)). get_or es 0 None) s.ends ∙ ap (λ (z : Shape). get_or (shown_ends z (children_at f n)) 0 None) q in
    no_children f n h (sym first ∙ e)

-- a view of a Q-node with two ends shows that it has two children
two_shown : (f : Layout) (n : ℕ) (view : NodeView) → ShowsNode f n view → view.shape ≡ Q → get_or view.ends 0 None ≢ get_or view.ends 1 None → 2 ≤ length (children_at f n)
two_shown f n view s q ne =
    let first : get_or view.ends 0 None ≡ node_named (head_or (children_at f n) none) =
    ap (λ (es : List (Option NodeId)). get_or es 0 None) s.ends ∙ ap (λ (z : Shape). get_or (shown_ends z (children_at f n)) 0 None) q in
    let last : get_or view.ends 1 None ≡ node_named (last_or (children_at f n) none) =
    ap (λ (es : List (Option NodeId)). get_or es 1 None) s.ends ∙ ap (λ (z : Shape). get_or (shown_ends z (children_at f n)) 1 None) q in
    two_ends (children_at f n) (λ e. ne (first ∙ e ∙ sym last))

-- the one of two neighbours
one_near : (ns : List (Option NodeId)) (a b near : Option NodeId) → ns ≡ a ∷ b ∷ [] → (near ≡ get_or ns 0 None) ⊎ (near ≡ get_or ns 1 None) → (near ≡ a) ⊎ (near ≡ b)
one_near ns a b near e h = elim h [
  | inl w ↦ inl (w ∙ ap (λ (z : List (Option NodeId)). get_or z 0 None) e)
  | inr w ↦ inr (w ∙ ap (λ (z : List (Option NodeId)). get_or z 1 None) e)
]

turned : {A B : Type 0} → A ⊎ B → B ⊎ A
turned (inl a) = inr a
turned (inr b) = inl b

-- what a splice asks for
abbrev pub IsPlace : Layout → ℕ → Option NodeId → Type 0
IsPlace f n near = (q : ℕ) × (us : List ℕ) × (vs : List ℕ) × IsSpliceAt f q n us vs × IsBeside near us vs

-- a Q-node with two ends that is no top and no child of a P-node can be spliced beside each neighbour that is shown
pub splice_place : (f : Layout) (n : ℕ) (view : NodeView) (near : Option NodeId) → IsLayout f → ShowsNode f n view →
    (IsInUse f n × (times_child f.slots n ≡ 0) → ⊥) → (IsChildOfP f n → ⊥) → view.shape ≡ Q → get_or view.ends 0 None ≢ get_or view.ends 1 None →
    (near ≡ get_or view.near 0 None) ⊎ (near ≡ get_or view.near 1 None) → IsPlace f n near
splice_place f n view near h s not_top not_p q ne beside =
    let used : IsInUse f n = used_by f n view.shape s.shape_is in
    let t : 1 ≤ times_child f.slots n = elim (cases_lt 0 (times_child f.slots n)) [ inl l ↦ omega arith | inr l ↦ absurd (not_top (used, omega arith)) ] in
    let line = line_above f n h t not_p in
    let cut = split_at (children_at f line.q) n line.child in
    let run = s.run line.q cut.us cut.vs line.is_q cut.is in
    let us = cut.us in
    let vs = cut.vs in (
      line.q,
      us,
      vs,
      record {
        q_shape = line.is_q;
        child_shape = s.shape_is ∙ ap (λ (z : Shape). Some z) q;
        at = cut.is;
        some = two_shown f n view s q ne;
      },
      elim run.1 [
        | inl e ↦ one_near view.near (node_named (last_or us none)) (node_named (head_or vs none)) near e beside
        | inr e ↦ turned (one_near view.near (node_named (head_or vs none)) (node_named (last_or us none)) near e beside)
      ],
    )
