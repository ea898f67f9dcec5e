-- What the link of a node tells of the node above it.
use Rattle.std.proofs.Common.{◌≡◌, ◌≢◌, ◌⊎◌, inl, inr, ℕ, ◌≤◌, ◌<◌, true, false, cond, eqb, ◌||◌, List, length, Some, refl, sym, ap, subst, ◌∙◌, arith, eq-eqb}
use Rattle.arena_model.specs.declared.TheConstants.{NODE_BOUND}
use Rattle.std.proofs.lemmas.Bool.{cases_lt}
use Rattle.column_order.specs.Orders.{occurs}
use Rattle.arena_model.specs.declared.Shape.TheVariants.{P, Q}
use Rattle.arena_model.specs.ChildLists.{none, head_or, last_or, end_parent}
use Rattle.arena_model.specs.Layout.{Layout, shape_at, children_at, times_child, IsChildOfP}
use Rattle.arena_model.proofs.Lists.{SplitAt, split_at}
use Rattle.arena_model.proofs.Slots.{in_range, used_by, few_slots, placed_in}
use Rattle.pq_arena.specs.declared.node.Link.{Link}
use Rattle.pq_arena.specs.declared.node.Head.{Head}
use Rattle.pq_arena.specs.StandsFor.{IsInRun, StandsFor}
use Rattle.pq_arena.specs.Wiring.{link, no_link}
use Rattle.pq_arena.proofs.Look.{ring_seat, run_seat}
use Rattle.pq_arena.proofs.ReplaceCall.{has_children}
use Rattle.pq_arena.proofs.SpliceAt.{end_parent_cases}

module _ (ls : List Link) (hs : List Head) (root spare count columns : ℕ) (f : Layout) (h : StandsFor ls hs root spare count columns f) where
  -- a P-node or Q-node has a number of its own
  real : (m : ℕ) (s : _) → shape_at f m ≡ Some s → m ≢ none
  real m s e q = let lt : m < length f.slots = in_range f m (used_by f m s e) in let fw : length f.slots ≤ NODE_BOUND = few_slots f h.layout in omega arith

  -- the parent that a child holds: the node above it, or none within a run
  held : (m n : ℕ) → 1 ≤ occurs (children_at f m) n → ((shape_at f m ≡ Some P) × ((link ls n).parent ≡ m)) ⊎ ((shape_at f m ≡ Some Q) × (((link ls n).parent ≡ m) ⊎ ((link ls n).parent ≡ none)))
  held m n o =
      let s : SplitAt (children_at f m) n = split_at (children_at f m) n o in
      elim (has_children (shape_at f m) (children_at f m) n (h.layout.children_fit m) o) [
        | inl sh ↦ inl (sh, ap (λ (l : Link). l.parent) (ring_seat ls hs root spare count columns f m n s.us s.vs h sh s.is))
        | inr sh ↦ inr (sh, run_parent m n s.us s.vs (run_seat ls hs root spare count columns f m n s.us s.vs h sh s.is))
      ]
    where
      run_parent : (m n : ℕ) (us vs : List ℕ) → IsInRun ls m n (last_or us none) (head_or vs none) → ((link ls n).parent ≡ m) ⊎ ((link ls n).parent ≡ none)
      run_parent m n us vs r =
          let e : (link ls n).parent ≡ end_parent m (last_or us none) (head_or vs none) = elim r [ inl e ↦ ap (λ (l : Link). l.parent) e | inr e ↦ ap (λ (l : Link). l.parent) e ] in
          elim (end_parent_cases m (last_or us none) (head_or vs none)) [ inl q ↦ inl (e ∙ q) | inr q ↦ inr (e ∙ q) ]

  -- a child has a parent or a neighbour
  child_linked_to : (m n : ℕ) → 1 ≤ occurs (children_at f m) n → link ls n ≢ no_link
  child_linked_to m n o e =
      let s : SplitAt (children_at f m) n = split_at (children_at f m) n o in
      elim (has_children (shape_at f m) (children_at f m) n (h.layout.children_fit m) o) [
        | inl sh ↦ real m P sh (sym (ap (λ (l : Link). l.parent) (ring_seat ls hs root spare count columns f m n s.us s.vs h sh s.is)) ∙ ap (λ (l : Link). l.parent) e)
        | inr sh ↦ elim (run_seat ls hs root spare count columns f m n s.us s.vs h sh s.is) [
          | inl r ↦ alone m Q sh (last_or s.us none) (head_or s.vs none) (sym (ap (λ (l : Link). l.near0) r) ∙ ap (λ (l : Link). l.near0) e) (sym (ap (λ (l : Link). l.parent) r) ∙ ap (λ (l : Link). l.parent) e)
          | inr r ↦ alone m Q sh (last_or s.us none) (head_or s.vs none) (sym (ap (λ (l : Link). l.near1) r) ∙ ap (λ (l : Link). l.near1) e) (sym (ap (λ (l : Link). l.parent) r) ∙ ap (λ (l : Link). l.parent) e)
        ]
      ]
    where
      alone : (m : ℕ) (s : _) → shape_at f m ≡ Some s → (b a : ℕ) → b ≡ none → end_parent m b a ≡ none → ⊥
      alone m s sh b a e q = real m s sh (sym (ap (λ t. cond t m none) (or_first (eqb b none) (eqb a none) (eq-eqb b none e))) ∙ q)
        where
          or_first : (x y : _) → x ≡ true → (x || y) ≡ true
          or_first true y e = refl
          or_first false y e = absurd (cc)

  pub unlinked : (n : ℕ) → link ls n ≡ no_link → times_child f.slots n ≡ 0
  unlinked n e = elim (cases_lt 0 (times_child f.slots n)) [
    | inl l ↦ absurd (let r = placed_in f.slots n l in child_linked_to r.0 n r.1 e)
    | inr l ↦ omega arith
  ]

  -- a P-node that is held as the parent is the node above
  pub parent_above : (n p : ℕ) → (link ls n).parent ≡ p → shape_at f p ≡ Some P → 1 ≤ occurs (children_at f p) n
  parent_above n p e sh = elim (cases_lt 0 (times_child f.slots n)) [
    | inl l ↦ let r = placed_in f.slots n l in elim (held r.0 n r.1) [
      | inl k ↦ subst (λ z. 1 ≤ occurs (children_at f z) n) (sym k.1 ∙ e) r.1
      | inr k ↦ elim k.1 [
        | inl q ↦ subst (λ z. 1 ≤ occurs (children_at f z) n) (sym q ∙ e) r.1
        | inr q ↦ absurd (real p P sh (sym e ∙ q))
      ]
    ]
    | inr l ↦ absurd (real p P sh (sym e ∙ ap (λ (l : Link). l.parent) (h.tops n (omega arith))))
  ]

  -- a child of a P-node holds it
  pub above_parent : (n : ℕ) → (r : IsChildOfP f n) → (link ls n).parent ≡ r.0
  above_parent n r = elim (held r.0 n r.2) [
    | inl k ↦ k.1
    | inr k ↦ absurd (p_q (sym r.1 ∙ k.0))
  ]
    where
      p_q : Some P ≡ Some Q → ⊥
      p_q e = cc
