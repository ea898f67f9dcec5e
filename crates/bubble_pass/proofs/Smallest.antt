-- The smallest node that holds the row is no Q-node of which only inner children meet it.
use Rattle.std.proofs.Common.{◌≡◌, ◌≢◌, inl, inr, ℕ, ◌≤◌, List, [], ◌∷◌, ◌++◌, length, sym, ap, subst, ◌∙◌, arith}
use Rattle.std.proofs.lemmas.Bool.{cases_eq, cases_lt}
use Rattle.std.proofs.lemmas.List.{append_assoc, length-append}
use Rattle.column_order.specs.Orders.{occurs}
use Rattle.arena_model.specs.Layout.{Layout, children_at, times_child, IsLayout}
use Rattle.column_order.proofs.Lists.{occurs-append}
use Rattle.arena_model.proofs.Lists.{occurs_here, SplitAt, split_at}
use Rattle.arena_model.proofs.Slots.{children_times}
use Rattle.arena_model.proofs.Paths.{one_path}
use Rattle.bubble_pass.specs.declared.climber.Stage.TheVariants.{Placed}
use Rattle.bubble_pass.specs.declared.climber.Climber.{Climber}
use Rattle.bubble_pass.specs.declared.chains.Chains.{Chains}
use Rattle.bubble_pass.specs.Climb.{stage, Inner, Entered}
use Rattle.arena_model.specs.RowLeaves.{Holds, Meets}
use Rattle.bubble_pass.specs.Found.{Inside}
use Rattle.bubble_pass.specs.Ends.{AreLeaves}
use Rattle.bubble_pass.specs.Roots.{Descending, IsSmallest}
use Rattle.bubble_pass.proofs.Marks.{seen_by}
use Rattle.bubble_pass.proofs.Opens.{reached_meets, one_child}
use Rattle.bubble_pass.proofs.Fronts.{join_leads}
use Rattle.bubble_pass.proofs.Splits.{FirstStep, first_step}
use Rattle.bubble_pass.proofs.Descents.{through_chain, below_only, bare, other_in}

once : (f : Layout) (q z : ℕ) → IsLayout f → occurs (children_at f q) z ≤ 1
once f q z h = let a : occurs (children_at f q) z ≤ times_child f.slots z = children_times f q z in let b : times_child f.slots z ≤ 1 = h.once z in omega arith

pub inside_kid : (f : Layout) (row : List ℕ) (i : Inside f row) (z : ℕ) → 1 ≤ occurs i.ks z → 1 ≤ occurs (children_at f i.q) z
inside_kid f row i z o = subst (λ k. 1 ≤ occurs k z) (sym i.kids_are) (omega (arith, occurs-append i.us (i.ks ++ i.vs) z, occurs-append i.ks i.vs z))

-- a child in the run is an inner child
inside_inner : (f : Layout) (row : List ℕ) (i : Inside f row) (z : ℕ) → 1 ≤ occurs i.ks z → Inner f z
inside_inner f row i z o =
    let s : SplitAt i.ks z = split_at i.ks z o in
    let e : children_at f i.q ≡ (i.us ++ s.us) ++ z ∷ (s.vs ++ i.vs) = i.kids_are ∙ ap (λ k. i.us ++ (k ++ i.vs)) s.is ∙ ap (λ k. i.us ++ k) (append_assoc s.us (z ∷ s.vs) i.vs) ∙ sym (append_assoc i.us s.us (z ∷ (s.vs ++ i.vs))) in
    record {
      q = i.q;
      us = i.us ++ s.us;
      vs = s.vs ++ i.vs;
      is_q = i.is_q;
      kids_are = e;
      left = let l : 1 ≤ length i.us = i.left in omega (arith, length-append i.us s.us);
      right = let l : 1 ≤ length i.vs = i.right in omega (arith, length-append s.vs i.vs);
    }

-- no child of the node of the run holds the row
pub inside_least : (f : Layout) (row : List ℕ) (c : ℕ) → IsLayout f → (i : Inside f row) → 1 ≤ occurs (children_at f i.q) c → Holds f row c → ⊥
inside_least f row c h i oc hc = by i.ks i.some (λ z o. i.meet z o) (λ z o. inside_kid f row i z o) (λ z. ks_once z)
  where
    ks_once : (z : ℕ) → occurs i.ks z ≤ 1
    ks_once z = let a : occurs (children_at f i.q) z ≤ 1 = once f i.q z h in
        let e : occurs (children_at f i.q) z ≡ occurs (i.us ++ (i.ks ++ i.vs)) z = ap (λ k. occurs k z) i.kids_are in
        omega (arith, occurs-append i.us (i.ks ++ i.vs) z, occurs-append i.ks i.vs z)

    by : (ks : List ℕ) → 2 ≤ length ks → ((z : ℕ) → 1 ≤ occurs ks z → Meets f row z) → ((z : ℕ) → 1 ≤ occurs ks z → 1 ≤ occurs (children_at f i.q) z) → ((z : ℕ) → occurs ks z ≤ 1) → ⊥
    by ks two meet kid once_ks =
        let o = other_in ks c two once_ks in
        let m = meet o.0 o.1 in
        o.2 (one_child f i.q o.0 c m.0 h (kid o.0 o.1) oc m.2 (hc m.0 m.1))

-- the smallest node that holds the row is that of the run
inside_is : (f : Layout) (row : List ℕ) (r : ℕ) → IsLayout f → AreLeaves f row → IsSmallest f row r → (i : Inside f row) → r ≡ i.q
inside_is f row r h w s i = elim (cases_eq r i.q) [
  | inl e ↦ e
  | inr ne ↦ elim (one_path f r i.q w.some.0 h (s.holds w.some.0 w.some.1) (i.holds w.some.0 w.some.1)) [
    | inl l ↦ let t : FirstStep f r i.q = first_step f r i.q l (λ e. ne (sym e)) in absurd (s.least t.c t.kid (λ x o. join_leads f.slots t.c i.q x t.leads (i.holds x o)))
    | inr l ↦ let t : FirstStep f i.q r = first_step f i.q r l ne in absurd (inside_least f row t.c h i t.kid (λ x o. join_leads f.slots t.c r x t.leads (s.holds x o)))
  ]
]

pub not_inside : (f : Layout) (row : List ℕ) (w : Climber) (c : Chains) (top r : ℕ) → IsLayout f → AreLeaves f row → Descending f row w c top r → IsSmallest f row r → Inside f row → ⊥
not_inside f row w c top r h is_row d s i =
    let e : r ≡ i.q = inside_is f row r h is_row s i in
    let x : ℕ = is_row.some.0 in
    let some = first i.ks (let two : 2 ≤ length i.ks = i.some in omega arith) in
    let kid : 1 ≤ occurs (children_at f r) some.0 = subst (λ q. 1 ≤ occurs (children_at f q) some.0) (sym e) (inside_kid f row i some.0 some.1) in
    let xr : x ≢ r = (λ q. bare f row x some.0 h is_row is_row.some.1 (subst (λ v. 1 ≤ occurs (children_at f v) some.0) (sym q) kid)) in
    let z = through_chain f row w c top r x h is_row d is_row.some.1 xr in
    let p = below_only f row w z.0 r d.kept z.1 in
    let n : Entered f w.stages.items p.0.index = d.kept.climb.entered z.0 p.0 p.1 in
    let above = d.kept.climb.above n.node n.over n.placed in
    let nk : 1 ≤ occurs (children_at f i.q) n.node = subst (λ q. 1 ≤ occurs (children_at f q) n.node) (n.under ∙ p.2 ∙ e) above.0 in
    let m = reached_meets f row w.stages.items d.kept.climb n.node (d.kept.climb.reached n.node (seen_by (stage w.stages.items n.node) (Placed n.over) n.placed tt)) in
    let all : occurs (children_at f i.q) n.node ≡ occurs (i.us ++ (i.ks ++ i.vs)) n.node = ap (λ k. occurs k n.node) i.kids_are in
    elim (cases_lt 0 (occurs i.ks n.node)) [
      | inl o ↦ n.outer (inside_inner f row i n.node o)
      | inr o ↦ i.miss n.node (omega (arith, occurs-append i.us (i.ks ++ i.vs) n.node, occurs-append i.ks i.vs n.node)) m
    ]
  where
    first : (xs : List ℕ) → 1 ≤ length xs → (z : ℕ) × (1 ≤ occurs xs z)
    first [] l = absurd (omega arith)
    first (y ∷ ys) l = (y, occurs_here y ys)
