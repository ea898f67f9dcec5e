-- Two parts, one of a P-node beside the other: what the row is.
use Rattle.std.proofs.Common.{Bool, List, [], ap, append_assoc, arith, false, inl, inr, length, refl, subst, sym, ℕ, ◌++◌, ◌+◌, ◌∙◌, ◌∷◌, ◌≡◌, ◌≤◌, ◌⊎◌}
use Rattle.std.proofs.lemmas.Bool.{cases_eq}
use Rattle.column_order.specs.Orders.{occurs}
use Rattle.column_order.proofs.Lists.{occurs-append}
use Rattle.arena_model.specs.Layout.{IsAtOrAbove, IsLayout, Layout, children_at}
use Rattle.arena_model.proofs.Slots.{child_at}
use Rattle.full_pass.specs.declared.tallies.Tally.{Tally}
use Rattle.full_pass.specs.Answer.{AreLeaves, IsBesideRun, IsFilledPart, IsFullNode}
use Rattle.full_pass.specs.Passing.{ArePartsLeft, HasPart, IsEndOfRun, Pass, runs, total}
use Rattle.full_pass.specs.Tallies.{chained, first_in, full_in, hits_in, next_in}
use Rattle.full_pass.proofs.Closing.{has_part}
use Rattle.full_pass.proofs.Ends.{AreMarked, Topmost, chain_marked, filled_part, marked_member, none_below_part, row_topmost}
use Rattle.full_pass.proofs.Marks.{OneRun, one_run_of}
use Rattle.full_pass.proofs.RunEnds.{stands_at_run, run_has_part}
use Rattle.full_pass.proofs.Shapes.{shapes_apart}
use Rattle.full_pass.proofs.Sums.{total_three, total_two}

-- no other node has a part
no_third : {f : Layout} {row : List ℕ} {l : ℕ → Bool} {h : ℕ → ℕ} {p t : ℕ} → IsLayout f → Pass f row l h [] 2 → (e : IsEndOfRun f l p t) →
    (m : ℕ) → HasPart f l [] m → (m ≡ p) ⊎ (m ≡ e.q)
no_third {f = f} {row = row} {l = l} {h = h} {p = p} {t = t} layout pass e m part = elim (cases_eq m p) [
  | inl i ↦ inl i
  | inr np ↦ elim (cases_eq m e.q) [
    | inl i ↦ inr i
    | inr nq ↦ absurd (
        let a = has_part f row l h [] 2 layout pass p e.ring.part in
        let b = has_part f row l h [] 2 layout pass e.q (run_has_part pass e) in
        let c = has_part f row l h [] 2 layout pass m part in
        let a1 : 1 ≤ pass.parts p = a.0 in let b1 : 1 ≤ pass.parts e.q = b.0 in let c1 : 1 ≤ pass.parts m = c.0 in
        let s : pass.parts p + (pass.parts e.q + pass.parts m) ≤ total pass.parts (length f.slots) =
        total_three pass.parts p e.q m (length f.slots) (shapes_apart f p e.q e.ring.is_p e.is_q) (λ i. np (sym i)) (λ i. nq (sym i)) a.1 b.1 c.1 in
        let n : length {A = ℕ} [] + total pass.parts (length f.slots) ≤ 2 = pass.sum in
        omega arith)
  ]
]

-- the labelled children of the Q-node stand side by side
one_run_left : {f : Layout} {row : List ℕ} {l : ℕ → Bool} {h : ℕ → ℕ} {p t : ℕ} → IsLayout f → Pass f row l h [] 2 → (e : IsEndOfRun f l p t) → OneRun l (children_at f e.q)
one_run_left {f = f} {row = row} {l = l} {h = h} {p = p} {t = t} layout pass e =
    let part : HasPart f l [] e.q = run_has_part pass e in
    let a = has_part f row l h [] 2 layout pass p e.ring.part in
    let b = has_part f row l h [] 2 layout pass e.q part in
    let a1 : 1 ≤ pass.parts p = a.0 in
    let s : pass.parts p + pass.parts e.q ≤ total pass.parts (length f.slots) = total_two pass.parts p e.q (length f.slots) (shapes_apart f p e.q e.ring.is_p e.is_q) a.1 b.1 in
    let n : length {A = ℕ} [] + total pass.parts (length f.slots) ≤ 2 = pass.sum in
    let few : runs l false (children_at f e.q) ≤ pass.parts e.q = pass.q_parts e.q e.is_q part.not_full part.not_waiting in
    one_run_of l (children_at f e.q) (omega arith)

-- what is below p and below the run beside it is the row
beside_run : {f : Layout} {row : List ℕ} {l : ℕ → Bool} {h : ℕ → ℕ} {p t : ℕ} (members : List ℕ) → IsLayout f → AreLeaves f row → Pass f row l h [] 2 →
    (e : IsEndOfRun f l p t) → AreMarked f l h p members → IsBesideRun f row p t members
beside_run {f = f} {row = row} {l = l} {h = h} {p = p} {t = t} members layout leaves pass e marked =
    let run : OneRun l (children_at f e.q) = one_run_left layout pass e in
    let at = stands_at_run layout e e.q refl run in
    let inside : (k : ℕ) → 1 ≤ occurs run.rs k → IsFullNode f row k = (λ k o. pass.labels.filled k (run.inside k o)) in
    let part : IsFilledPart f row p members = filled_part f row l h 2 p members layout pass e.ring e.few marked (none_below_part f l p layout
    (λ m has. elim (no_third layout pass e m has) [ inl i ↦ inl i | inr i ↦ inr (subst (λ z. 1 ≤ occurs (children_at f z) p) (sym i) (child_at f e.q p e.us e.vs e.place)) ])) in
    let covers : (x : ℕ) → 1 ≤ occurs row x → (k : ℕ) × (1 ≤ occurs (members ++ run.rs) k) × IsAtOrAbove f.slots k x = (λ x o.
    let u : Topmost f l f.root x = row_topmost f row l h 2 x leaves pass o in
    let sum : occurs (members ++ run.rs) u.part.child ≡ occurs members u.part.child + occurs run.rs u.part.child = occurs-append members run.rs u.part.child in (
      u.part.child,
      elim (no_third layout pass e u.m u.part) [
        | inl i ↦ let j : 1 ≤ occurs members u.part.child = marked_member f l h p u.part.child members marked u.part.labelled (subst (λ z. 1 ≤ occurs (children_at f z) u.part.child) i u.part.is_child) in omega arith
        | inr i ↦ let j : 1 ≤ occurs run.rs u.part.child = run.all u.part.child (subst (λ z. 1 ≤ occurs (children_at f z) u.part.child) i u.part.is_child) u.part.labelled in omega arith
      ],
      u.leads,
    )) in
    elim at.1 [
      | inl b ↦ record {
        part = part;
        q = e.q;
        us = b.rest;
        ks = run.rs;
        vs = run.vs;
        is_q = e.is_q;
        some = at.0;
        place = inl (run.is ∙ ap (λ z. z ++ (run.rs ++ run.vs)) b.is ∙ append_assoc b.rest (p ∷ []) (run.rs ++ run.vs), b.beside, b.some);
        filled = inside;
        covers = covers;
      }
      | inr b ↦ record {
        part = part;
        q = e.q;
        us = run.us;
        ks = run.rs;
        vs = b.rest;
        is_q = e.is_q;
        some = at.0;
        place = inr (run.is ∙ ap (λ z. run.us ++ (run.rs ++ z)) b.is, b.beside, b.some);
        filled = inside;
        covers = covers;
      }
    ]

-- the members are those that the tallies list
pub found_beside : (f : Layout) (row labels : List ℕ) (tallies : List Tally) (stamp p t : ℕ) → IsLayout f → AreLeaves f row → ArePartsLeft f row labels tallies stamp 2 →
    IsEndOfRun f (full_in labels stamp) p t → IsBesideRun f row p t (chained (hits_in tallies stamp p) (next_in tallies) (first_in tallies p))
found_beside f row labels tallies stamp p t layout leaves left e =
    beside_run (chained (hits_in tallies stamp p) (next_in tallies) (first_in tallies p)) layout leaves left.pass e
    (chain_marked f (full_in labels stamp) (hits_in tallies stamp) (first_in tallies) (next_in tallies) p e.ring.is_p left.counted.chains)
