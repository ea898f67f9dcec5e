-- Three parts, two of P-nodes beside the ends of the third: what the row is.
use Rattle.std.proofs.Common.{Bool, List, [], ap, append_assoc, arith, false, inl, inr, length, refl, subst, sym, ℕ, ◌++◌, ◌+◌, ◌∙◌, ◌∷◌, ◌≡◌, ◌≢◌, ◌≤◌, ◌⊎◌}
use Rattle.std.proofs.lemmas.Bool.{cases_eq}
use Rattle.column_order.specs.Orders.{occurs}
use Rattle.column_order.proofs.Lists.{occurs-append}
use Rattle.arena_model.specs.ChildLists.{head_or, last_or, none}
use Rattle.arena_model.specs.Layout.{IsAtOrAbove, IsLayout, Layout, children_at}
use Rattle.arena_model.proofs.Lists.{last_or-append}
use Rattle.arena_model.proofs.Paths.{above_ends, above_step, at_once, by, one_parent}
use Rattle.arena_model.proofs.Slots.{child_at}
use Rattle.arena_model.proofs.Trees.{no_circle}
use Rattle.full_pass.specs.declared.tallies.Tally.{Tally}
use Rattle.full_pass.specs.Answer.{AreLeaves, IsBetween}
use Rattle.full_pass.specs.Passing.{ArePartsLeft, HasPart, IsEndOfRun, Pass, runs, total}
use Rattle.full_pass.specs.Tallies.{chained, first_in, full_in, hits_in, next_in}
use Rattle.full_pass.proofs.Closing.{has_part}
use Rattle.full_pass.proofs.Ends.{AreMarked, NoneBelow, Topmost, chain_marked, filled_part, marked_member, row_topmost}
use Rattle.full_pass.proofs.Marks.{OneRun, one_run_of}
use Rattle.full_pass.proofs.RunEnds.{FirstBehind, LastBefore, stands_at_run, run_has_part}
use Rattle.full_pass.proofs.Shapes.{shapes_apart}
use Rattle.full_pass.proofs.Sums.{total_four, total_three}

-- the P-nodes p and o, beside t and u in Q-nodes, where three parts are left
record TwoEnds (f : Layout) (row : List ℕ) (l : ℕ → Bool) (h : ℕ → ℕ) (p t o u : ℕ) : Type 0 where
  layout : IsLayout f
  leaves : AreLeaves f row
  pass : Pass f row l h [] 3
  first : IsEndOfRun f l p t
  second : IsEndOfRun f l o u
  apart : p ≢ o

-- they have one Q-node
same_run : {f : Layout} {row : List ℕ} {l : ℕ → Bool} {h : ℕ → ℕ} {p t o u : ℕ} → (e : TwoEnds f row l h p t o u) → e.second.q ≡ e.first.q
same_run {f = f} {row = row} {l = l} {h = h} {p = p} {o = o} e = elim (cases_eq e.second.q e.first.q) [
  | inl i ↦ i
  | inr ne ↦ absurd (
      let g : ℕ → ℕ = e.pass.parts in
      let a = has_part f row l h [] 3 e.layout e.pass p e.first.ring.part in
      let b = has_part f row l h [] 3 e.layout e.pass o e.second.ring.part in
      let c = has_part f row l h [] 3 e.layout e.pass e.first.q (run_has_part e.pass e.first) in
      let d = has_part f row l h [] 3 e.layout e.pass e.second.q (run_has_part e.pass e.second) in
      let a1 : 1 ≤ g p = a.0 in let b1 : 1 ≤ g o = b.0 in let c1 : 1 ≤ g e.first.q = c.0 in let d1 : 1 ≤ g e.second.q = d.0 in
      let s : g p + (g o + (g e.first.q + g e.second.q)) ≤ total g (length f.slots) = total_four g p o e.first.q e.second.q (length f.slots)
      (e.apart, shapes_apart f p e.first.q e.first.ring.is_p e.first.is_q, shapes_apart f p e.second.q e.first.ring.is_p e.second.is_q)
      (shapes_apart f o e.first.q e.second.ring.is_p e.first.is_q) (shapes_apart f o e.second.q e.second.ring.is_p e.second.is_q) (λ i. ne (sym i)) a.1 b.1 c.1 d.1 in
      let n : length {A = ℕ} [] + total g (length f.slots) ≤ 3 = e.pass.sum in
      omega arith)
]

-- no other node has a part
no_fourth : {f : Layout} {row : List ℕ} {l : ℕ → Bool} {h : ℕ → ℕ} {p t o u : ℕ} → (e : TwoEnds f row l h p t o u) →
    (m : ℕ) → HasPart f l [] m → (m ≡ p) ⊎ ((m ≡ o) ⊎ (m ≡ e.first.q))
no_fourth {f = f} {row = row} {l = l} {h = h} {p = p} {o = o} e m part = elim (cases_eq m p) [
  | inl i ↦ inl i
  | inr np ↦ elim (cases_eq m o) [
    | inl i ↦ inr (inl i)
    | inr other ↦ elim (cases_eq m e.first.q) [
      | inl i ↦ inr (inr i)
      | inr nq ↦ absurd (
          let g : ℕ → ℕ = e.pass.parts in
          let a = has_part f row l h [] 3 e.layout e.pass p e.first.ring.part in
          let b = has_part f row l h [] 3 e.layout e.pass o e.second.ring.part in
          let c = has_part f row l h [] 3 e.layout e.pass e.first.q (run_has_part e.pass e.first) in
          let d = has_part f row l h [] 3 e.layout e.pass m part in
          let a1 : 1 ≤ g p = a.0 in let b1 : 1 ≤ g o = b.0 in let c1 : 1 ≤ g e.first.q = c.0 in let d1 : 1 ≤ g m = d.0 in
          let s : g p + (g o + (g e.first.q + g m)) ≤ total g (length f.slots) = total_four g p o e.first.q m (length f.slots)
          (e.apart, shapes_apart f p e.first.q e.first.ring.is_p e.first.is_q, λ i. np (sym i))
          (shapes_apart f o e.first.q e.second.ring.is_p e.first.is_q) (λ i. other (sym i)) (λ i. nq (sym i)) a.1 b.1 c.1 d.1 in
          let n : length {A = ℕ} [] + total g (length f.slots) ≤ 3 = e.pass.sum in
          omega arith)
    ]
  ]
]

-- the labelled children of the Q-node stand side by side
one_run_between : {f : Layout} {row : List ℕ} {l : ℕ → Bool} {h : ℕ → ℕ} {p t o u : ℕ} → (e : TwoEnds f row l h p t o u) → OneRun l (children_at f e.first.q)
one_run_between {f = f} {row = row} {l = l} {h = h} {p = p} {o = o} e =
    let g : ℕ → ℕ = e.pass.parts in
    let part : HasPart f l [] e.first.q = run_has_part e.pass e.first in
    let a = has_part f row l h [] 3 e.layout e.pass p e.first.ring.part in
    let b = has_part f row l h [] 3 e.layout e.pass o e.second.ring.part in
    let c = has_part f row l h [] 3 e.layout e.pass e.first.q part in
    let a1 : 1 ≤ g p = a.0 in let b1 : 1 ≤ g o = b.0 in
    let s : g p + (g o + g e.first.q) ≤ total g (length f.slots) = total_three g p o e.first.q (length f.slots) e.apart
    (shapes_apart f p e.first.q e.first.ring.is_p e.first.is_q) (shapes_apart f o e.first.q e.second.ring.is_p e.first.is_q) a.1 b.1 c.1 in
    let n : length {A = ℕ} [] + total g (length f.slots) ≤ 3 = e.pass.sum in
    let few : runs l false (children_at f e.first.q) ≤ g e.first.q = e.pass.q_parts e.first.q e.first.is_q part.not_full part.not_waiting in
    one_run_of l (children_at f e.first.q) (omega arith)

-- no child of p is at or above another child o of the Q-node over p
no_way_beside : (f : Layout) (p o q k : ℕ) → IsLayout f → p ≢ q → 1 ≤ occurs (children_at f q) p → 1 ≤ occurs (children_at f q) o → 1 ≤ occurs (children_at f p) k →
    IsAtOrAbove f.slots k o → ⊥
no_way_beside f p o q k layout ne op oo ok way = elim (above_ends f.slots k o way) [
  | at_once e ↦ ne (one_parent f p q o layout (subst (λ z. 1 ≤ occurs (children_at f p) z) e ok) oo)
  | by m lm om ↦ no_circle f.slots p k (layout.grounds p) ok
      (above_step f.slots k q p (subst (λ z. IsAtOrAbove f.slots k z) (one_parent f m q o layout om oo) lm) op)
]

-- no child of p is at or above a node with a part, where these are p, another child o of the Q-node q over it, and q
none_beside : (f : Layout) (l : ℕ → Bool) (p o q : ℕ) → IsLayout f → p ≢ q → 1 ≤ occurs (children_at f q) p → 1 ≤ occurs (children_at f q) o →
    ((m : ℕ) → HasPart f l [] m → (m ≡ p) ⊎ ((m ≡ o) ⊎ (m ≡ q))) → NoneBelow f l p
none_beside f l p o q layout ne op oo only = λ m k part ok way. elim (only m part) [
  | inl e ↦ no_circle f.slots p k (layout.grounds p) ok (subst (λ z. IsAtOrAbove f.slots k z) e way)
  | inr r ↦ elim r [
    | inl e ↦ no_way_beside f p o q k layout ne op oo ok (subst (λ z. IsAtOrAbove f.slots k z) e way)
    | inr e ↦ no_circle f.slots p k (layout.grounds p) ok (above_step f.slots k q p (subst (λ z. IsAtOrAbove f.slots k z) e way) op)
  ]
]

-- the run ks of children of q, with one of n and o before it and the other behind it
record EndsAround (f : Layout) (q n t o u : ℕ) (ks : List ℕ) : Type 0 where
  us : List ℕ
  vs : List ℕ
  outer : (1 ≤ length us) × (1 ≤ length vs)
  place : ((children_at f q ≡ us ++ (n ∷ (ks ++ (o ∷ vs)))) × (t ≡ head_or ks none) × (u ≡ last_or ks none))
      ⊎ ((children_at f q ≡ us ++ (o ∷ (ks ++ (n ∷ vs)))) × (u ≡ head_or ks none) × (t ≡ last_or ks none))

-- two nodes, one before the run and one behind it
around_run : {a s b v : ℕ} {ps rs ws : List ℕ} (ks : List ℕ) → ks ≡ ps ++ (rs ++ ws) → (before : LastBefore ps rs a s) → (behind : FirstBehind rs ws b v) →
    ks ≡ before.rest ++ (a ∷ (rs ++ (b ∷ behind.rest)))
around_run {a = a} {b = b} {ps = ps} {rs = rs} {ws = ws} ks is before behind =
    is ∙ ap (λ z. z ++ (rs ++ ws)) before.is ∙ ap (λ z. (before.rest ++ a ∷ []) ++ (rs ++ z)) behind.is ∙ append_assoc before.rest (a ∷ []) (rs ++ b ∷ behind.rest)

ends_around : {f : Layout} {l : ℕ → Bool} {q n t o u : ℕ} → n ≢ o → (run : OneRun l (children_at f q)) →
    LastBefore run.us run.rs n t ⊎ FirstBehind run.rs run.vs n t → LastBefore run.us run.rs o u ⊎ FirstBehind run.rs run.vs o u → EndsAround f q n t o u run.rs
ends_around {f = f} {q = q} {n = n} {t = t} {o = o} {u = u} ne run first second = elim first [
  | inl a ↦ elim second [
    | inl b ↦ absurd (ne (sym (last_or-append a.rest (n ∷ []) none) ∙ ap (λ z. last_or z none) (sym a.is ∙ b.is) ∙ last_or-append b.rest (o ∷ []) none))
    | inr b ↦ record { us = a.rest; vs = b.rest; outer = (a.some, b.some); place = inl (around_run (children_at f q) run.is a b, a.beside, b.beside) }
  ]
  | inr a ↦ elim second [
    | inl b ↦ record { us = b.rest; vs = a.rest; outer = (b.some, a.some); place = inr (around_run (children_at f q) run.is b a, b.beside, a.beside) }
    | inr b ↦ absurd (ne (ap (λ z. head_or z none) (sym a.is ∙ b.is)))
  ]
]

-- what is below p and o and below the run between them is the row
between_ends : {f : Layout} {row : List ℕ} {l : ℕ → Bool} {h : ℕ → ℕ} {p t o u : ℕ} (members others : List ℕ) → TwoEnds f row l h p t o u →
    AreMarked f l h p members → AreMarked f l h o others → IsBetween f row p t members o u others
between_ends {f = f} {row = row} {l = l} {h = h} {p = p} {t = t} {o = o} {u = u} members others e marked marked' =
    let q : ℕ = e.first.q in
    let same : e.second.q ≡ q = same_run e in
    let run : OneRun l (children_at f q) = one_run_between e in
    let first = stands_at_run e.layout e.first q refl run in
    let second = stands_at_run e.layout e.second q same run in
    let ends : EndsAround f q p t o u run.rs = ends_around e.apart run first.1 second.1 in
    let over : 1 ≤ occurs (children_at f q) p = child_at f q p e.first.us e.first.vs e.first.place in
    let over' : 1 ≤ occurs (children_at f q) o = subst (λ z. 1 ≤ occurs (children_at f z) o) same (child_at f e.second.q o e.second.us e.second.vs e.second.place) in
    let only : (m : ℕ) → HasPart f l [] m → (m ≡ p) ⊎ ((m ≡ o) ⊎ (m ≡ q)) = no_fourth e in
    let only' : (m : ℕ) → HasPart f l [] m → (m ≡ o) ⊎ ((m ≡ p) ⊎ (m ≡ q)) =
    (λ m has. elim (only m has) [ inl i ↦ inr (inl i) | inr r ↦ elim r [ inl i ↦ inl i | inr i ↦ inr (inr i) ] ]) in
    record {
      part = filled_part f row l h 3 p members e.layout e.pass e.first.ring e.first.few marked
          (none_beside f l p o q e.layout (shapes_apart f p q e.first.ring.is_p e.first.is_q) over over' only);
      other_part = filled_part f row l h 3 o others e.layout e.pass e.second.ring e.second.few marked'
          (none_beside f l o p q e.layout (shapes_apart f o q e.second.ring.is_p e.first.is_q) over' over only');
      q = q;
      us = ends.us;
      ks = run.rs;
      vs = ends.vs;
      is_q = e.first.is_q;
      some = first.0;
      outer = ends.outer;
      place = ends.place;
      filled = λ k held. e.pass.labels.filled k (run.inside k held);
      covers = λ x held.
          let w : Topmost f l f.root x = row_topmost f row l h 3 x e.leaves e.pass held in
          let c : ℕ = w.part.child in
          let sum : occurs (members ++ (others ++ run.rs)) c ≡ occurs members c + occurs (others ++ run.rs) c = occurs-append members (others ++ run.rs) c in
          let sum' : occurs (others ++ run.rs) c ≡ occurs others c + occurs run.rs c = occurs-append others run.rs c in (
            c,
            elim (only w.m w.part) [
              | inl i ↦ let j : 1 ≤ occurs members c = marked_member f l h p c members marked w.part.labelled (subst (λ z. 1 ≤ occurs (children_at f z) c) i w.part.is_child) in omega arith
              | inr r ↦ elim r [
                | inl i ↦ let j : 1 ≤ occurs others c = marked_member f l h o c others marked' w.part.labelled (subst (λ z. 1 ≤ occurs (children_at f z) c) i w.part.is_child) in omega arith
                | inr i ↦ let j : 1 ≤ occurs run.rs c = run.all c (subst (λ z. 1 ≤ occurs (children_at f z) c) i w.part.is_child) w.part.labelled in omega arith
              ]
            ],
            w.leads,
          );
    }

-- the members are those that the tallies list
pub found_between : (f : Layout) (row labels : List ℕ) (tallies : List Tally) (stamp p t o u : ℕ) → IsLayout f → AreLeaves f row → ArePartsLeft f row labels tallies stamp 3 →
    IsEndOfRun f (full_in labels stamp) p t → IsEndOfRun f (full_in labels stamp) o u → p ≢ o →
    IsBetween f row p t (chained (hits_in tallies stamp p) (next_in tallies) (first_in tallies p)) o u (chained (hits_in tallies stamp o) (next_in tallies) (first_in tallies o))
found_between f row labels tallies stamp p t o u layout leaves left first second apart =
    between_ends (chained (hits_in tallies stamp p) (next_in tallies) (first_in tallies p)) (chained (hits_in tallies stamp o) (next_in tallies) (first_in tallies o))
    (record { layout = layout; leaves = leaves; pass = left.pass; first = first; second = second; apart = apart })
    (chain_marked f (full_in labels stamp) (hits_in tallies stamp) (first_in tallies) (next_in tallies) p first.ring.is_p left.counted.chains)
    (chain_marked f (full_in labels stamp) (hits_in tallies stamp) (first_in tallies) (next_in tallies) o second.ring.is_p left.counted.chains)
