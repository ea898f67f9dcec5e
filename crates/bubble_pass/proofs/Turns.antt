-- One turn of the climb.
use Rattle.std.proofs.Common.{◌≡◌, ◌≢◌, ◌⊎◌, inl, inr, ℕ, ◌+◌, ◌≤◌, ◌<◌, List, [], ◌∷◌, ◌++◌, length, set, sum_by, Option, Some, None, refl, sym, ap, subst, ◌∙◌, arith}
use Rattle.std.proofs.lemmas.Bool.{cases_eq}
use Rattle.std.proofs.lemmas.List.{length-set, get_or_read}
use Rattle.std.proofs.Common.{get_or, vec_len}
use Rattle.std.proofs.lemmas.List.Sums.{sum_by-cons}
use Rattle.pq_arena.specs.declared.node.NodeId.{NodeId}
use Rattle.pq_arena.specs.declared.node.NodeView.{NodeView}
use Rattle.arena_model.specs.ChildLists.{none}
use Rattle.column_order.specs.Orders.{occurs}
use Rattle.arena_model.specs.Layout.{Layout, children_at, IsInUse, IsLayout}
use Rattle.arena_model.specs.ChildLists.{last_or}
use Rattle.pq_arena.specs.Looks.{ShowsNode, index_or_none, node_named}
use Rattle.arena_model.proofs.Slots.{child_used, in_range, not_none, parent_used}
use Rattle.arena_model.proofs.Slots.{some_inj}
use Rattle.column_order.proofs.Lists.{occurs-append}
use Rattle.arena_model.proofs.Lists.{occurs_here, occurs_last, parent_inner}
use Rattle.bubble_pass.specs.declared.climber.Stage.{Stage}
use Rattle.bubble_pass.specs.declared.climber.Stage.TheVariants.{Unseen, Queued, Blocked, Top, InRun, Placed}
use Rattle.bubble_pass.specs.declared.climber.Climber.{Climber}
use Rattle.bubble_pass.specs.Climb.{most_nodes, no_id, stage, at, IsSeen, parked_one, unseen_one, Inner, Beside, Climb, FreeBut, Queue}
use Rattle.bubble_pass.specs.Moves.{Kept, Ready, Staged, Rose, entered, entered_queue, entered_tail, CanRise, CanFind, found, or_else, above_in, placed_in, parked_as, parked_by, InReach, Walkable, Walked, Turned, turned_up, turned_off, near0, near1}
use Rattle.bubble_pass.proofs.Seats.{Near, first, second, near_beside, beside_near, beside_parent, beside_back, near_used, inner_near, no_parent, no_near, parent_is, named_is, named_none}
use Rattle.bubble_pass.proofs.Marks.{seen_by, seen_in, queued_placed, queued_top, queued_blocked, blocked_placed, top_placed, set_here, set_there, Placing, old_stage, placing_seen, placing_new, climb_placing, climb_parking, queue_popped, queue_pushed, unseen_room, at_set, at_new, sum_set}
use Rattle.bubble_pass.proofs.Walks.{blocked_is, reach_of}

-- what the node above is found by
pub record Above (st : List Stage) (o : Option NodeId) (m : NodeId) : Type 0 where
  pub y : NodeId
  pub is : o ≡ Some y
  pub placed : stage st y.index ≡ Placed m

above_is : (st : List Stage) (o : Option NodeId) (m : NodeId) → above_in st o ≡ Some m → Above st o m
above_is st None m e = absurd (let z : None ≡ Some m = e in cc)
above_is st (Some y) m e = at (stage st y.index) refl e
  where
    at : (s : Stage) → stage st y.index ≡ s → placed_in s ≡ Some m → Above st (Some y) m
    at Unseen q i = absurd (let z : None ≡ Some m = i in cc)
    at Queued q i = absurd (let z : None ≡ Some m = i in cc)
    at Blocked q i = absurd (let z : None ≡ Some m = i in cc)
    at Top q i = absurd (let z : None ≡ Some m = i in cc)
    at InRun q i = absurd (let z : None ≡ Some m = i in cc)
    at (Placed k) q i = record { y = y; is = refl; placed = q ∙ ap (λ z. Placed z) (some_inj k m i) }

above_not : (st : List Stage) (o : Option NodeId) (y : NodeId) (m : NodeId) → above_in st o ≡ None → o ≡ Some y → stage st y.index ≡ Placed m → ⊥
above_not st o y m e i p = let z : Some m ≡ None = sym (ap placed_in p) ∙ sym (ap (λ z. above_in st z) i) ∙ e in cc

or_some : (o p : Option NodeId) (m : NodeId) → or_else o p ≡ Some m → (o ≡ Some m) ⊎ ((o ≡ None) × (p ≡ Some m))
or_some None p m e = inr (refl, e)
or_some (Some k) p m e = inl e

or_none : (o p : Option NodeId) → or_else o p ≡ None → (o ≡ None) × (p ≡ None)
or_none None p e = (refl, e)
or_none (Some k) p e = absurd (let z : Some k ≡ None = e in cc)

by_neighbour : (f : Layout) (row : List ℕ) (st : List Stage) (n : ℕ) (view : NodeView) (m y : NodeId) → IsLayout f → Climb f row st → ShowsNode f n view →
    view.parent ≡ None → Near view.near (Some y) → stage st y.index ≡ Placed m → 1 ≤ occurs (children_at f m.index) n
by_neighbour f row st n view m y h c s pn near p = elim (no_parent f n view h s pn) [
  | inl i ↦ beside_parent f n y.index m.index h (near_beside f n i.q i.us i.vs view y s i.is_q i.kids_are near) (c.above y.index m p).0
  | inr t ↦ absurd (no_near view.near y t.1 near)
]

pub found_child : (f : Layout) (row : List ℕ) (st : List Stage) (n : ℕ) (view : NodeView) (m : NodeId) → IsLayout f → Climb f row st → ShowsNode f n view →
    found st view ≡ Some m → 1 ≤ occurs (children_at f m.index) n
found_child f row st n view m h c s e = elim (or_some view.parent (or_else (above_in st (near0 view.near)) (above_in st (near1 view.near))) m e) [
  | inl p ↦ parent_is f n view m h s p
  | inr r ↦ elim (or_some (above_in st (near0 view.near)) (above_in st (near1 view.near)) m r.1) [
    | inl a ↦ let b : Above st (near0 view.near) m = above_is st (near0 view.near) m a in by_neighbour f row st n view m b.y h c s r.0 (first b.is) b.placed
    | inr a ↦ let b : Above st (near1 view.near) m = above_is st (near1 view.near) m a.1 in by_neighbour f row st n view m b.y h c s r.0 (second b.is) b.placed
  ]
]

-- an inner child shows no parent
pub inner_parent : (f : Layout) (n : ℕ) (view : NodeView) → IsLayout f → ShowsNode f n view → Inner f n → view.parent ≡ None
inner_parent f n view h s i = by_lists i.us i.vs i.kids_are i.left i.right
  where
    by_lists : (us vs : List ℕ) → children_at f i.q ≡ us ++ n ∷ vs → 1 ≤ length us → 1 ≤ length vs → view.parent ≡ None
    by_lists [] vs ks l r = absurd (omega arith)
    by_lists (u ∷ us) [] ks l r = absurd (omega arith)
    by_lists (u ∷ us) (v ∷ vs) ks l r =
        let a : last_or us u ≢ none = not_none f (last_or us u) h (child_used f i.q (last_or us u) h
        (subst (λ k. 1 ≤ occurs k (last_or us u)) (sym ks) (omega (arith, occurs-append (u ∷ us) (n ∷ v ∷ vs) (last_or us u), occurs_last us u)))) in
        let b : v ≢ none = not_none f v h (child_used f i.q v h
        (subst (λ k. 1 ≤ occurs k v) (sym ks) (omega (arith, occurs-append (u ∷ us) (n ∷ v ∷ vs) v, occurs_here v vs)))) in
        (s.run i.q (u ∷ us) (v ∷ vs) i.is_q ks).0 ∙ ap node_named (parent_inner i.q (last_or us u) v a b) ∙ named_none

-- where it shows the node above, it is no inner child
parent_outer : (f : Layout) (n : ℕ) (view : NodeView) (m : NodeId) → IsLayout f → ShowsNode f n view → view.parent ≡ Some m → Inner f n → ⊥
parent_outer f n view m h s e i = let z : None ≡ Some m = sym (inner_parent f n view h s i) ∙ e in cc

-- it is no inner child, or a neighbour knows the node above
pub found_way : (f : Layout) (st : List Stage) (n : ℕ) (view : NodeView) (m : NodeId) → IsLayout f → ShowsNode f n view → found st view ≡ Some m → (Inner f n → ⊥) ⊎ ((y : ℕ) × (stage st y ≡ Placed m))
found_way f st n view m h s e = elim (or_some view.parent (or_else (above_in st (near0 view.near)) (above_in st (near1 view.near))) m e) [
  | inl p ↦ inl (parent_outer f n view m h s p)
  | inr r ↦ elim (or_some (above_in st (near0 view.near)) (above_in st (near1 view.near)) m r.1) [
    | inl a ↦ let b : Above st (near0 view.near) m = above_is st (near0 view.near) m a in inr (b.y.index, b.placed)
    | inr a ↦ let b : Above st (near1 view.near) m = above_is st (near1 view.near) m a.1 in inr (b.y.index, b.placed)
  ]
]

pub reach_near : (f : Layout) (st : List Stage) (n : ℕ) (view : NodeView) (o : Option NodeId) → IsLayout f → ShowsNode f n view → length st ≡ length f.slots →
    Near view.near o → InReach st o
reach_near f st n view o h s len near =
    reach_of st o (λ y e. let l : y.index < length f.slots = in_range f y.index (near_used f n view y h s (subst (λ z. Near view.near z) e near)) in omega arith)

pub can_find : (f : Layout) (row : List ℕ) (w : Climber) (n : ℕ) (view : NodeView) → IsLayout f → Kept f row w → ShowsNode f n view → CanFind w.stages.items view
can_find f row w n view h k s = record {
  first = reach_near f w.stages.items n view (near0 view.near) h s k.long (first refl);
  second = reach_near f w.stages.items n view (near1 view.near) h s k.long (second refl);
}

abbrev pub more_head : Climber → Climber
more_head a = record a { head = a.head + 1 }

pub can_rise : (f : Layout) (row : List ℕ) (a : Climber) (x m : NodeId) → IsLayout f → Kept f row a → a.head < a.tail → x.index ≡ at a.queue.items a.head →
    1 ≤ occurs (children_at f m.index) x.index → CanRise (more_head a) x.index m.index
can_rise f row a x m h k lt e o =
    let lm : m.index < length a.stages.items = (let l : m.index < length f.slots = in_range f m.index (parent_used f m.index x.index o h) in omega (arith, k.long)) in
    record {
      x_in = subst (λ z. z < length a.stages.items) (sym e) (seen_in a.stages.items (at a.queue.items a.head) (k.queue.seen a.head lt));
      m_in = lm;
      room = λ u. unseen_room a.stages.items a.queue.items a.head a.tail m.index k.queue u lm;
      few = let b : length f.slots ≤ most_nodes = k.few in omega (arith, k.long, k.queue.long);
    }

-- after x rose
pub record Risen (f : Layout) (row : List ℕ) (a b : Climber) (x m : NodeId) : Type 0 where
  pub kept : Kept f row b
  pub placing : Placing a.stages.items b.stages.items x.index m
  pub head : b.head ≡ a.head + 1
  pub parked : b.parked ≡ a.parked

pub risen : (f : Layout) (row : List ℕ) (a b : Climber) (x m : NodeId) → IsLayout f → Kept f row a → a.head < a.tail → x.index ≡ at a.queue.items a.head →
    1 ≤ occurs (children_at f m.index) x.index → (Inner f x.index → ⊥) ⊎ ((y : ℕ) × (stage a.stages.items y ≡ Placed m)) → Rose (more_head a) b x m → Risen f row a b x m
risen f row a b x m h k lt e o way r = by_stage (stage st m.index) refl r.stages r.queue r.tail
  where
    st : List Stage
    st = a.stages.items

    lm : m.index < length a.stages.items
    lm = let l : m.index < length f.slots = in_range f m.index (parent_used f m.index x.index o h) in omega (arith, k.long)

    xq : stage a.stages.items x.index ≡ Queued
    xq = subst (λ z. stage a.stages.items z ≡ Queued) (sym e) (k.queue.waiting a.head (omega arith) lt)

    sx : IsSeen (stage a.stages.items x.index)
    sx = seen_by (stage a.stages.items x.index) Queued xq tt

    made : (st2 : List Stage) (q2 : List NodeId) (t2 : ℕ) → b.stages.items ≡ st2 → b.queue.items ≡ q2 → b.tail ≡ t2 →
        Placing a.stages.items st2 x.index m → Queue st2 q2 (a.head + 1) t2 → sum_by parked_one st2 ≡ sum_by parked_one a.stages.items →
        length st2 ≡ length a.stages.items → Risen f row a b x m
    made st2 q2 t2 es eq et p q cnt len = record {
      kept = record {
        climb = subst (λ z. Climb f row z) (sym es) (climb_placing f row a.stages.items st2 x.index m h k.climb p sx (λ n i. queued_placed n (sym xq ∙ i)) o way);
        queue = subst (λ z. Queue z b.queue.items b.head b.tail) (sym es)
            (subst (λ z. Queue st2 z b.head b.tail) (sym eq)
            (subst (λ z. Queue st2 q2 z b.tail) (sym r.head)
            (subst (λ z. Queue st2 q2 (a.head + 1) z) (sym et) q)));
        count = r.parked ∙ k.count ∙ sym cnt ∙ ap (λ z. sum_by parked_one z) (sym es);
        long = ap (λ (z : List Stage). length z) es ∙ len ∙ k.long;
        few = k.few;
      };
      placing = subst (λ z. Placing a.stages.items z x.index m) (sym es) p;
      head = r.head;
      parked = r.parked;
    }

    old : IsSeen (stage a.stages.items m.index) → b.stages.items ≡ set a.stages.items x.index (Placed m) → b.queue.items ≡ a.queue.items → b.tail ≡ a.tail → Risen f row a b x m
    old sm es eq et =
        made (set a.stages.items x.index (Placed m)) a.queue.items a.tail es eq et (placing_seen a.stages.items x.index m sx sm)
        (subst (λ z. Queue (set a.stages.items z (Placed m)) a.queue.items (a.head + 1) a.tail) (sym e)
        (queue_popped a.stages.items a.queue.items a.head a.tail (Placed m) k.queue lt tt (queued_placed m)))
        (let u : parked_one (stage a.stages.items x.index) ≡ 0 = ap parked_one xq in let v : parked_one (Placed m) ≡ 0 = refl in
        omega (arith, sum_set parked_one a.stages.items x.index (Placed m) (seen_in a.stages.items x.index sx)))
        (length-set a.stages.items x.index (Placed m))

    by_stage : (s : Stage) → stage a.stages.items m.index ≡ s → b.stages.items ≡ set (entered s a.stages.items m) x.index (Placed m) →
        b.queue.items ≡ entered_queue s a.queue.items a.tail m → b.tail ≡ entered_tail s a.tail → Risen f row a b x m
    by_stage Unseen s es eq et =
        let one : List Stage = set a.stages.items m.index Queued in
        let queue : List NodeId = set a.queue.items a.tail m in
        let xm : x.index ≢ m.index = (λ i. subst (λ z. IsSeen z) s (subst (λ z. IsSeen (stage a.stages.items z)) i sx)) in
        let x1 : stage one x.index ≡ Queued = set_there a.stages.items m.index x.index Queued xm ∙ xq in
        let pushed : Queue one queue a.head (a.tail + 1) = queue_pushed a.stages.items a.queue.items a.head a.tail m k.queue s lm in
        let same : at queue a.head ≡ x.index = at_set a.queue.items a.tail a.head m (omega arith) ∙ sym e in
        made (set one x.index (Placed m)) queue (a.tail + 1) es eq et (placing_new a.stages.items x.index m sx s lm)
        (subst (λ z. Queue (set one z (Placed m)) queue (a.head + 1) (a.tail + 1)) same
        (queue_popped one queue a.head (a.tail + 1) (Placed m) pushed (omega arith) tt (queued_placed m)))
        (let u : parked_one (stage one x.index) ≡ 0 = ap parked_one x1 in let v : parked_one (Placed m) ≡ 0 = refl in
        let w : parked_one (stage a.stages.items m.index) ≡ 0 = ap parked_one s in let v2 : parked_one Queued ≡ 0 = refl in
        omega (arith, sum_set parked_one a.stages.items m.index Queued lm, sum_set parked_one one x.index (Placed m) (seen_in one x.index (seen_by (stage one x.index) Queued x1 tt))))
        (length-set one x.index (Placed m) ∙ length-set a.stages.items m.index Queued)
    by_stage Queued s es eq et = old (seen_by (stage a.stages.items m.index) Queued s tt) es eq et
    by_stage Blocked s es eq et = old (seen_by (stage a.stages.items m.index) Blocked s tt) es eq et
    by_stage Top s es eq et = old (seen_by (stage a.stages.items m.index) Top s tt) es eq et
    by_stage InRun s es eq et = old (seen_by (stage a.stages.items m.index) InRun s tt) es eq et
    by_stage (Placed n) s es eq et = old (seen_by (stage a.stages.items m.index) (Placed n) s tt) es eq et

-- the walks from x on
pub walk_from : (f : Layout) (row : List ℕ) (w : Climber) (x m : NodeId) (view : NodeView) (o : Option NodeId) → IsLayout f → Kept f row w → ShowsNode f x.index view →
    stage w.stages.items x.index ≡ Placed m → Near view.near o → Walkable f row w m x o
walk_from f row w x m view o h k s p near = record {
  kept = k;
  placed = p;
  reach = reach_near f w.stages.items x.index view o h s k.long near;
  beside = λ y e. let by = blocked_is w.stages.items o y e in
      beside_back f x.index y.index (inner_near f x.index view y h s (subst (λ z. Near view.near z) by.0 near) (k.climb.inner y.index by.1));
}

-- beside x alone a blocked node may stand beside a placed one
free_near : (f : Layout) (row : List ℕ) (a b : Climber) (x m : NodeId) (view : NodeView) → IsLayout f → Ready f row a → Risen f row a b x m → ShowsNode f x.index view →
    FreeBut f b.stages.items (index_or_none (near0 view.near)) x.index (index_or_none (near1 view.near)) x.index
free_near f row a b x m view h rd r s = λ y z n be yb zp.
    let ny : y ≢ x.index = (λ e. blocked_placed m (sym (subst (λ v. stage b.stages.items v ≡ Blocked) e yb) ∙ r.placing.placed)) in
    let yb0 : stage a.stages.items y ≡ Blocked = old_stage a.stages.items b.stages.items x.index y m Blocked r.placing ny tt queued_blocked yb in
    elim (cases_eq z x.index) [
      | inl e ↦ let yi : NodeId = record { index = y } in
          elim (beside_near f x.index view yi s (beside_back f y x.index (subst (λ v. Beside f y v) e be))
          (not_none f y h (rd.kept.climb.used y (seen_by (stage a.stages.items y) Blocked yb0 tt)))) [
            | first i ↦ inl (sym (ap index_or_none i), e)
            | second i ↦ inr (sym (ap index_or_none i), e)
          ]
      | inr nz ↦ absurd (rd.free.apart y z n be yb0 (old_stage a.stages.items b.stages.items x.index z m (Placed n) r.placing nz tt (queued_placed n) zp))
    ]

pub freed : (f : Layout) (row : List ℕ) (a b w1 w2 : Climber) (x m : NodeId) (view : NodeView) (s0 s1 s2 : ℕ) → IsLayout f → Ready f row a → Risen f row a b x m → ShowsNode f x.index view →
    Walked f row b w1 m x (near0 view.near) s0 s1 → Walked f row w1 w2 m x (near1 view.near) s1 s2 → Ready f row w2
freed f row a b w1 w2 x m view s0 s1 s2 h rd r s v1 v2 =
    let f1 : FreeBut f w1.stages.items (index_or_none (near1 view.near)) x.index (index_or_none (near1 view.near)) x.index =
    v1.free (index_or_none (near1 view.near)) x.index (free_near f row a b x m view h rd r s) in
    let f2 : FreeBut f w1.stages.items (index_or_none (near1 view.near)) x.index none none = (λ y z n be yb zp. elim (f1 y z n be yb zp) [ inl p ↦ inl p | inr p ↦ inl p ]) in
    let f3 : FreeBut f w2.stages.items none none none none = v2.free none none f2 in
    record {
      kept = v2.kept;
      free = record {
        apart = λ y z n be yb zp.
            let ne : y ≢ none = not_none f y h (v2.kept.climb.used y (seen_by (stage w2.stages.items y) Blocked yb tt)) in
            elim (f3 y z n be yb zp) [ inl p ↦ ne p.0 | inr p ↦ ne p.0 ];
        runs = λ y e.
            let eb : stage b.stages.items y ≡ InRun = v1.along.runs y (v2.along.runs y e) in
            elim (cases_eq y x.index) [
              | inl q ↦ let z = sym (subst (λ v. stage b.stages.items v ≡ InRun) q eb) ∙ r.placing.placed in cc
              | inr ne ↦ rd.free.runs y (old_stage a.stages.items b.stages.items x.index y m InRun r.placing ne tt (λ q. cc) eb)
            ];
      };
    }

pub parked_le : (st : List Stage) → sum_by parked_one st ≤ length st
parked_le [] = omega arith
parked_le (s ∷ ss) = let a : sum_by parked_one ss ≤ length ss = parked_le ss in let b : parked_one s ≤ 1 = one s in omega (arith, sum_by-cons parked_one s ss)
  where
    one : (s : Stage) → parked_one s ≤ 1
    one Unseen = omega arith
    one Queued = omega arith
    one Blocked = omega arith
    one Top = omega arith
    one InRun = omega arith
    one (Placed m) = omega arith

-- an inner child shows a neighbour
inner_some : (f : Layout) (n : ℕ) (view : NodeView) → IsLayout f → ShowsNode f n view → Inner f n → near0 view.near ≡ None → ⊥
inner_some f n view h s i e = by_lists i.us i.vs i.kids_are i.left i.right
  where
    by_lists : (us vs : List ℕ) → children_at f i.q ≡ us ++ n ∷ vs → 1 ≤ length us → 1 ≤ length vs → ⊥
    by_lists [] vs ks l r = absurd (omega arith)
    by_lists (u ∷ us) [] ks l r = absurd (omega arith)
    by_lists (u ∷ us) (v ∷ vs) ks l r = elim (s.run i.q (u ∷ us) (v ∷ vs) i.is_q ks).1 [
      | inl q ↦ let z = sym (named_is (last_or us u) (not_none f (last_or us u) h (child_used f i.q (last_or us u) h
          (subst (λ k. 1 ≤ occurs k (last_or us u)) (sym ks) (omega (arith, occurs-append (u ∷ us) (n ∷ v ∷ vs) (last_or us u), occurs_last us u))))))
          ∙ sym (ap near0 q) ∙ e in cc
      | inr q ↦ let z = sym (named_is v (not_none f v h (child_used f i.q v h
          (subst (λ k. 1 ≤ occurs k v) (sym ks) (omega (arith, occurs-append (u ∷ us) (n ∷ v ∷ vs) v, occurs_here v vs))))))
          ∙ sym (ap near0 q) ∙ e in cc
    ]

parked_cases : (o : Option NodeId) → ((parked_by o ≡ Top) × (o ≡ None)) ⊎ ((parked_by o ≡ Blocked) × (o ≢ None))
parked_cases None = inl (refl, refl)
parked_cases (Some y) = inr (refl, λ e. cc)

abbrev pub more_parked : Climber → Climber
more_parked a = record a { head = a.head + 1; parked = a.parked + 1 }

pub parked : (f : Layout) (row : List ℕ) (a c : Climber) (x : NodeId) (view : NodeView) → IsLayout f → Ready f row a → a.head < a.tail → x.index ≡ at a.queue.items a.head →
    ShowsNode f x.index view → found a.stages.items view ≡ None → c.parked ≡ a.parked + 1 →
    Staged (more_parked a) c x (parked_as view) → Ready f row c
parked f row a c x view h rd lt e s nf cp t = record {
  kept = record {
    climb = subst (λ z. Climb f row z) (sym es)
        (climb_parking f row a.stages.items x.index (parked_as view) k.climb sx (λ n i. queued_placed n (sym xq ∙ i)) seen not_placed
        (λ i. elim (no_parent f x.index view h s pn) [
          | inl j ↦ absurd (inner_some f x.index view h s j (is_none i))
          | inr j ↦ j.0
        ])
        (λ i. elim (no_parent f x.index view h s pn) [
          | inl j ↦ j
          | inr j ↦ absurd (is_some i (ap near0 j.1))
        ]));
    queue = subst (λ z. Queue z c.queue.items c.head c.tail) (sym es)
        (subst (λ z. Queue (set a.stages.items x.index (parked_as view)) z c.head c.tail) (sym t.queue)
        (subst (λ z. Queue (set a.stages.items x.index (parked_as view)) a.queue.items z c.tail) (sym t.head)
        (subst (λ z. Queue (set a.stages.items x.index (parked_as view)) a.queue.items (a.head + 1) z) (sym t.tail)
        (subst (λ z. Queue (set a.stages.items z (parked_as view)) a.queue.items (a.head + 1) a.tail) (sym e)
        (queue_popped a.stages.items a.queue.items a.head a.tail (parked_as view) k.queue lt seen not_queued)))));
    count = let u : parked_one (stage a.stages.items x.index) ≡ 0 = ap parked_one xq in
        let v : parked_one (parked_as view) ≡ 1 = one in
        let w : sum_by parked_one c.stages.items ≡ sum_by parked_one (set a.stages.items x.index (parked_as view)) = ap (λ z. sum_by parked_one z) es in
        let p : a.parked ≡ sum_by parked_one a.stages.items = k.count in
        omega (arith, sum_set parked_one a.stages.items x.index (parked_as view) (seen_in a.stages.items x.index sx));
    long = ap (λ (z : List Stage). length z) es ∙ length-set a.stages.items x.index (parked_as view) ∙ k.long;
    few = k.few;
  };
  free = record {
    apart = λ y z n be yb zp.
        let nz : z ≢ x.index = (λ i. not_placed n (sym here ∙ subst (λ v. stage c.stages.items v ≡ Placed n) i zp)) in
        let zp0 : stage a.stages.items z ≡ Placed n = sym (there z nz) ∙ zp in
        elim (cases_eq y x.index) [
          | inl i ↦ let zi : NodeId = record { index = z } in
              elim (beside_near f x.index view zi s (subst (λ v. Beside f v z) i be) (not_none f z h (k.climb.used z (seen_by (stage a.stages.items z) (Placed n) zp0 tt)))) [
                | first q ↦ above_not a.stages.items (near0 view.near) zi n none_above.0 q zp0
                | second q ↦ above_not a.stages.items (near1 view.near) zi n none_above.1 q zp0
              ]
          | inr ny ↦ rd.free.apart y z n be (sym (there y ny) ∙ yb) zp0
        ];
    runs = λ y i. elim (cases_eq y x.index) [
      | inl q ↦ elim (parked_cases (near0 view.near)) [
        | inl p ↦ let z = sym (subst (λ v. stage c.stages.items v ≡ InRun) q i) ∙ here ∙ p.0 in cc
        | inr p ↦ let z = sym (subst (λ v. stage c.stages.items v ≡ InRun) q i) ∙ here ∙ p.0 in cc
      ]
      | inr ny ↦ rd.free.runs y (sym (there y ny) ∙ i)
    ];
  };
}
  where
    k : Kept f row a
    k = rd.kept

    es : c.stages.items ≡ set a.stages.items x.index (parked_as view)
    es = t.stages

    xq : stage a.stages.items x.index ≡ Queued
    xq = subst (λ z. stage a.stages.items z ≡ Queued) (sym e) (k.queue.waiting a.head (omega arith) lt)

    sx : IsSeen (stage a.stages.items x.index)
    sx = seen_by (stage a.stages.items x.index) Queued xq tt

    here : stage c.stages.items x.index ≡ parked_as view
    here = ap (λ z. stage z x.index) es ∙ set_here a.stages.items x.index (parked_as view) (seen_in a.stages.items x.index sx)

    there : (y : ℕ) → y ≢ x.index → stage c.stages.items y ≡ stage a.stages.items y
    there y ne = ap (λ z. stage z y) es ∙ set_there a.stages.items x.index y (parked_as view) ne

    nones : (view.parent ≡ None) × (or_else (above_in a.stages.items (near0 view.near)) (above_in a.stages.items (near1 view.near)) ≡ None)
    nones = or_none view.parent (or_else (above_in a.stages.items (near0 view.near)) (above_in a.stages.items (near1 view.near))) nf

    pn : view.parent ≡ None
    pn = nones.0

    none_above : (above_in a.stages.items (near0 view.near) ≡ None) × (above_in a.stages.items (near1 view.near) ≡ None)
    none_above = or_none (above_in a.stages.items (near0 view.near)) (above_in a.stages.items (near1 view.near)) nones.1

    seen : IsSeen (parked_as view)
    seen = elim (parked_cases (near0 view.near)) [ inl p ↦ seen_by (parked_as view) Top p.0 tt | inr p ↦ seen_by (parked_as view) Blocked p.0 tt ]

    one : parked_one (parked_as view) ≡ 1
    one = elim (parked_cases (near0 view.near)) [ inl p ↦ ap parked_one p.0 | inr p ↦ ap parked_one p.0 ]

    not_placed : (n : NodeId) → parked_as view ≢ Placed n
    not_placed n i = elim (parked_cases (near0 view.near)) [ inl p ↦ top_placed n (sym p.0 ∙ i) | inr p ↦ blocked_placed n (sym p.0 ∙ i) ]

    not_queued : Queued ≢ parked_as view
    not_queued i = elim (parked_cases (near0 view.near)) [ inl p ↦ queued_top (i ∙ p.0) | inr p ↦ queued_blocked (i ∙ p.0) ]

    is_none : parked_as view ≡ Top → near0 view.near ≡ None
    is_none i = elim (parked_cases (near0 view.near)) [ inl p ↦ p.1 | inr p ↦ absurd (let z = sym p.0 ∙ i in cc) ]

    is_some : parked_as view ≡ Blocked → near0 view.near ≢ None
    is_some i = elim (parked_cases (near0 view.near)) [ inl p ↦ absurd (let z = sym p.0 ∙ i in cc) | inr p ↦ p.1 ]

-- the node that is read at place i of the queue
pub queue_read : (f : Layout) (row : List ℕ) (a : Climber) (i : ℕ) (x : NodeId) → Kept f row a → i < a.tail → x ≡ get_or a.queue.items i x → x.index ≡ at a.queue.items i
queue_read f row a i x k lt e =
    let room : a.tail + sum_by unseen_one a.stages.items ≡ length a.stages.items = k.queue.room in
    let long : length a.queue.items ≡ length a.stages.items = k.queue.long in
    ap (λ (n : NodeId). n.index) (get_or_read a.queue.items i x (omega arith) e no_id)

pub head_in : (f : Layout) (row : List ℕ) (a : Climber) → Kept f row a → a.head < a.tail → a.head < vec_len a.queue
head_in f row a k lt =
    let room : a.tail + sum_by unseen_one a.stages.items ≡ length a.stages.items = k.queue.room in
    let long : length a.queue.items ≡ length a.stages.items = k.queue.long in
    omega (arith, a.queue.ok.0)

pub queue_used : (f : Layout) (row : List ℕ) (a : Climber) (i : ℕ) (x : NodeId) → Kept f row a → i < a.tail → x ≡ get_or a.queue.items i x → IsInUse f x.index
queue_used f row a i x k lt e = subst (λ z. IsInUse f z) (sym (queue_read f row a i x k lt e)) (k.climb.used (at a.queue.items i) (k.queue.seen i lt))

pub queue_in : (f : Layout) (row : List ℕ) (a : Climber) (i : ℕ) (x : NodeId) → Kept f row a → i < a.tail → x ≡ get_or a.queue.items i x → x.index < length a.stages.items
queue_in f row a i x k lt e = subst (λ z. z < length a.stages.items) (sym (queue_read f row a i x k lt e)) (seen_in a.stages.items (at a.queue.items i) (k.queue.seen i lt))

-- the node found above the one that has its turn gets its turn
pub risen_found : (f : Layout) (row : List ℕ) (a b : Climber) (x m : NodeId) (view : NodeView) → IsLayout f → Kept f row a → a.head < a.tail → x ≡ get_or a.queue.items a.head x →
    ShowsNode f x.index view → found a.stages.items view ≡ Some m → Rose (more_head a) b x m → Risen f row a b x m
risen_found f row a b x m view h k lt e s is r =
    risen f row a b x m h k lt (queue_read f row a a.head x k lt e) (found_child f row a.stages.items x.index view m h k.climb s is) (found_way f a.stages.items x.index view m h s is) r

pub turned_by : (f : Layout) (row : List ℕ) (a b w1 w2 : Climber) (x m : NodeId) (o1 o2 : Option NodeId) (s0 s1 s2 : ℕ) → Kept f row a → a.head < a.tail → x.index ≡ at a.queue.items a.head →
    Rose (more_head a) b x m → Risen f row a b x m → Walked f row b w1 m x o1 s0 s1 → Walked f row w1 w2 m x o2 s1 s2 → Turned a w2 (at a.queue.items a.head)
turned_by f row a b w1 w2 x m o1 o2 s0 s1 s2 k lt e r up v1 v2 =
    subst (λ z. Turned a w2 z) e
    (turned_up m v2.along.start
    (λ y ne seen. elim (v2.along.rest y) [
      | inl i ↦ elim (v1.along.rest y) [
        | inl j ↦ inl (i ∙ j ∙ up.placing.same y ne seen)
        | inr j ↦ inr (sym (up.placing.same y ne seen) ∙ j.0, i ∙ j.1)
      ]
      | inr i ↦ elim (v1.along.rest y) [
        | inl j ↦ inr (sym (up.placing.same y ne seen) ∙ sym j ∙ i.0, i.1)
        | inr j ↦ absurd (let z = sym i.0 ∙ j.1 in cc)
      ]
    ])
    (λ y seen. elim (cases_eq y x.index) [
      | inl q ↦ inl (subst (λ z. IsSeen (stage a.stages.items z)) (sym q) (subst (λ z. IsSeen (stage a.stages.items z)) (sym e) (k.queue.seen a.head lt)))
      | inr ne ↦ elim (v2.along.rest y) [
        | inl i ↦ elim (v1.along.rest y) [
          | inl j ↦ elim (up.placing.news y ne (subst (λ z. IsSeen z) (i ∙ j) seen)) [
            | inl p ↦ inl p
            | inr p ↦ inr (p.0, i ∙ j ∙ p.1)
          ]
          | inr j ↦ inl (was_seen y ne j.0)
        ]
        | inr i ↦ elim (v1.along.rest y) [
          | inl j ↦ inl (was_seen y ne (sym j ∙ i.0))
          | inr j ↦ inl (was_seen y ne j.0)
        ]
      ]
    ])
    (λ i li. ap (λ z. at z i) (v2.along.queue ∙ v1.along.queue) ∙ kept_at i li (stage a.stages.items m.index) r.queue)
    (new_tail (stage a.stages.items m.index) refl r.queue r.tail))
  where
    was_seen : (y : ℕ) → y ≢ x.index → stage b.stages.items y ≡ Blocked → IsSeen (stage a.stages.items y)
    was_seen y ne i = seen_by (stage a.stages.items y) Blocked (old_stage a.stages.items b.stages.items x.index y m Blocked up.placing ne tt queued_blocked i) tt

    kept_at : (i : ℕ) → i < a.tail → (s : Stage) → b.queue.items ≡ entered_queue s a.queue.items a.tail m → at b.queue.items i ≡ at a.queue.items i
    kept_at i li Unseen q = ap (λ z. at z i) q ∙ at_set a.queue.items a.tail i m (omega arith)
    kept_at i li Queued q = ap (λ z. at z i) q
    kept_at i li Blocked q = ap (λ z. at z i) q
    kept_at i li Top q = ap (λ z. at z i) q
    kept_at i li InRun q = ap (λ z. at z i) q
    kept_at i li (Placed n) q = ap (λ z. at z i) q

    new_tail : (s : Stage) → stage a.stages.items m.index ≡ s → b.queue.items ≡ entered_queue s a.queue.items a.tail m → b.tail ≡ entered_tail s a.tail →
        (w2.tail ≡ a.tail) ⊎ ((w2.tail ≡ a.tail + 1) × (at w2.queue.items a.tail ≡ m.index) × (stage a.stages.items m.index ≡ Unseen))
    new_tail Unseen u q t = inr (
      v2.along.tail ∙ v1.along.tail ∙ t,
      ap (λ z. at z a.tail) (v2.along.queue ∙ v1.along.queue ∙ q) ∙ at_new a.queue.items a.tail m (unseen_room a.stages.items a.queue.items a.head a.tail m.index k.queue u
          (let l : m.index < length b.stages.items = seen_in b.stages.items m.index up.placing.seen in omega (arith, up.kept.long, k.long))),
      u,
    )
    new_tail Queued u q t = inl (v2.along.tail ∙ v1.along.tail ∙ t)
    new_tail Blocked u q t = inl (v2.along.tail ∙ v1.along.tail ∙ t)
    new_tail Top u q t = inl (v2.along.tail ∙ v1.along.tail ∙ t)
    new_tail InRun u q t = inl (v2.along.tail ∙ v1.along.tail ∙ t)
    new_tail (Placed n) u q t = inl (v2.along.tail ∙ v1.along.tail ∙ t)

pub turned_parked : (f : Layout) (row : List ℕ) (a c : Climber) (x : NodeId) (view : NodeView) → Kept f row a → a.head < a.tail → x.index ≡ at a.queue.items a.head →
    Staged (more_parked a) c x (parked_as view) → Turned a c (at a.queue.items a.head)
turned_parked f row a c x view k lt e t =
    let lx : x.index < length a.stages.items = subst (λ z. z < length a.stages.items) (sym e) (seen_in a.stages.items (at a.queue.items a.head) (k.queue.seen a.head lt)) in
    let is : stage c.stages.items x.index ≡ parked_as view = ap (λ z. stage z x.index) t.stages ∙ set_here a.stages.items x.index (parked_as view) lx in
    subst (λ z. Turned a c z) e
    (turned_off (elim (parked_cases (near0 view.near)) [ inl p ↦ ap parked_one (is ∙ p.0) | inr p ↦ ap parked_one (is ∙ p.0) ])
    (λ y ne. ap (λ z. stage z y) t.stages ∙ set_there a.stages.items x.index y (parked_as view) ne) t.queue t.tail)

-- the ticks of a turn
pub risen_ticks : (s s1 s2 s3 p p1 p2 p3 : ℕ) → s1 ≡ s + 1 → p1 ≡ p → s2 + p2 ≡ s1 + p1 → s3 + p3 ≡ s2 + p2 → s3 + p3 ≤ s + p + 2
risen_ticks s s1 s2 s3 p p1 p2 p3 look rose walked again = omega arith

pub parked_ticks : (s s1 p p1 : ℕ) → s1 ≡ s + 1 → p1 ≡ p + 1 → s1 + p1 ≤ s + p + 2
parked_ticks s s1 p p1 look one = omega arith
