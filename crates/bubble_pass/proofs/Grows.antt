-- The run of blocked nodes grows in one direction.
use Rattle.std.proofs.Common.{◌≡◌, ◌≢◌, ◌⊎◌, inl, inr, ℕ, ◌+◌, ◌≤◌, ◌<◌, true, cond, eqb, List, [], ◌∷◌, ◌++◌, length, set, sum_by, Option, Some, None, refl, sym, ap, subst, ◌∙◌, arith, eq-eqb}
use Rattle.std.proofs.lemmas.Bool.{cases_eq, ne_eqb}
use Rattle.std.proofs.lemmas.List.{length-set, append-nil, append_assoc}
use Rattle.pq_arena.specs.declared.node.NodeId.{NodeId}
use Rattle.pq_arena.specs.declared.node.NodeView.{NodeView}
use Rattle.arena_model.specs.ChildLists.{none}
use Rattle.column_order.specs.Orders.{occurs}
use Rattle.arena_model.specs.Layout.{Layout, children_at, IsLayout}
use Rattle.arena_model.specs.ChildLists.{head_or, last_or}
use Rattle.pq_arena.specs.Looks.{ShowsNode, node_named}
use Rattle.arena_model.proofs.Slots.{child_used, not_none, child_at, parent_used}
use Rattle.column_order.proofs.Lists.{occurs-append}
use Rattle.arena_model.proofs.Lists.{last_or-append, occurs_here, occurs_other}
use Rattle.bubble_pass.specs.declared.climber.Stage.{Stage}
use Rattle.bubble_pass.specs.declared.climber.Stage.TheVariants.{Blocked, Top, InRun}
use Rattle.bubble_pass.specs.declared.climber.Climber.{Climber}
use Rattle.bubble_pass.specs.Climb.{stage, IsSeen, parked_one, Inner, Climb, Queue}
use Rattle.bubble_pass.specs.Moves.{Kept, Staged, blocked_in, InReach, beyond_in, past, near0, near1}
use Rattle.bubble_pass.specs.Ends.{RunIs, RightOf, LeftOf, CanGrow, Growing}
use Rattle.bubble_pass.proofs.Seats.{same_node, of_named, named_none, named_is, no_end, Last, last_split, beyond_near, Near}
use Rattle.bubble_pass.proofs.Marks.{seen_by, seen_in, set_here, set_there, climb_parking, queue_kept, queued_blocked, blocked_placed, sum_set}
use Rattle.bubble_pass.proofs.Walks.{blocked_is, blocked_count, less_parked}
use Rattle.bubble_pass.proofs.Turns.{inner_parent, reach_near}

pub beyond_other : (near : List (Option NodeId)) (a h : Option NodeId) (b : NodeId) → (near ≡ a ∷ h ∷ []) ⊎ (near ≡ h ∷ a ∷ []) → a ≡ Some b → beyond_in near b ≡ h
beyond_other near a h b (inl e) ab =
    ap (λ o. past o (near1 near) b) (ap near0 e ∙ ab) ∙ ap (λ t. cond t (near1 near) (Some b)) (eq-eqb b.index b.index refl) ∙ ap near1 e
beyond_other near a h b (inr e) ab = ap (λ o. past o (near1 near) b) (ap near0 e) ∙ ap (λ o. past h o b) (ap near1 e ∙ ab) ∙ at h
  where
    at : (o : Option NodeId) → past o (Some b) b ≡ o
    at None = refl
    at (Some y) = elim (cases_eq y.index b.index) [
      | inl q ↦ ap (λ t. cond t (Some b) (Some y)) (let t : eqb y.index b.index ≡ true = eq-eqb y.index b.index q in t) ∙ ap (λ z. Some z) (same_node b y (sym q))
      | inr ne ↦ ap (λ t. cond t (Some b) (Some y)) (ne_eqb y.index b.index ne)
    ]

-- a blocked node enters the run
pub kept_running : (f : Layout) (row : List ℕ) (b b1 : Climber) (x : NodeId) → Kept f row b → Staged b b1 x InRun → b1.parked ≡ b.parked →
    stage b.stages.items x.index ≡ Blocked → Kept f row (less_parked b1)
kept_running f row b b1 x k t tp bl =
    let st : List Stage = b.stages.items in
    let sx : IsSeen (stage st x.index) = seen_by (stage st x.index) Blocked bl tt in
    let lx : x.index < length st = seen_in st x.index sx in
    record {
      climb = subst (λ z. Climb f row z) (sym t.stages)
          (climb_parking f row st x.index InRun k.climb sx (λ n e. blocked_placed n (sym bl ∙ e)) tt (λ n e. cc) (λ e. absurd (let z : InRun ≡ Top = e in cc)) (λ e. absurd (let z : InRun ≡ Blocked = e in cc)));
      queue = subst (λ z. Queue z b1.queue.items b1.head b1.tail) (sym t.stages)
          (subst (λ z. Queue (set st x.index InRun) z b1.head b1.tail) (sym t.queue)
          (subst (λ z. Queue (set st x.index InRun) b.queue.items z b1.tail) (sym t.head)
          (subst (λ z. Queue (set st x.index InRun) b.queue.items b.head z) (sym t.tail)
          (queue_kept st b.queue.items b.head b.tail x.index InRun k.queue sx (λ e. queued_blocked (e ∙ bl)) tt (λ e. cc)))));
      count = let a : parked_one (stage st x.index) ≡ 1 = ap parked_one bl in
          let d : sum_by parked_one b1.stages.items ≡ sum_by parked_one (set st x.index InRun) = ap (λ z. sum_by parked_one z) t.stages in
          let c : b.parked ≡ sum_by parked_one st = k.count in
          let p : parked_one InRun ≡ 0 = refl in
          omega (arith, sum_set parked_one st x.index InRun lx);
      long = ap (λ (z : List Stage). length z) t.stages ∙ length-set st x.index InRun ∙ k.long;
      few = k.few;
    }

some_last : (us : List ℕ) (b : NodeId) → node_named (last_or us none) ≡ Some b → Last us b.index
some_last [] b e = absurd (let z : None ≡ Some b = sym named_none ∙ e in cc)
some_last (u ∷ us) b e = subst (λ z. Last (u ∷ us) z) (of_named (last_or us u) b e) (last_split u us)

pub record Head (vs : List ℕ) (x : ℕ) : Type 0 where
  pub rest : List ℕ
  pub is : vs ≡ x ∷ rest

some_head : (vs : List ℕ) (x : NodeId) → node_named (head_or vs none) ≡ Some x → Head vs x.index
some_head [] x e = absurd (let z : None ≡ Some x = sym named_none ∙ e in cc)
some_head (v ∷ vs) x e = record { rest = vs; is = ap (λ z. z ∷ vs) (of_named v x e) }

last_of : (us ks : List ℕ) (b : NodeId) → node_named (last_or ks none) ≡ Some b → last_or (us ++ ks) none ≡ last_or ks none
last_of us [] b e = absurd (let z : None ≡ Some b = sym named_none ∙ e in cc)
last_of us (k ∷ ks) b e = last_or-append us (k ∷ ks) none

head_of : (ks vs : List ℕ) (b : NodeId) → node_named (head_or ks none) ≡ Some b → head_or (ks ++ vs) none ≡ head_or ks none
head_of [] vs b e = absurd (let z : None ≡ Some b = sym named_none ∙ e in cc)
head_of (k ∷ ks) vs b e = refl

-- the writes of one step
pub record OneMore (st st' : List Stage) (x : ℕ) : Type 0 where
  pub here : stage st' x ≡ InRun
  pub there : (y : ℕ) → y ≢ x → stage st' y ≡ stage st y
  pub was : stage st x ≡ Blocked

run_more : (f : Layout) (st st' : List Stage) (q x : ℕ) (us ks vs us' ks' vs' : List ℕ) → RunIs f st q us ks vs → OneMore st st' x → ((z : ℕ) → occurs ks' z ≡ occurs (x ∷ []) z + occurs ks z) →
    children_at f q ≡ us' ++ (ks' ++ vs') → 1 ≤ length us' → 1 ≤ length vs' → RunIs f st' q us' ks' vs'
run_more f st st' q x us ks vs us' ks' vs' r m o is l rr = record {
  is_q = r.is_q;
  kids_are = is;
  left = l;
  right = rr;
  in_run = λ z oz. elim (cases_eq z x) [
    | inl e ↦ subst (λ y. stage st' y ≡ InRun) (sym e) m.here
    | inr ne ↦ m.there z ne ∙ r.in_run z (let a : occurs ks' z ≡ occurs (x ∷ []) z + occurs ks z = o z in let b : occurs (x ∷ []) z ≡ 0 = occurs_other x z [] ne in omega arith)
  ];
  only = λ z e. let a : occurs ks' z ≡ occurs (x ∷ []) z + occurs ks z = o z in elim (cases_eq z x) [
    | inl i ↦ let b : 1 ≤ occurs (x ∷ []) z = subst (λ y. 1 ≤ occurs (x ∷ []) y) (sym i) (occurs_here x []) in omega arith
    | inr ne ↦ let b : 1 ≤ occurs ks z = r.only z (sym (m.there z ne) ∙ e) in omega arith
  ];
}

pub record StepRight (f : Layout) (st : List Stage) (q : ℕ) (us ks vs : List ℕ) (x : NodeId) (next : Option NodeId) : Type 0 where
  pub rest : List ℕ
  pub side : RightOf f st q us (ks ++ x.index ∷ []) rest (Some x) next

pub step_right : (f : Layout) (st st' : List Stage) (q : ℕ) (us ks vs : List ℕ) (before x : NodeId) (view : NodeView) → IsLayout f → RightOf f st q us ks vs (Some before) (Some x) →
    ShowsNode f x.index view → Inner f x.index → OneMore st st' x.index → StepRight f st' q us ks vs x (beyond_in view.near before)
step_right f st st' q us ks vs before x view h r s i m =
    let hd : Head vs x.index = some_head vs x (sym r.2) in
    let k0 : children_at f q ≡ us ++ (ks ++ x.index ∷ hd.rest) = r.0.kids_are ∙ ap (λ z. us ++ (ks ++ z)) hd.is in
    let k1 : children_at f q ≡ (us ++ ks) ++ x.index ∷ hd.rest = k0 ∙ sym (append_assoc us ks (x.index ∷ hd.rest)) in
    let k2 : children_at f q ≡ us ++ ((ks ++ x.index ∷ []) ++ hd.rest) = k0 ∙ ap (λ z. us ++ z) (sym (append_assoc ks (x.index ∷ []) hd.rest)) in
    let see = s.run q (us ++ ks) hd.rest r.0.is_q k1 in
    let nq : q ≢ none = not_none f q h (parent_used f q x.index (child_at f q x.index (us ++ ks) hd.rest k1) h) in
    let ends = no_end q (us ++ ks) hd.rest nq (sym see.0 ∙ inner_parent f x.index view h s i) in
    let bl : node_named (last_or (us ++ ks) none) ≡ Some before = ap node_named (last_of us ks before (sym r.1)) ∙ sym r.1 in
    record {
      rest = hd.rest;
      side = (
        run_more f st st' q x.index us ks vs us (ks ++ x.index ∷ []) hd.rest r.0 m (λ z. omega (arith, occurs-append ks (x.index ∷ []) z)) k2 r.0.left ends.1,
        sym (ap node_named (last_or-append ks (x.index ∷ []) none) ∙ named_is x.index (not_none f x.index h (child_used f q x.index h (child_at f q x.index (us ++ ks) hd.rest k1)))),
        beyond_other view.near (node_named (last_or (us ++ ks) none)) (node_named (head_or hd.rest none)) before see.1 bl,
      );
    }

pub record StepLeft (f : Layout) (st : List Stage) (q : ℕ) (us ks vs : List ℕ) (x : NodeId) (next : Option NodeId) : Type 0 where
  pub rest : List ℕ
  pub side : LeftOf f st q rest (x.index ∷ ks) vs (Some x) next

pub step_left : (f : Layout) (st st' : List Stage) (q : ℕ) (us ks vs : List ℕ) (before x : NodeId) (view : NodeView) → IsLayout f → LeftOf f st q us ks vs (Some before) (Some x) →
    ShowsNode f x.index view → Inner f x.index → OneMore st st' x.index → StepLeft f st' q us ks vs x (beyond_in view.near before)
step_left f st st' q us ks vs before x view h r s i m =
    let la : Last us x.index = some_last us x (sym r.2) in
    let k1 : children_at f q ≡ la.front ++ x.index ∷ (ks ++ vs) = r.0.kids_are ∙ ap (λ z. z ++ (ks ++ vs)) la.is ∙ append_assoc la.front (x.index ∷ []) (ks ++ vs) in
    let see = s.run q la.front (ks ++ vs) r.0.is_q k1 in
    let nq : q ≢ none = not_none f q h (parent_used f q x.index (child_at f q x.index la.front (ks ++ vs) k1) h) in
    let ends = no_end q la.front (ks ++ vs) nq (sym see.0 ∙ inner_parent f x.index view h s i) in
    let bl : node_named (head_or (ks ++ vs) none) ≡ Some before = ap node_named (head_of ks vs before (sym r.1)) ∙ sym r.1 in
    record {
      rest = la.front;
      side = (
        run_more f st st' q x.index us ks vs la.front (x.index ∷ ks) vs r.0 m (λ z. omega arith) k1 ends.0 r.0.right,
        sym (named_is x.index (not_none f x.index h (child_used f q x.index h (child_at f q x.index la.front (ks ++ vs) k1)))),
        beyond_other view.near (node_named (head_or (ks ++ vs) none)) (node_named (last_or la.front none)) before (elim see.1 [ inl e ↦ inr e | inr e ↦ inl e ]) bl,
      );
    }

pub grow_start : (f : Layout) (row : List ℕ) (a : Climber) (from : NodeId) (to : Option NodeId) (s : ℕ) → CanGrow f row a from to → Growing f row a a from from to to s s
grow_start f row a from to s can = record {
  can = can;
  right = λ q us ks vs r. record { more = []; vs = vs; run = subst (λ z. RunIs f a.stages.items q us z vs) (sym (append-nil ks)) r.0; at = r.1 ∙ ap (λ z. node_named (last_or z none)) (sym (append-nil ks)); to = r.2 };
  left = λ q us ks vs r. record { more = []; us = us; run = r.0; at = r.1; to = r.2 };
  ticks = refl;
  head = refl;
  tail = refl;
  same = λ x e. refl;
  was = λ x e. inl e;
}

pub grow_step : (f : Layout) (row : List ℕ) (a b b1 : Climber) (from before x : NodeId) (to next next' : Option NodeId) (view : NodeView) (s0 s s' : ℕ) →
    IsLayout f → Growing f row a b from before to next s0 s → blocked_in b.stages.items next ≡ Some x → ShowsNode f x.index view →
    Staged b b1 x InRun → b1.parked ≡ b.parked → next' ≡ beyond_in view.near before → s' ≡ s + 1 →
    Growing f row a (less_parked b1) from x to next' s0 s'
grow_step f row a b b1 from before x to next next' view s0 s s' h w bx sh t tp ne' ticks =
    let st : List Stage = b.stages.items in
    let bl = blocked_is st next x bx in
    let lx : x.index < length st = seen_in st x.index (seen_by (stage st x.index) Blocked bl.1 tt) in
    let k : Kept f row (less_parked b1) = kept_running f row b b1 x w.can.kept t tp bl.1 in
    let i : Inner f x.index = w.can.kept.climb.inner x.index bl.1 in
    let m : OneMore st b1.stages.items x.index = record {
      here = ap (λ z. stage z x.index) t.stages ∙ set_here st x.index InRun lx;
      there = λ y ne. ap (λ z. stage z y) t.stages ∙ set_there st x.index y InRun ne;
      was = bl.1;
    } in
    let reach : InReach b1.stages.items next' = reach_near f b1.stages.items x.index view next' h sh k.long (subst (λ z. Near view.near z) (sym ne') (beyond_near view.near before)) in
    let to_right : (q : ℕ) (us ks vs : List ℕ) → RightOf f st q us ks vs (Some before) next → StepRight f b1.stages.items q us ks vs x next' =
    (λ q us ks vs r. subst (λ z. StepRight f b1.stages.items q us ks vs x z) (sym ne')
    (step_right f st b1.stages.items q us ks vs before x view h (subst (λ z. RightOf f st q us ks vs (Some before) z) bl.0 r) sh i m)) in
    let to_left : (q : ℕ) (us ks vs : List ℕ) → LeftOf f st q us ks vs (Some before) next → StepLeft f b1.stages.items q us ks vs x next' =
    (λ q us ks vs r. subst (λ z. StepLeft f b1.stages.items q us ks vs x z) (sym ne')
    (step_left f st b1.stages.items q us ks vs before x view h (subst (λ z. LeftOf f st q us ks vs (Some before) z) bl.0 r) sh i m)) in
    record {
      can = elim w.can.side [
        | inl r ↦ let e = to_right w.can.q w.can.us w.can.ks w.can.vs r in
            record { kept = k; reach = reach; q = w.can.q; us = w.can.us; ks = w.can.ks ++ x.index ∷ []; vs = e.rest; side = inl e.side }
        | inr r ↦ let e = to_left w.can.q w.can.us w.can.ks w.can.vs r in
            record { kept = k; reach = reach; q = w.can.q; us = e.rest; ks = x.index ∷ w.can.ks; vs = w.can.vs; side = inr e.side }
      ];
      right = λ q us ks vs r.
          let g = w.right q us ks vs r in
          let e = to_right q us (ks ++ g.more) g.vs (g.run, g.at, g.to) in
          let lists : (ks ++ g.more) ++ x.index ∷ [] ≡ ks ++ (g.more ++ x.index ∷ []) = append_assoc ks g.more (x.index ∷ []) in
          record {
            more = g.more ++ x.index ∷ [];
            vs = e.rest;
            run = subst (λ z. RunIs f b1.stages.items q us z e.rest) lists e.side.0;
            at = e.side.1 ∙ ap (λ z. node_named (last_or z none)) lists;
            to = e.side.2;
          };
      left = λ q us ks vs r.
          let g = w.left q us ks vs r in
          let e = to_left q g.us (g.more ++ ks) vs (g.run, g.at, g.to) in
          record { more = x.index ∷ g.more; us = e.rest; run = e.side.0; at = e.side.1; to = e.side.2 };
      ticks = let one : 1 ≤ sum_by parked_one st = blocked_count st x.index bl.1 in let c : b.parked ≡ sum_by parked_one st = w.can.kept.count in
          let q : s + b.parked ≡ s0 + a.parked = w.ticks in omega arith;
      head = t.head ∙ w.head;
      tail = t.tail ∙ w.tail;
      same = λ y e.
          let ny : y ≢ x.index = (λ q. e (subst (λ z. stage b1.stages.items z ≡ InRun) (sym q) m.here)) in
          m.there y ny ∙ w.same y (λ d. e (m.there y ny ∙ d));
      was = λ y e. elim (cases_eq y x.index) [
        | inl q ↦ inr (sym (w.same y (λ d. let z = sym d ∙ subst (λ v. stage st v ≡ Blocked) (sym q) bl.1 in cc)) ∙ subst (λ v. stage st v ≡ Blocked) (sym q) bl.1)
        | inr ne ↦ w.was y (sym (m.there y ne) ∙ e)
      ];
    }
