-- The walk over blocked nodes.
use Rattle.std.proofs.Common.{◌≡◌, ◌≢◌, inl, inr, ℕ, ◌+◌, ◌-◌, ◌≤◌, ◌<◌, List, length, set, sum_by, Option, Some, None, refl, sym, ap, subst, ◌∙◌, arith}
use Rattle.std.proofs.lemmas.Bool.{cases_eq}
use Rattle.std.proofs.lemmas.List.{length-set}
use Rattle.std.proofs.lemmas.List.Sums.{get_or-le-sum_by}
use Rattle.pq_arena.specs.declared.node.NodeId.{NodeId}
use Rattle.pq_arena.specs.declared.node.NodeView.{NodeView}
use Rattle.arena_model.specs.ChildLists.{none}
use Rattle.column_order.specs.Orders.{occurs}
use Rattle.arena_model.specs.Layout.{Layout, children_at, IsInUse, IsLayout}
use Rattle.pq_arena.specs.Looks.{ShowsNode, index_or_none}
use Rattle.arena_model.proofs.Slots.{in_range, not_none}
use Rattle.arena_model.proofs.Slots.{some_inj}
use Rattle.bubble_pass.specs.declared.climber.Stage.{Stage}
use Rattle.bubble_pass.specs.declared.climber.Stage.TheVariants.{Unseen, Queued, Blocked, Top, InRun, Placed}
use Rattle.bubble_pass.specs.declared.climber.Climber.{Climber}
use Rattle.bubble_pass.specs.Climb.{stage, IsSeen, parked_one, Beside, Climb, Queue}
use Rattle.bubble_pass.specs.Moves.{Kept, Staged, blocked_in, blocked_one, InReach, Walking, Walked, beyond_in}
use Rattle.bubble_pass.proofs.Seats.{Near, beside_near, beyond_is, beyond_near, beside_parent, beside_back, near_used, inner_near}
use Rattle.bubble_pass.proofs.Marks.{seen_by, seen_in, queued_placed, queued_blocked, blocked_placed, set_here, set_there, placing_seen, climb_placing, queue_kept, sum_set}

-- what blocked_at answers
pub blocked_is : (st : List Stage) (next : Option NodeId) (x : NodeId) → blocked_in st next ≡ Some x → (next ≡ Some x) × (stage st x.index ≡ Blocked)
blocked_is st None x e = absurd (let z : None ≡ Some x = e in cc)
blocked_is st (Some y) x e = at (stage st y.index) refl e
  where
    at : (s : Stage) → stage st y.index ≡ s → blocked_one s y ≡ Some x → (Some y ≡ Some x) × (stage st x.index ≡ Blocked)
    at Unseen q i = absurd (let z : None ≡ Some x = i in cc)
    at Queued q i = absurd (let z : None ≡ Some x = i in cc)
    at Blocked q i = (i, subst (λ (z : NodeId). stage st z.index ≡ Blocked) (some_inj y x i) q)
    at Top q i = absurd (let z : None ≡ Some x = i in cc)
    at InRun q i = absurd (let z : None ≡ Some x = i in cc)
    at (Placed k) q i = absurd (let z : None ≡ Some x = i in cc)

pub blocked_not : (st : List Stage) (next : Option NodeId) (y : ℕ) → blocked_in st next ≡ None → stage st y ≡ Blocked → y ≢ none → y ≢ index_or_none next
blocked_not st None y e b ne q = ne q
blocked_not st (Some x) y e b ne q =
    let z : Some x ≡ None = ap (λ s. blocked_one s x) (sym (subst (λ k. stage st k ≡ Blocked) q b)) ∙ e in
    cc

pub reach_of : (st : List Stage) (o : Option NodeId) → ((y : NodeId) → o ≡ Some y → y.index < length st) → InReach st o
reach_of st None h = tt
reach_of st (Some y) h = h y refl

placed_blocked : (st : List Stage) (x : ℕ) (k : NodeId) → stage st x ≡ Blocked → stage st x ≡ Placed k → ⊥
placed_blocked st x k b p = blocked_placed k (sym b ∙ p)

pub blocked_count : (st : List Stage) (x : ℕ) → stage st x ≡ Blocked → 1 ≤ sum_by parked_one st
blocked_count st x e =
    let a : parked_one (stage st x) ≤ sum_by parked_one st = get_or-le-sum_by parked_one st x Unseen (seen_in st x (seen_by (stage st x) Blocked e tt)) in
    let b : parked_one (stage st x) ≡ 1 = ap parked_one e in
    omega arith

-- a blocked node is in use, and some node is parked
pub record BlockedNode (f : Layout) (w : Climber) (x : ℕ) : Type 0 where
  pub used : IsInUse f x
  pub inside : x < length w.stages.items
  pub parked : 1 ≤ w.parked

pub blocked_node : (f : Layout) (row : List ℕ) (w : Climber) (next : Option NodeId) (x : NodeId) → Kept f row w → blocked_in w.stages.items next ≡ Some x → BlockedNode f w x.index
blocked_node f row w next x k e =
    let bl = blocked_is w.stages.items next x e in
    let seen : IsSeen (stage w.stages.items x.index) = seen_by (stage w.stages.items x.index) Blocked bl.1 tt in
    record {
      used = k.climb.used x.index seen;
      inside = seen_in w.stages.items x.index seen;
      parked = subst (λ n. 1 ≤ n) (sym k.count) (blocked_count w.stages.items x.index bl.1);
    }

pub one_less : (a b : ℕ) → 1 ≤ a → b ≡ a → b - 1 < a
one_less a b some same = omega arith

abbrev pub less_parked : Climber → Climber
less_parked b = record b { parked = b.parked - 1 }

pub kept_placing : (f : Layout) (row : List ℕ) (b b1 : Climber) (x m : NodeId) → IsLayout f → Kept f row b → Staged b b1 x (Placed m) → b1.parked ≡ b.parked →
    stage b.stages.items x.index ≡ Blocked → IsSeen (stage b.stages.items m.index) → 1 ≤ occurs (children_at f m.index) x.index → (y : ℕ) × (stage b.stages.items y ≡ Placed m) → Kept f row (less_parked b1)
kept_placing f row b b1 x m h k t tp bl sm o side =
    let st : List Stage = b.stages.items in
    let sx : IsSeen (stage st x.index) = seen_by (stage st x.index) Blocked bl tt in
    let lx : x.index < length st = seen_in st x.index sx in
    record {
      climb = subst (λ z. Climb f row z) (sym t.stages)
          (climb_placing f row st (set st x.index (Placed m)) x.index m h k.climb (placing_seen st x.index m sx sm) sx (λ n e. placed_blocked st x.index n bl e) o (inr side));
      queue = subst (λ z. Queue z b1.queue.items b1.head b1.tail) (sym t.stages)
          (subst (λ z. Queue (set st x.index (Placed m)) z b1.head b1.tail) (sym t.queue)
          (subst (λ z. Queue (set st x.index (Placed m)) b.queue.items z b1.tail) (sym t.head)
          (subst (λ z. Queue (set st x.index (Placed m)) b.queue.items b.head z) (sym t.tail)
          (queue_kept st b.queue.items b.head b.tail x.index (Placed m) k.queue sx (λ e. queued_blocked (e ∙ bl)) tt (queued_placed m)))));
      count = let a : parked_one (stage st x.index) ≡ 1 = ap parked_one bl in
          let d : sum_by parked_one b1.stages.items ≡ sum_by parked_one (set st x.index (Placed m)) = ap (λ z. sum_by parked_one z) t.stages in
          let c : b.parked ≡ sum_by parked_one st = k.count in
          let p : parked_one (Placed m) ≡ 0 = refl in
          omega (arith, sum_set parked_one st x.index (Placed m) lx);
      long = ap (λ (z : List Stage). length z) t.stages ∙ length-set st x.index (Placed m) ∙ k.long;
      few = k.few;
    }

pub walk_step : (f : Layout) (row : List ℕ) (a b b1 : Climber) (m from before x : NodeId) (to next next' : Option NodeId) (view : NodeView) (s0 s s' : ℕ) →
    IsLayout f → Walking f row a b m from before to next s0 s → blocked_in b.stages.items next ≡ Some x → ShowsNode f x.index view →
    Staged b b1 x (Placed m) → b1.parked ≡ b.parked → next' ≡ beyond_in view.near before → s' ≡ s + 1 →
    Walking f row a (less_parked b1) m from x to next' s0 s'
walk_step f row a b b1 m from before x to next next' view s0 s s' h w bx sh t tp ne' ticks =
    let st : List Stage = b.stages.items in
    let st' : List Stage = set st x.index (Placed m) in
    let bl = blocked_is st next x bx in
    let side : Beside f x.index before.index = w.can.beside x bx in
    let ab = w.can.kept.climb.above before.index m w.can.placed in
    let o : 1 ≤ occurs (children_at f m.index) x.index = beside_parent f x.index before.index m.index h side ab.0 in
    let k : Kept f row (less_parked b1) = kept_placing f row b b1 x m h w.can.kept t tp bl.1 ab.1 o (before.index, w.can.placed) in
    let sx : IsSeen (stage st x.index) = seen_by (stage st x.index) Blocked bl.1 tt in
    let lx : x.index < length st = seen_in st x.index sx in
    let here : stage b1.stages.items x.index ≡ Placed m = ap (λ z. stage z x.index) t.stages ∙ set_here st x.index (Placed m) lx in
    let there : (y : ℕ) → y ≢ x.index → stage b1.stages.items y ≡ stage st y = (λ y ne. ap (λ z. stage z y) t.stages ∙ set_there st x.index y (Placed m) ne) in
    let near' : Near view.near next' = subst (λ z. Near view.near z) (sym ne') (beyond_near view.near before) in
    record {
      can = record {
        kept = k;
        placed = here;
        reach = reach_of b1.stages.items next' (λ y e.
            let l : y.index < length f.slots = in_range f y.index (near_used f x.index view y h sh (subst (λ z. Near view.near z) e near')) in
            let q : length b1.stages.items ≡ length f.slots = k.long in omega arith);
        beside = λ y e. let by = blocked_is b1.stages.items next' y e in
            beside_back f x.index y.index (inner_near f x.index view y h sh (subst (λ z. Near view.near z) by.0 near') (k.climb.inner y.index by.1));
      };
      free = λ c d fr y z n be yb zp. elim (cases_eq y x.index) [
        | inl e ↦ absurd (placed_blocked b1.stages.items x.index m (subst (λ v. stage b1.stages.items v ≡ Blocked) e yb) here)
        | inr ny ↦ let yb0 : stage st y ≡ Blocked = sym (there y ny) ∙ yb in
            let yu : IsInUse f y = w.can.kept.climb.used y (seen_by (stage st y) Blocked yb0 tt) in
            elim (cases_eq z x.index) [
              | inl e ↦
                  let yi : NodeId = record { index = y } in
                  let xy : Beside f x.index y = beside_back f y x.index (subst (λ v. Beside f y v) e be) in
                  let bu : IsInUse f before.index = w.can.kept.climb.used before.index (seen_by (stage st before.index) (Placed m) w.can.placed tt) in
                  let n1 : Near view.near (Some yi) = beside_near f x.index view yi sh xy (not_none f y h yu) in
                  let n2 : Near view.near (Some before) = beside_near f x.index view before sh side (not_none f before.index h bu) in
                  let yne : y ≢ before.index = (λ q. placed_blocked st before.index m (subst (λ v. stage st v ≡ Blocked) q yb0) w.can.placed) in
                  let is : next' ≡ Some yi = ne' ∙ beyond_is view.near before yi n2 n1 yne in
                  inl (sym (ap index_or_none is), e)
              | inr nz ↦ elim (w.free c d fr y z n be yb0 (sym (there z nz) ∙ zp)) [
                | inl p ↦ absurd (ny (p.0 ∙ ap index_or_none bl.0))
                | inr p ↦ inr p
              ]
            ]
      ];
      along = record {
        head = t.head ∙ w.along.head;
        tail = t.tail ∙ w.along.tail;
        ticks = let one : 1 ≤ sum_by parked_one st = blocked_count st x.index bl.1 in let c : b.parked ≡ sum_by parked_one st = w.can.kept.count in
            let q : s + b.parked ≡ s0 + a.parked = w.along.ticks in omega arith;
        start = there from.index (λ e. placed_blocked st x.index m bl.1 (subst (λ v. stage st v ≡ Placed m) e w.along.start)) ∙ w.along.start;
        runs = λ y e. elim (cases_eq y x.index) [
          | inl q ↦ absurd (let z = sym (subst (λ v. stage b1.stages.items v ≡ InRun) q e) ∙ here in cc)
          | inr ne ↦ w.along.runs y (sym (there y ne) ∙ e)
        ];
        queue = t.queue ∙ w.along.queue;
        rest = λ y. elim (cases_eq y x.index) [
          | inl q ↦ elim (w.along.rest y) [
            | inl e ↦ inr (sym e ∙ subst (λ v. stage st v ≡ Blocked) (sym q) bl.1, subst (λ v. stage b1.stages.items v ≡ Placed m) (sym q) here)
            | inr e ↦ absurd (let z = sym (subst (λ v. stage st v ≡ Placed m) q e.1) ∙ bl.1 in cc)
          ]
          | inr ne ↦ elim (w.along.rest y) [
            | inl e ↦ inl (there y ne ∙ e)
            | inr e ↦ inr (e.0, there y ne ∙ e.1)
          ]
        ];
      };
    }

pub walk_end : (f : Layout) (row : List ℕ) (a b : Climber) (m from before : NodeId) (to next : Option NodeId) (s0 s : ℕ) →
    IsLayout f → Walking f row a b m from before to next s0 s → blocked_in b.stages.items next ≡ None → Walked f row a b m from to s0 s
walk_end f row a b m from before to next s0 s h w e = record {
  kept = w.can.kept;
  free = λ c d fr y z n be yb zp.
      let yu : IsInUse f y = w.can.kept.climb.used y (seen_by (stage b.stages.items y) Blocked yb tt) in
      elim (w.free c d fr y z n be yb zp) [
        | inl p ↦ absurd (blocked_not b.stages.items next y e yb (not_none f y h yu) p.0)
        | inr p ↦ inl p
      ];
  along = w.along;
}
