-- What the end of the climb says.
use Rattle.std.proofs.Common.{◌≡◌, ◌≢◌, ◌⊎◌, inl, inr, ℕ, ◌+◌, ◌≤◌, ◌<◌, List, [], ◌∷◌, ◌++◌, length, set, sum_by, Option, Some, refl, sym, ap, subst, ◌∙◌, arith}
use Rattle.std.proofs.lemmas.Bool.{cases_eq}
use Rattle.arena_model.proofs.Outlines.{apart_children}
use Rattle.pq_arena.specs.declared.node.NodeId.{NodeId}
use Rattle.pq_arena.specs.declared.node.NodeView.{NodeView}
use Rattle.arena_model.specs.ChildLists.{none}
use Rattle.column_order.specs.Orders.{occurs}
use Rattle.arena_model.specs.Layout.{Layout, children_at, times_child, IsAtOrAbove, down, IsLayout}
use Rattle.arena_model.proofs.Slots.{children_times, not_none}
use Rattle.arena_model.specs.ChildLists.{head_or, last_or}
use Rattle.pq_arena.specs.Looks.{ShowsNode, index_or_none, node_named}
use Rattle.column_order.proofs.Lists.{occurs-append}
use Rattle.arena_model.proofs.Lists.{occurs_here, only_one, last_or-append}
use Rattle.bubble_pass.specs.declared.climber.Stage.{Stage}
use Rattle.bubble_pass.specs.declared.climber.Stage.TheVariants.{Unseen, Queued, Blocked, Top, InRun, Placed}
use Rattle.bubble_pass.specs.declared.climber.Climber.{Climber}
use Rattle.bubble_pass.specs.Climb.{stage, at, IsSeen, IsOpen, parked_one, Inner}
use Rattle.bubble_pass.specs.Moves.{Kept, Ready, Staged, near0, near1}
use Rattle.arena_model.specs.RowLeaves.{Holds}
use Rattle.bubble_pass.specs.Found.{Inside}
use Rattle.bubble_pass.specs.Ends.{AreLeaves, IsOver, RunIs, CanGrow, Grown, OnlyOpen, OnlyRun}
use Rattle.bubble_pass.proofs.Seats.{named_is, first, second}
use Rattle.bubble_pass.proofs.Marks.{seen_by, seen_in, set_here, set_there, sum_set}
use Rattle.bubble_pass.proofs.Walks.{blocked_not, less_parked}
use Rattle.bubble_pass.proofs.Turns.{reach_near}
use Rattle.bubble_pass.proofs.Grows.{kept_running}
use Rattle.bubble_pass.proofs.Opens.{Below, climbs, one_open, open_cases, queued_at, two_parked, parked_some, some_parked, parked_seen, reached_meets, one_child}

-- while one node is queued and none is parked
pub queued_only : (f : Layout) (row : List ℕ) (a : Climber) (x : NodeId) → Ready f row a → IsOver a → a.head < a.tail → x.index ≡ at a.queue.items a.head → (y : ℕ) → IsOpen (stage a.stages.items y) → y ≡ x.index
queued_only f row a x r over lt e = λ y o.
    let k : Kept f row a = r.kept in
    let facts : (a.head + 1 ≡ a.tail) × (a.parked ≡ 0) = (elim over [ inl q ↦ absurd (omega arith) | inr q ↦ q ]) in
    let last : a.head + 1 ≡ a.tail = facts.0 in
    let zero_parked : sum_by parked_one a.stages.items ≡ 0 = sym k.count ∙ facts.1 in
    elim (open_cases (stage a.stages.items y) o) [
      | inl q ↦ let i = queued_at a.stages.items a.queue.items a.head a.tail y k.queue q in
          let lo : a.head ≤ i.0 = i.1 in let hi : i.0 < a.tail = i.2 in
          sym i.3 ∙ ap (λ j. at a.queue.items j) (let j : i.0 ≡ a.head = omega arith in j) ∙ sym e
      | inr s ↦ elim s [
        | inl p ↦ absurd (let l : 1 ≤ sum_by parked_one a.stages.items = parked_some a.stages.items y p in omega arith)
        | inr i ↦ absurd (r.free.runs y i)
      ]
    ]

pub end_queued : (f : Layout) (row : List ℕ) (a : Climber) (x : NodeId) → IsLayout f → AreLeaves f row → Ready f row a → IsOver a → a.head < a.tail → x.index ≡ at a.queue.items a.head → Holds f row x.index
end_queued f row a x h w r over lt e = one_open f row a.stages.items x.index h r.kept.climb w (queued_only f row a x r over lt e)

-- no node is queued any more
pub no_queued : (f : Layout) (row : List ℕ) (a : Climber) → Kept f row a → a.tail ≤ a.head → (y : ℕ) → stage a.stages.items y ≢ Queued
no_queued f row a k ge y q =
    let i = queued_at a.stages.items a.queue.items a.head a.tail y k.queue q in
    let lo : a.head ≤ i.0 = i.1 in let hi : i.0 < a.tail = i.2 in absurd (omega arith)

open_parked : (f : Layout) (row : List ℕ) (a : Climber) → Ready f row a → a.tail ≤ a.head → (y : ℕ) → IsOpen (stage a.stages.items y) → parked_one (stage a.stages.items y) ≡ 1
open_parked f row a r ge y o = elim (open_cases (stage a.stages.items y) o) [
  | inl q ↦ absurd (no_queued f row a r.kept ge y q)
  | inr s ↦ elim s [ inl p ↦ p | inr i ↦ absurd (r.free.runs y i) ]
]

pub end_some : (f : Layout) (row : List ℕ) (a : Climber) → IsLayout f → AreLeaves f row → Ready f row a → a.tail ≤ a.head → 1 ≤ a.parked
end_some f row a h w r ge =
    let b : Below f a.stages.items f.root w.some.0 = climbs f row a.stages.items h r.kept.climb w w.some.0 w.some.1 in
    let l : 1 ≤ sum_by parked_one a.stages.items = parked_some a.stages.items b.y (open_parked f row a r ge b.y b.open_is) in
    let c : a.parked ≡ sum_by parked_one a.stages.items = r.kept.count in omega arith

pub parked_only : (f : Layout) (row : List ℕ) (a : Climber) (y : ℕ) → Ready f row a → a.tail ≤ a.head → a.parked ≡ 1 → parked_one (stage a.stages.items y) ≡ 1 → (z : ℕ) → IsOpen (stage a.stages.items z) → z ≡ y
parked_only f row a y r ge one p = λ z o. elim (cases_eq z y) [
  | inl e ↦ e
  | inr ne ↦ absurd (let l : 2 ≤ sum_by parked_one a.stages.items = two_parked a.stages.items z y (open_parked f row a r ge z o) p ne in
      let c : a.parked ≡ sum_by parked_one a.stages.items = r.kept.count in omega arith)
]

pub end_one : (f : Layout) (row : List ℕ) (a : Climber) (y : ℕ) → IsLayout f → AreLeaves f row → Ready f row a → a.tail ≤ a.head → a.parked ≡ 1 → parked_one (stage a.stages.items y) ≡ 1 → Holds f row y
end_one f row a y h w r ge one p = one_open f row a.stages.items y h r.kept.climb w (parked_only f row a y r ge one p)

-- where all open nodes are one, none is above another
pub flat_one : (f : Layout) (st : List Stage) (x : ℕ) → ((y : ℕ) → IsOpen (stage st y) → y ≡ x) → (y n : ℕ) → IsOpen (stage st y) → IsOpen (stage st n) → IsAtOrAbove f.slots n y → n ≡ y
flat_one f st x only y n oy on l = only n on ∙ sym (only y oy)

pub parked_somewhere : (f : Layout) (row : List ℕ) (a : Climber) → Kept f row a → 1 ≤ a.parked → ((k : ℕ) → k < a.tail → parked_one (stage a.stages.items (at a.queue.items k)) ≡ 0) → ⊥
parked_somewhere f row a k l none_is =
    let r = some_parked a.stages.items (let c : a.parked ≡ sum_by parked_one a.stages.items = k.count in omega arith) in
    let q = k.queue.all r.0 (parked_seen (stage a.stages.items r.0) r.1) in
    let z : parked_one (stage a.stages.items r.0) ≡ 0 = subst (λ y. parked_one (stage a.stages.items y) ≡ 0) q.2 (none_is q.0 q.1) in
    let o : parked_one (stage a.stages.items r.0) ≡ 1 = r.1 in absurd (omega arith)

-- the run begins with y
pub record Start (f : Layout) (row : List ℕ) (a b : Climber) (y : NodeId) (near : List (Option NodeId)) : Type 0 where
  pub kept : Kept f row b
  pub q : ℕ
  pub us : List ℕ
  pub vs : List ℕ
  pub run : RunIs f b.stages.items q us (y.index ∷ []) vs
  pub sides : (near ≡ node_named (last_or us none) ∷ node_named (head_or vs none) ∷ []) ⊎ (near ≡ node_named (head_or vs none) ∷ node_named (last_or us none) ∷ [])
  pub y_named : node_named y.index ≡ Some y
  pub here : stage b.stages.items y.index ≡ InRun
  pub there : (z : ℕ) → z ≢ y.index → stage b.stages.items z ≡ stage a.stages.items z
  pub head : b.head ≡ a.head
  pub tail : b.tail ≡ a.tail
  pub parked : b.parked + 1 ≡ a.parked

pub run_start : (f : Layout) (row : List ℕ) (a b1 : Climber) (y : NodeId) (view : NodeView) → IsLayout f → Ready f row a → stage a.stages.items y.index ≡ Blocked → 1 ≤ a.parked →
    ShowsNode f y.index view → Staged a b1 y InRun → b1.parked ≡ a.parked → Start f row a (less_parked b1) y view.near
run_start f row a b1 y view h r bl some s t tp =
    let i : Inner f y.index = r.kept.climb.inner y.index bl in
    let ly : y.index < length a.stages.items = seen_in a.stages.items y.index (seen_by (stage a.stages.items y.index) Blocked bl tt) in
    let here : stage b1.stages.items y.index ≡ InRun = ap (λ z. stage z y.index) t.stages ∙ set_here a.stages.items y.index InRun ly in
    let there : (z : ℕ) → z ≢ y.index → stage b1.stages.items z ≡ stage a.stages.items z = (λ z ne. ap (λ v. stage v z) t.stages ∙ set_there a.stages.items y.index z InRun ne) in
    record {
      kept = kept_running f row a b1 y r.kept t tp bl;
      q = i.q;
      us = i.us;
      vs = i.vs;
      run = record {
        is_q = i.is_q;
        kids_are = i.kids_are;
        left = i.left;
        right = i.right;
        in_run = λ z o. subst (λ v. stage b1.stages.items v ≡ InRun) (sym (only_one z y.index o)) here;
        only = λ z e. elim (cases_eq z y.index) [
          | inl q ↦ subst (λ v. 1 ≤ occurs (y.index ∷ []) v) (sym q) (occurs_here y.index [])
          | inr ne ↦ absurd (r.free.runs z (sym (there z ne) ∙ e))
        ];
      };
      sides = (s.run i.q i.us i.vs i.is_q i.kids_are).1;
      y_named = named_is y.index (not_none f y.index h (r.kept.climb.used y.index (seen_by (stage a.stages.items y.index) Blocked bl tt)));
      here = here;
      there = there;
      head = t.head;
      tail = t.tail;
      parked = omega arith;
    }

-- so it is where a blocked node is found once all turns are over
pub run_begun : (f : Layout) (row : List ℕ) (a b1 : Climber) (y : NodeId) (view : NodeView) → IsLayout f → AreLeaves f row → Ready f row a → a.tail ≤ a.head → stage a.stages.items y.index ≡ Blocked →
    ShowsNode f y.index view → Staged a b1 y InRun → b1.parked ≡ a.parked → Start f row a (less_parked b1) y view.near
run_begun f row a b1 y view h w r ge bl s t tp = run_start f row a b1 y view h r bl (end_some f row a h w r ge) s t tp

pub grow_first : (f : Layout) (row : List ℕ) (a b : Climber) (y : NodeId) (view : NodeView) → IsLayout f → ShowsNode f y.index view → Start f row a b y view.near → CanGrow f row b y (near0 view.near)
grow_first f row a b y view h s t = record {
  kept = t.kept;
  reach = reach_near f b.stages.items y.index view (near0 view.near) h s t.kept.long (first refl);
  q = t.q;
  us = t.us;
  ks = y.index ∷ [];
  vs = t.vs;
  side = elim t.sides [
    | inl e ↦ inr (t.run, sym t.y_named, ap near0 e)
    | inr e ↦ inl (t.run, sym t.y_named, ap near0 e)
  ];
}

last_is : (more : List ℕ) (y : NodeId) → node_named y.index ≡ Some y → Some y ≡ node_named (last_or (more ++ y.index ∷ []) none)
last_is more y e = sym e ∙ ap node_named (sym (last_or-append more (y.index ∷ []) none))

pub grow_second : (f : Layout) (row : List ℕ) (a b w : Climber) (y : NodeId) (view : NodeView) (s0 s : ℕ) → IsLayout f → ShowsNode f y.index view → Start f row a b y view.near →
    Grown f row b w y (near0 view.near) s0 s → CanGrow f row w y (near1 view.near)
grow_second f row a b w y view s0 s h sh t g =
    let kept : Kept f row w = g.growing.can.kept in
    let reach = reach_near f w.stages.items y.index view (near1 view.near) h sh kept.long (second refl) in
    elim t.sides [
      | inl e ↦ let l = g.growing.left t.q t.us (y.index ∷ []) t.vs (t.run, sym t.y_named, ap near0 e) in
          record { kept = kept; reach = reach; q = t.q; us = l.us; ks = l.more ++ y.index ∷ []; vs = t.vs; side = inl (l.run, last_is l.more y t.y_named, ap near1 e) }
      | inr e ↦ let r = g.growing.right t.q t.us (y.index ∷ []) t.vs (t.run, sym t.y_named, ap near0 e) in
          record { kept = kept; reach = reach; q = t.q; us = t.us; ks = y.index ∷ [] ++ r.more; vs = r.vs; side = inr (r.run, sym t.y_named, ap near1 e) }
    ]

pub in_run_or : (s : Stage) → (s ≡ InRun) ⊎ (s ≢ InRun)
in_run_or Unseen = inr (λ e. cc)
in_run_or Queued = inr (λ e. cc)
in_run_or Blocked = inr (λ e. cc)
in_run_or Top = inr (λ e. cc)
in_run_or InRun = inl refl
in_run_or (Placed m) = inr (λ e. cc)

pub two_long : (ks : List ℕ) (y z : ℕ) → 1 ≤ occurs ks y → 1 ≤ occurs ks z → y ≢ z → 2 ≤ length ks
two_long [] y z a b ne = absurd (omega arith)
two_long (k ∷ []) y z a b ne = absurd (ne (only_one y k a ∙ sym (only_one z k b)))
two_long (k ∷ l ∷ ks) y z a b ne = omega arith

-- another parked node
pub another : (st : List Stage) (y : ℕ) → parked_one (stage st y) ≡ 1 → 2 ≤ sum_by parked_one st → (z : ℕ) × (z ≢ y) × (parked_one (stage st z) ≡ 1)
another st y py two =
    let ly : y < length st = seen_in st y (parked_seen (stage st y) py) in
    let p0 : parked_one InRun ≡ 0 = refl in
    let r = some_parked (set st y InRun) (omega (arith, sum_set parked_one st y InRun ly)) in
    let ne : r.0 ≢ y = (λ e. let z : parked_one (stage (set st y InRun) y) ≡ 1 = subst (λ v. parked_one (stage (set st y InRun) v) ≡ 1) e r.1 in
    let q : parked_one (stage (set st y InRun) y) ≡ 0 = ap parked_one (set_here st y InRun ly) in absurd (omega arith)) in
    (r.0, ne, ap parked_one (sym (set_there st y r.0 InRun ne)) ∙ r.1)

-- the whole run, and no blocked node stands beside it
pub record Whole (f : Layout) (row : List ℕ) (a w : Climber) (y : ℕ) : Type 0 where
  pub kept : Kept f row w
  pub q : ℕ
  pub us : List ℕ
  pub ks : List ℕ
  pub vs : List ℕ
  pub run : RunIs f w.stages.items q us ks vs
  pub has : stage w.stages.items y ≡ InRun
  pub left_stop : stage w.stages.items (last_or us none) ≢ Blocked
  pub right_stop : stage w.stages.items (head_or vs none) ≢ Blocked
  pub head : w.head ≡ a.head
  pub tail : w.tail ≡ a.tail
  pub same : (x : ℕ) → stage w.stages.items x ≢ InRun → stage w.stages.items x ≡ stage a.stages.items x
  pub was : (x : ℕ) → stage w.stages.items x ≡ InRun → stage a.stages.items x ≡ Blocked

-- where a run stopped
stop : (f : Layout) (row : List ℕ) (b w : Climber) (from : NodeId) (to : Option NodeId) (s0 s z : ℕ) → IsLayout f → (g : Grown f row b w from to s0 s) → g.next ≡ node_named z → stage w.stages.items z ≢ Blocked
stop f row b w from to s0 s z h g e bl =
    let ne : z ≢ none = not_none f z h (g.growing.can.kept.climb.used z (seen_by (stage w.stages.items z) Blocked bl tt)) in
    blocked_not w.stages.items g.next z g.stops bl ne (sym (ap index_or_none (e ∙ named_is z ne)))

pub whole : (f : Layout) (row : List ℕ) (a b w1 w2 : Climber) (y : NodeId) (view : NodeView) (s0 s1 s2 : ℕ) → IsLayout f → Ready f row a → stage a.stages.items y.index ≡ Blocked →
    Start f row a b y view.near → Grown f row b w1 y (near0 view.near) s0 s1 → Grown f row w1 w2 y (near1 view.near) s1 s2 → Whole f row a w2 y.index
whole f row a b w1 w2 y view s0 s1 s2 h r bl t g1 g2 = elim t.sides [
  | inl e ↦ let l = g1.growing.left t.q t.us (y.index ∷ []) t.vs (t.run, sym t.y_named, ap near0 e) in
      let r2 = g2.growing.right t.q l.us (l.more ++ y.index ∷ []) t.vs (l.run, last_is l.more y t.y_named, ap near1 e) in
      record {
        kept = g2.growing.can.kept;
        q = t.q;
        us = l.us;
        ks = (l.more ++ y.index ∷ []) ++ r2.more;
        vs = r2.vs;
        run = r2.run;
        has = has;
        left_stop = λ b. stop f row b0 w1 y (near0 view.near) s0 s1 (last_or l.us none) h g1 l.to (sym (g2.growing.same (last_or l.us none) (λ i. let z = sym i ∙ b in cc)) ∙ b);
        right_stop = stop f row w1 w2 y (near1 view.near) s1 s2 (head_or r2.vs none) h g2 r2.to;
        head = g2.growing.head ∙ g1.growing.head ∙ t.head;
        tail = g2.growing.tail ∙ g1.growing.tail ∙ t.tail;
        same = same;
        was = was;
      }
  | inr e ↦ let l = g1.growing.right t.q t.us (y.index ∷ []) t.vs (t.run, sym t.y_named, ap near0 e) in
      let r2 = g2.growing.left t.q t.us (y.index ∷ [] ++ l.more) l.vs (l.run, sym t.y_named, ap near1 e) in
      record {
        kept = g2.growing.can.kept;
        q = t.q;
        us = r2.us;
        ks = r2.more ++ (y.index ∷ [] ++ l.more);
        vs = l.vs;
        run = r2.run;
        has = has;
        left_stop = stop f row w1 w2 y (near1 view.near) s1 s2 (last_or r2.us none) h g2 r2.to;
        right_stop = λ b. stop f row b0 w1 y (near0 view.near) s0 s1 (head_or l.vs none) h g1 l.to (sym (g2.growing.same (head_or l.vs none) (λ i. let z = sym i ∙ b in cc)) ∙ b);
        head = g2.growing.head ∙ g1.growing.head ∙ t.head;
        tail = g2.growing.tail ∙ g1.growing.tail ∙ t.tail;
        same = same;
        was = was;
      }
]
  where
    b0 : Climber
    b0 = b

    kept_run : (c d : Climber) (o : Option NodeId) (u v : ℕ) → Grown f row c d y o u v → stage c.stages.items y.index ≡ InRun → stage d.stages.items y.index ≡ InRun
    kept_run c d o u v g e = elim (in_run_or (stage d.stages.items y.index)) [
      | inl i ↦ i
      | inr n ↦ absurd (n (g.growing.same y.index n ∙ e))
    ]

    has : stage w2.stages.items y.index ≡ InRun
    has = kept_run w1 w2 (near1 view.near) s1 s2 g2 (kept_run b w1 (near0 view.near) s0 s1 g1 t.here)

    same : (x : ℕ) → stage w2.stages.items x ≢ InRun → stage w2.stages.items x ≡ stage a.stages.items x
    same x n2 =
        let e2 : stage w2.stages.items x ≡ stage w1.stages.items x = g2.growing.same x n2 in
        let n1 : stage w1.stages.items x ≢ InRun = (λ i. n2 (e2 ∙ i)) in
        let e1 : stage w1.stages.items x ≡ stage b.stages.items x = g1.growing.same x n1 in
        e2 ∙ e1 ∙ t.there x (λ q. n1 (e1 ∙ subst (λ z. stage b.stages.items z ≡ InRun) (sym q) t.here))

    was_b : (x : ℕ) → stage b.stages.items x ≡ InRun → stage a.stages.items x ≡ Blocked
    was_b x i = elim (cases_eq x y.index) [
      | inl q ↦ subst (λ z. stage a.stages.items z ≡ Blocked) (sym q) bl
      | inr ne ↦ absurd (r.free.runs x (sym (t.there x ne) ∙ i))
    ]

    not_run : (x : ℕ) → stage b.stages.items x ≡ Blocked → stage a.stages.items x ≡ Blocked
    not_run x e = sym (t.there x (λ q. let z = sym (subst (λ v. stage b.stages.items v ≡ Blocked) q e) ∙ t.here in cc)) ∙ e

    was_1 : (x : ℕ) → (stage w1.stages.items x ≡ InRun) → stage a.stages.items x ≡ Blocked
    was_1 x i = elim (g1.growing.was x i) [ inl e ↦ was_b x e | inr e ↦ not_run x e ]

    was : (x : ℕ) → stage w2.stages.items x ≡ InRun → stage a.stages.items x ≡ Blocked
    was x i = elim (g2.growing.was x i) [
      | inl e ↦ was_1 x e
      | inr e ↦ not_run x (sym (g1.growing.same x (λ q. let z = sym q ∙ e in cc)) ∙ e)
    ]

-- the run that a blocked node begins once all turns are over
pub whole_begun : (f : Layout) (row : List ℕ) (a b1 w1 w2 : Climber) (y : NodeId) (view : NodeView) (s0 s1 s2 : ℕ) → IsLayout f → AreLeaves f row → Ready f row a → a.tail ≤ a.head →
    stage a.stages.items y.index ≡ Blocked → ShowsNode f y.index view → Staged a b1 y InRun → b1.parked ≡ a.parked →
    Grown f row (less_parked b1) w1 y (near0 view.near) s0 s1 → Grown f row w1 w2 y (near1 view.near) s1 s2 → Whole f row a w2 y.index
whole_begun f row a b1 w1 w2 y view s0 s1 s2 h rw r ge bl s t tp g1 g2 =
    whole f row a (less_parked b1) w1 w2 y view s0 s1 s2 h r bl (run_begun f row a b1 y view h rw r ge bl s t tp) g1 g2

pub whole_open : (f : Layout) (row : List ℕ) (a w : Climber) (y : ℕ) → a.tail ≤ a.head → Whole f row a w y → w.parked ≡ 0 → (z : ℕ) → IsOpen (stage w.stages.items z) → stage w.stages.items z ≡ InRun
whole_open f row a w y ge t zero_is = λ z o.
    let st : List Stage = w.stages.items in
    let none_parked : sum_by parked_one st ≡ 0 = sym t.kept.count ∙ zero_is in
    elim (open_cases (stage st z) o) [
      | inl q ↦ absurd (no_queued f row w t.kept (let a1 : w.head ≡ a.head = t.head in let a2 : w.tail ≡ a.tail = t.tail in omega arith) z q)
      | inr s ↦ elim s [ inl p ↦ absurd (let l : 1 ≤ sum_by parked_one st = parked_some st z p in omega arith) | inr i ↦ i ]
    ]

-- all that is parked is in the run
unfoldable pub whole_inside : (f : Layout) (row : List ℕ) (a w : Climber) (y : ℕ) → IsLayout f → AreLeaves f row → a.tail ≤ a.head → a.parked ≢ 1 → Ready f row a → Whole f row a w y → w.parked ≡ 0 → Inside f row
whole_inside f row a w y h rw ge ne1 r t zero_is =
    let some : 1 ≤ a.parked = end_some f row a h rw r ge in
    let st : List Stage = w.stages.items in
    let none_parked : sum_by parked_one st ≡ 0 = sym t.kept.count ∙ zero_is in
    let open_run : (z : ℕ) → IsOpen (stage st z) → stage st z ≡ InRun = whole_open f row a w y ge t zero_is in
    let child : (z : ℕ) → 1 ≤ occurs t.ks z → 1 ≤ occurs (children_at f t.q) z =
    (λ z o. subst (λ k. 1 ≤ occurs k z) (sym t.run.kids_are) (omega (arith, occurs-append t.us (t.ks ++ t.vs) z, occurs-append t.ks t.vs z))) in
    record {
      q = t.q;
      us = t.us;
      ks = t.ks;
      vs = t.vs;
      is_q = t.run.is_q;
      kids_are = t.run.kids_are;
      left = t.run.left;
      right = t.run.right;
      some =
          let o = another a.stages.items y (ap parked_one (t.was y t.has)) (let c : a.parked ≡ sum_by parked_one a.stages.items = r.kept.count in omega arith) in
          let oz : stage st o.0 ≡ InRun = (elim (in_run_or (stage st o.0)) [
            | inl i ↦ i
            | inr n ↦ absurd (let p : parked_one (stage st o.0) ≡ 1 = ap parked_one (t.same o.0 n) ∙ o.2 in let l : 1 ≤ sum_by parked_one st = parked_some st o.0 p in omega arith)
          ]) in
          two_long t.ks o.0 y (t.run.only o.0 oz) (t.run.only y t.has) o.1;
      meet = λ x o. reached_meets f row st t.kept.climb x (t.kept.climb.reached x (seen_by (stage st x) InRun (t.run.in_run x o) tt));
      miss = λ x o m.
          let b : Below f st f.root m.0 = climbs f row st h t.kept.climb rw m.0 m.1 in
          let ob : 1 ≤ occurs t.ks b.y = t.run.only b.y (open_run b.y b.open_is) in
          let ox : 1 ≤ occurs (children_at f t.q) x = subst (λ k. 1 ≤ occurs k x) (sym t.run.kids_are) (omega (arith, occurs-append t.us (t.ks ++ t.vs) x, occurs-append t.ks t.vs x)) in
          let e : x ≡ b.y = one_child f t.q x b.y m.0 h ox (child b.y ob) m.2 b.leads in
          let two : occurs (children_at f t.q) x ≤ 1 = (let p : occurs (children_at f t.q) x ≤ times_child f.slots x = children_times f t.q x in let q : times_child f.slots x ≤ 1 = h.once x in omega arith) in
          let all : occurs (children_at f t.q) x ≡ occurs t.us x + (occurs t.ks x + occurs t.vs x) =
          ap (λ k. occurs k x) t.run.kids_are ∙ occurs-append t.us (t.ks ++ t.vs) x ∙ ap (λ n. occurs t.us x + n) (occurs-append t.ks t.vs x) in
          let ok : 1 ≤ occurs t.ks x = subst (λ z. 1 ≤ occurs t.ks z) (sym e) ob in
          absurd (omega arith);
      holds = λ x o. let b : Below f st f.root x = climbs f row st h t.kept.climb rw x o in
          down t.q b.y x (child b.y (t.run.only b.y (open_run b.y b.open_is))) b.leads;
    }

-- the whole run is what is left
pub whole_left : (f : Layout) (row : List ℕ) (a w : Climber) (y : ℕ) → IsLayout f → AreLeaves f row → a.tail ≤ a.head → a.parked ≢ 1 → Ready f row a → Whole f row a w y → w.parked ≡ 0 → OnlyRun f row w
unfolding whole_inside
whole_left f row a w y h rw ge ne1 r t zero_is = record {
  inside = whole_inside f row a w y h rw ge ne1 r t zero_is;
  run = t.run;
  only = whole_open f row a w y ge t zero_is;
}

-- one open node is what is left
pub queued_left : (f : Layout) (row : List ℕ) (a : Climber) (x : NodeId) → Ready f row a → IsOver a → a.head < a.tail → x.index ≡ at a.queue.items a.head → OnlyOpen f a x.index
queued_left f row a x r over lt e = record {
  only = queued_only f row a x r over lt e;
  clear = r.free.runs;
  seen = subst (λ z. IsSeen (stage a.stages.items z)) (sym e) (seen_by (stage a.stages.items (at a.queue.items a.head)) Queued (r.kept.queue.waiting a.head (omega arith) lt) tt);
}

pub parked_left : (f : Layout) (row : List ℕ) (a : Climber) (y : ℕ) → Ready f row a → a.tail ≤ a.head → a.parked ≡ 1 → parked_one (stage a.stages.items y) ≡ 1 → OnlyOpen f a y
parked_left f row a y r ge one p = record {
  only = parked_only f row a y r ge one p;
  clear = r.free.runs;
  seen = parked_seen (stage a.stages.items y) p;
}

pub whole_flat : (f : Layout) (row : List ℕ) (a w : Climber) (x : ℕ) → IsLayout f → a.tail ≤ a.head → Ready f row a → Whole f row a w x → w.parked ≡ 0 →
    (y n : ℕ) → IsOpen (stage a.stages.items y) → IsOpen (stage a.stages.items n) → IsAtOrAbove f.slots n y → n ≡ y
whole_flat f row a w x h ge r t zero_is = λ y n oy on l. elim (cases_eq n y) [
  | inl e ↦ e
  | inr ne ↦ absurd (apart_children f t.q n y h (child n (in_ks n on)) (child y (in_ks y oy)) l ne)
]
  where
    in_ks : (z : ℕ) → IsOpen (stage a.stages.items z) → 1 ≤ occurs t.ks z
    in_ks z o = elim (in_run_or (stage w.stages.items z)) [
      | inl i ↦ t.run.only z i
      | inr n ↦ absurd (let p : parked_one (stage w.stages.items z) ≡ 1 = ap parked_one (t.same z n) ∙ open_parked f row a r ge z o in
          let l : 1 ≤ sum_by parked_one w.stages.items = parked_some w.stages.items z p in let c : w.parked ≡ sum_by parked_one w.stages.items = t.kept.count in omega arith)
    ]

    child : (z : ℕ) → 1 ≤ occurs t.ks z → 1 ≤ occurs (children_at f t.q) z
    child z o = subst (λ k. 1 ≤ occurs k z) (sym t.run.kids_are) (omega (arith, occurs-append t.us (t.ks ++ t.vs) z, occurs-append t.ks t.vs z))
