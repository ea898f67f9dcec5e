-- What the climb keeps when a stage is written.
use Rattle.std.proofs.Common.{◌≡◌, ◌≢◌, ◌⊎◌, inl, inr, ℕ, ◌+◌, ◌≤◌, ◌<◌, List, length, set, sum_by, refl, sym, ap, subst, ◌∙◌, arith}
use Rattle.std.proofs.lemmas.Bool.{cases_eq, cases_lt}
use Rattle.std.proofs.lemmas.List.{get_or-set_same, get_or-set_other, length-set, get_or_past}
use Rattle.std.proofs.lemmas.List.Sums.{sum_by-set, get_or-le-sum_by}
use Rattle.pq_arena.specs.declared.node.NodeId.{NodeId}
use Rattle.column_order.specs.Orders.{occurs}
use Rattle.arena_model.proofs.Slots.{parent_used}
use Rattle.arena_model.specs.Layout.{Layout, children_at, times_child, IsInUse, IsLayout}
use Rattle.bubble_pass.specs.declared.climber.Stage.{Stage}
use Rattle.bubble_pass.specs.declared.climber.Stage.TheVariants.{Unseen, Queued, Blocked, Top, InRun, Placed}
use Rattle.bubble_pass.specs.Climb.{no_id, stage, at, IsSeen, unseen_one, Reached, at_leaf, from_child, Inner, Entered, Climb, Queue}

pub seen_by : (s t : Stage) → s ≡ t → IsSeen t → IsSeen s
seen_by s t e h = subst (λ z. IsSeen z) (sym e) h

-- a node that was seen is in the list
pub seen_in : (st : List Stage) (x : ℕ) → IsSeen (stage st x) → x < length st
seen_in st x h = elim (cases_lt x (length st)) [
  | inl l ↦ l
  | inr l ↦ absurd (subst (λ s. IsSeen s) (get_or_past st x Unseen l) h)
]

-- x comes to know the node m above it, which is queued if it was not seen
pub record Placing (st st' : List Stage) (x : ℕ) (m : NodeId) : Type 0 where
  pub placed : stage st' x ≡ Placed m
  pub same : (y : ℕ) → y ≢ x → IsSeen (stage st y) → stage st' y ≡ stage st y
  pub news : (y : ℕ) → y ≢ x → IsSeen (stage st' y) → IsSeen (stage st y) ⊎ ((y ≡ m.index) × (stage st' y ≡ Queued))
  pub seen : IsSeen (stage st' m.index)

placed_inj : (a b : NodeId) → Placed a ≡ Placed b → a ≡ b
placed_inj a b e = cc

pub reached_map : (row : List ℕ) (st st' : List Stage) → ((k : ℕ) (m : NodeId) → stage st k ≡ Placed m → stage st' k ≡ Placed m) →
    (x : ℕ) → Reached row st x → Reached row st' x
reached_map row st st' keep _ (at_leaf x o) = at_leaf x o
reached_map row st st' keep _ (from_child k n m e s r) = from_child k n m e (keep k m s) (reached_map row st st' keep k r)

pub entered_map : (f : Layout) (st st' : List Stage) (m : ℕ) → ((k : ℕ) (n : NodeId) → stage st k ≡ Placed n → stage st' k ≡ Placed n) → Entered f st m → Entered f st' m
entered_map f st st' m keep r = record { node = r.node; over = r.over; placed = keep r.node r.over r.placed; under = r.under; outer = r.outer }

pub old_stage : (st st' : List Stage) (x y : ℕ) (m : NodeId) (s : Stage) → Placing st st' x m → y ≢ x → IsSeen s → Queued ≢ s → stage st' y ≡ s → stage st y ≡ s
old_stage st st' x y m s p ne seen nq e = elim (p.news y ne (seen_by (stage st' y) s e seen)) [
  | inl o ↦ sym (p.same y ne o) ∙ e
  | inr r ↦ absurd (nq (sym r.1 ∙ e))
]

pub queued_placed : (k : NodeId) → Queued ≢ Placed k
queued_placed k e = cc

pub top_placed : (k : NodeId) → Top ≢ Placed k
top_placed k e = cc

pub blocked_placed : (k : NodeId) → Blocked ≢ Placed k
blocked_placed k e = cc

pub queued_top : Queued ≢ Top
queued_top e = cc

pub queued_blocked : Queued ≢ Blocked
queued_blocked e = cc

pub climb_placing : (f : Layout) (row : List ℕ) (st st' : List Stage) (x : ℕ) (m : NodeId) → IsLayout f → Climb f row st → Placing st st' x m →
    IsSeen (stage st x) → ((k : NodeId) → stage st x ≢ Placed k) → 1 ≤ occurs (children_at f m.index) x → (Inner f x → ⊥) ⊎ ((y : ℕ) × (stage st y ≡ Placed m)) → Climb f row st'
climb_placing f row st st' x m h c p sx nx o way =
    let keep : (k : ℕ) (n : NodeId) → stage st k ≡ Placed n → stage st' k ≡ Placed n =
    (λ k n e. p.same k (λ q. nx n (subst (λ z. stage st z ≡ Placed n) q e)) (seen_by (stage st k) (Placed n) e tt) ∙ e) in
    let still : (y : ℕ) → IsSeen (stage st y) → IsSeen (stage st' y) =
    (λ y s. elim (cases_eq y x) [
      | inl e ↦ subst (λ z. IsSeen (stage st' z)) (sym e) (seen_by (stage st' x) (Placed m) p.placed tt)
      | inr ne ↦ seen_by (stage st' y) (stage st y) (p.same y ne s) s
    ]) in
    record {
      leaves = λ y oy. still y (c.leaves y oy);
      used = λ y s. elim (cases_eq y x) [
        | inl e ↦ subst (λ z. IsInUse f z) (sym e) (c.used x sx)
        | inr ne ↦ elim (p.news y ne s) [
          | inl so ↦ c.used y so
          | inr r ↦ subst (λ z. IsInUse f z) (sym r.0) (parent_used f m.index x o h)
        ]
      ];
      above = λ y k e. elim (cases_eq y x) [
        | inl q ↦ let i : m ≡ k = placed_inj m k (sym p.placed ∙ subst (λ z. stage st' z ≡ Placed k) q e) in
            subst (λ (z : NodeId). (1 ≤ occurs (children_at f z.index) y) × IsSeen (stage st' z.index)) i (subst (λ z. 1 ≤ occurs (children_at f m.index) z) (sym q) o, p.seen)
        | inr ne ↦ let r = c.above y k (old_stage st st' x y m (Placed k) p ne tt (λ q. absurd (queued_placed k q)) e) in (r.0, still k.index r.1)
      ];
      tops = λ y e. elim (cases_eq y x) [
        | inl q ↦ absurd (top_placed m (sym (subst (λ z. stage st' z ≡ Top) q e) ∙ p.placed))
        | inr ne ↦ c.tops y (old_stage st st' x y m Top p ne tt queued_top e)
      ];
      inner = λ y e. elim (cases_eq y x) [
        | inl q ↦ absurd (blocked_placed m (sym (subst (λ z. stage st' z ≡ Blocked) q e) ∙ p.placed))
        | inr ne ↦ c.inner y (old_stage st st' x y m Blocked p ne tt queued_blocked e)
      ];
      reached = λ y s. elim (cases_eq y x) [
        | inl q ↦ subst (λ z. Reached row st' z) (sym q) (reached_map row st st' keep x (c.reached x sx))
        | inr ne ↦ elim (p.news y ne s) [
          | inl so ↦ reached_map row st st' keep y (c.reached y so)
          | inr r ↦ from_child x y m (sym r.0) p.placed (reached_map row st st' keep x (c.reached x sx))
        ]
      ];
      entered = λ y k e. elim (cases_eq y x) [
        | inl q ↦ let i : m ≡ k = placed_inj m k (sym p.placed ∙ subst (λ z. stage st' z ≡ Placed k) q e) in
            subst (λ (z : NodeId). Entered f st' z.index) i
            (elim way [
              | inl inner_not ↦ record { node = x; over = m; placed = p.placed; under = refl; outer = inner_not }
              | inr s ↦ entered_map f st st' m.index keep (c.entered s.0 m s.1)
            ])
        | inr ne ↦ entered_map f st st' k.index keep (c.entered y k (old_stage st st' x y m (Placed k) p ne tt (λ q. absurd (queued_placed k q)) e))
      ];
    }

pub set_here : (st : List Stage) (x : ℕ) (s : Stage) → x < length st → stage (set st x s) x ≡ s
set_here st x s l = get_or-set_same st x s Unseen l

pub set_there : (st : List Stage) (x y : ℕ) (s : Stage) → y ≢ x → stage (set st x s) y ≡ stage st y
set_there st x y s ne = get_or-set_other st x y s Unseen ne

-- the node above was seen
pub placing_seen : (st : List Stage) (x : ℕ) (m : NodeId) → IsSeen (stage st x) → IsSeen (stage st m.index) → Placing st (set st x (Placed m)) x m
placing_seen st x m sx sm =
    let l : x < length st = seen_in st x sx in
    record {
      placed = set_here st x (Placed m) l;
      same = λ y ne s. set_there st x y (Placed m) ne;
      news = λ y ne s. inl (subst (λ z. IsSeen z) (set_there st x y (Placed m) ne) s);
      seen = elim (cases_eq m.index x) [
        | inl e ↦ subst (λ z. IsSeen (stage (set st x (Placed m)) z)) (sym e) (seen_by (stage (set st x (Placed m)) x) (Placed m) (set_here st x (Placed m) l) tt)
        | inr ne ↦ seen_by (stage (set st x (Placed m)) m.index) (stage st m.index) (set_there st x m.index (Placed m) ne) sm
      ];
    }

-- it was not
pub placing_new : (st : List Stage) (x : ℕ) (m : NodeId) → IsSeen (stage st x) → stage st m.index ≡ Unseen → m.index < length st →
    Placing st (set (set st m.index Queued) x (Placed m)) x m
placing_new st x m sx um lm =
    let one : List Stage = set st m.index Queued in
    let xm : x ≢ m.index = (λ e. subst (λ s. IsSeen s) um (subst (λ z. IsSeen (stage st z)) e sx)) in
    let lx : x < length one = (let l : x < length st = seen_in st x sx in omega (arith, length-set st m.index Queued)) in
    let m_is : stage (set one x (Placed m)) m.index ≡ Queued = set_there one x m.index (Placed m) (λ e. xm (sym e)) ∙ set_here st m.index Queued lm in
    record {
      placed = set_here one x (Placed m) lx;
      same = λ y ne s. set_there one x y (Placed m) ne ∙ set_there st m.index y Queued (λ e. subst (λ z. IsSeen z) um (subst (λ z. IsSeen (stage st z)) e s));
      news = λ y ne s. elim (cases_eq y m.index) [
        | inl e ↦ inr (e, subst (λ z. stage (set one x (Placed m)) z ≡ Queued) (sym e) m_is)
        | inr nm ↦ inl (subst (λ z. IsSeen z) (set_there one x y (Placed m) ne ∙ set_there st m.index y Queued nm) s)
      ];
      seen = seen_by (stage (set one x (Placed m)) m.index) Queued m_is tt;
    }

-- x is parked
pub climb_parking : (f : Layout) (row : List ℕ) (st : List Stage) (x : ℕ) (s : Stage) → Climb f row st → IsSeen (stage st x) → ((k : NodeId) → stage st x ≢ Placed k) →
    IsSeen s → ((k : NodeId) → s ≢ Placed k) → (s ≡ Top → times_child f.slots x ≡ 0) → (s ≡ Blocked → Inner f x) → Climb f row (set st x s)
climb_parking f row st x s c sx nx seen np top inner =
    let l : x < length st = seen_in st x sx in
    let here : stage (set st x s) x ≡ s = set_here st x s l in
    let keep : (k : ℕ) (n : NodeId) → stage st k ≡ Placed n → stage (set st x s) k ≡ Placed n =
    (λ k n e. set_there st x k s (λ q. nx n (subst (λ z. stage st z ≡ Placed n) q e)) ∙ e) in
    let still : (y : ℕ) → IsSeen (stage st y) → IsSeen (stage (set st x s) y) =
    (λ y sy. elim (cases_eq y x) [
      | inl e ↦ subst (λ z. IsSeen (stage (set st x s) z)) (sym e) (seen_by (stage (set st x s) x) s here seen)
      | inr ne ↦ seen_by (stage (set st x s) y) (stage st y) (set_there st x y s ne) sy
    ]) in
    let back : (y : ℕ) → IsSeen (stage (set st x s) y) → IsSeen (stage st y) =
    (λ y sy. elim (cases_eq y x) [
      | inl e ↦ subst (λ z. IsSeen (stage st z)) (sym e) sx
      | inr ne ↦ subst (λ z. IsSeen z) (set_there st x y s ne) sy
    ]) in
    record {
      leaves = λ y o. still y (c.leaves y o);
      used = λ y sy. c.used y (back y sy);
      above = λ y k e. elim (cases_eq y x) [
        | inl q ↦ absurd (np k (sym here ∙ subst (λ z. stage (set st x s) z ≡ Placed k) q e))
        | inr ne ↦ let r = c.above y k (sym (set_there st x y s ne) ∙ e) in (r.0, still k.index r.1)
      ];
      tops = λ y e. elim (cases_eq y x) [
        | inl q ↦ subst (λ z. times_child f.slots z ≡ 0) (sym q) (top (sym here ∙ subst (λ z. stage (set st x s) z ≡ Top) q e))
        | inr ne ↦ c.tops y (sym (set_there st x y s ne) ∙ e)
      ];
      inner = λ y e. elim (cases_eq y x) [
        | inl q ↦ subst (λ z. Inner f z) (sym q) (inner (sym here ∙ subst (λ z. stage (set st x s) z ≡ Blocked) q e))
        | inr ne ↦ c.inner y (sym (set_there st x y s ne) ∙ e)
      ];
      reached = λ y sy. reached_map row st (set st x s) keep y (c.reached y (back y sy));
      entered = λ y k e. elim (cases_eq y x) [
        | inl q ↦ absurd (np k (sym here ∙ subst (λ z. stage (set st x s) z ≡ Placed k) q e))
        | inr ne ↦ entered_map f st (set st x s) k.index keep (c.entered y k (sym (set_there st x y s ne) ∙ e))
      ];
    }

-- the queue
pub sum_set : (g : Stage → ℕ) (st : List Stage) (x : ℕ) (s : Stage) → x < length st → sum_by g (set st x s) + g (stage st x) ≡ sum_by g st + g s
sum_set g st x s l = sum_by-set g st x s Unseen l

pub seen_or : (s : Stage) → (s ≢ Unseen) → IsSeen s
seen_or Unseen h = absurd (h refl)
seen_or Queued h = tt
seen_or Blocked h = tt
seen_or Top h = tt
seen_or InRun h = tt
seen_or (Placed m) h = tt

pub unseen_not : (s : Stage) → IsSeen s → unseen_one s ≡ 0
unseen_not Unseen h = absurd h
unseen_not Queued h = refl
unseen_not Blocked h = refl
unseen_not Top h = refl
unseen_not InRun h = refl
unseen_not (Placed m) h = refl

-- a node that was seen is at a later stage
record Advanced (st : List Stage) (x : ℕ) (s : Stage) : Type 0 where
  was : IsSeen (stage st x)
  now : IsSeen s
  free : Queued ≢ s

-- what was seen is seen, and nothing else
still_seen : (st : List Stage) (x : ℕ) (s : Stage) → Advanced st x s → (y : ℕ) → IsSeen (stage st y) → IsSeen (stage (set st x s) y)
still_seen st x s a y e = elim (cases_eq y x) [
  | inl i ↦ subst (λ z. IsSeen (stage (set st x s) z)) (sym i) (seen_by (stage (set st x s) x) s (set_here st x s (seen_in st x a.was)) a.now)
  | inr ne ↦ seen_by (stage (set st x s) y) (stage st y) (set_there st x y s ne) e
]

was_seen : (st : List Stage) (x : ℕ) (s : Stage) → Advanced st x s → (y : ℕ) → IsSeen (stage (set st x s) y) → IsSeen (stage st y)
was_seen st x s a y e = elim (cases_eq y x) [
  | inl i ↦ subst (λ z. IsSeen (stage st z)) (sym i) a.was
  | inr ne ↦ subst (λ z. IsSeen z) (set_there st x y s ne) e
]

-- what waits now is not x, and did so before
was_queued : (st : List Stage) (x : ℕ) (s : Stage) → Advanced st x s → (y : ℕ) → Queued ≡ stage (set st x s) y → (y ≢ x) × (Queued ≡ stage st y)
was_queued st x s a y d = elim (cases_eq y x) [
  | inl e ↦ absurd (a.free (d ∙ ap (λ z. stage (set st x s) z) e ∙ set_here st x s (seen_in st x a.was)))
  | inr ne ↦ (ne, d ∙ set_there st x y s ne)
]

same_room : (st : List Stage) (x : ℕ) (s : Stage) (tail : ℕ) → Advanced st x s → tail + sum_by unseen_one st ≡ length st → tail + sum_by unseen_one (set st x s) ≡ length (set st x s)
same_room st x s tail a r =
    let u : unseen_one (stage st x) ≡ 0 = unseen_not (stage st x) a.was in let v : unseen_one s ≡ 0 = unseen_not s a.now in
    omega (arith, sum_set unseen_one st x s (seen_in st x a.was), length-set st x s)

-- a node that does not wait changes
pub queue_kept : (st : List Stage) (queue : List NodeId) (head tail x : ℕ) (s : Stage) → Queue st queue head tail → IsSeen (stage st x) → Queued ≢ stage st x →
    IsSeen s → Queued ≢ s → Queue (set st x s) queue head tail
queue_kept st queue head tail x s q sx nx seen nq =
    let a : Advanced st x s = record { was = sx; now = seen; free = nq } in
    record {
      order = q.order;
      room = same_room st x s tail a q.room;
      long = q.long ∙ sym (length-set st x s);
      seen = λ i li. still_seen st x s a (at queue i) (q.seen i li);
      waiting = λ i b c. let w : stage st (at queue i) ≡ Queued = q.waiting i b c in
          set_there st x (at queue i) s (λ e. nx (sym (subst (λ z. stage st z ≡ Queued) e w))) ∙ w;
      apart = q.apart;
      done = λ i li d. q.done i li (was_queued st x s a (at queue i) d).1;
      all = λ y e. q.all y (was_seen st x s a y e);
    }

-- the first one has its turn
pub queue_popped : (st : List Stage) (queue : List NodeId) (head tail : ℕ) (s : Stage) → Queue st queue head tail → head < tail →
    IsSeen s → Queued ≢ s → Queue (set st (at queue head) s) queue (head + 1) tail
queue_popped st queue head tail s q lt seen nq =
    let x : ℕ = at queue head in
    let a : Advanced st x s = record { was = q.seen head lt; now = seen; free = nq } in
    record {
      order = omega arith;
      room = same_room st x s tail a q.room;
      long = q.long ∙ sym (length-set st x s);
      seen = λ i li. still_seen st x s a (at queue i) (q.seen i li);
      waiting = λ i b c. set_there st x (at queue i) s (λ e. q.apart head i (omega arith) c (sym e)) ∙ q.waiting i (omega arith) c;
      apart = q.apart;
      done = λ i li d. let w = was_queued st x s a (at queue i) d in elim (cases_lt i head) [
        | inl b ↦ q.done i b w.1
        | inr b ↦ w.0 (ap (λ k. at queue k) (let k : i ≡ head = omega arith in k))
      ];
      all = λ y e. q.all y (was_seen st x s a y e);
    }

pub unseen_room : (st : List Stage) (queue : List NodeId) (head tail m : ℕ) → Queue st queue head tail → stage st m ≡ Unseen → m < length st → tail < length queue
unseen_room st queue head tail m q um lm =
    let a : unseen_one (stage st m) ≤ sum_by unseen_one st = get_or-le-sum_by unseen_one st m Unseen lm in
    let b : unseen_one (stage st m) ≡ 1 = ap unseen_one um in
    let r : tail + sum_by unseen_one st ≡ length st = q.room in
    omega (arith, q.long)

pub at_set : (queue : List NodeId) (t i : ℕ) (m : NodeId) → i ≢ t → at (set queue t m) i ≡ at queue i
at_set queue t i m ne = ap (λ (n : NodeId). n.index) (get_or-set_other queue t i m no_id ne)

pub at_new : (queue : List NodeId) (t : ℕ) (m : NodeId) → t < length queue → at (set queue t m) t ≡ m.index
at_new queue t m l = ap (λ (n : NodeId). n.index) (get_or-set_same queue t m no_id l)

-- one is put behind the others
pub queue_pushed : (st : List Stage) (queue : List NodeId) (head tail : ℕ) (m : NodeId) → Queue st queue head tail → stage st m.index ≡ Unseen → m.index < length st →
    Queue (set st m.index Queued) (set queue tail m) head (tail + 1)
queue_pushed st queue head tail m q um lm =
    let l : tail < length queue = unseen_room st queue head tail m.index q um lm in
    let here : stage (set st m.index Queued) m.index ≡ Queued = set_here st m.index Queued lm in
    let off : (i : ℕ) → i < tail → at queue i ≢ m.index = (λ i li e. subst (λ s. IsSeen s) um (subst (λ z. IsSeen (stage st z)) e (q.seen i li))) in
    let one : (i : ℕ) → i < tail → stage (set st m.index Queued) (at (set queue tail m) i) ≡ stage st (at queue i) =
    (λ i li. ap (λ z. stage (set st m.index Queued) z) (at_set queue tail i m (omega arith)) ∙ set_there st m.index (at queue i) Queued (off i li)) in
    let new : stage (set st m.index Queued) (at (set queue tail m) tail) ≡ Queued = ap (λ z. stage (set st m.index Queued) z) (at_new queue tail m l) ∙ here in
    record {
      order = let o : head ≤ tail = q.order in omega arith;
      room = let u : unseen_one (stage st m.index) ≡ 1 = ap unseen_one um in let r : tail + sum_by unseen_one st ≡ length st = q.room in
          let v : unseen_one Queued ≡ 0 = refl in
          omega (arith, sum_set unseen_one st m.index Queued lm, length-set st m.index Queued);
      long = length-set queue tail m ∙ q.long ∙ sym (length-set st m.index Queued);
      seen = λ i li. elim (cases_lt i tail) [
        | inl a ↦ seen_by (stage (set st m.index Queued) (at (set queue tail m) i)) (stage st (at queue i)) (one i a) (q.seen i a)
        | inr a ↦ let e : i ≡ tail = omega arith in
            subst (λ k. IsSeen (stage (set st m.index Queued) (at (set queue tail m) k))) (sym e)
            (seen_by (stage (set st m.index Queued) (at (set queue tail m) tail)) Queued new tt)
      ];
      waiting = λ i a b. elim (cases_lt i tail) [
        | inl c ↦ one i c ∙ q.waiting i a c
        | inr c ↦ let e : i ≡ tail = omega arith in subst (λ k. stage (set st m.index Queued) (at (set queue tail m) k) ≡ Queued) (sym e) new
      ];
      apart = λ i j a b e. elim (cases_lt j tail) [
        | inl c ↦ q.apart i j a c (sym (at_set queue tail i m (omega arith)) ∙ e ∙ at_set queue tail j m (omega arith))
        | inr c ↦ let i_in : i < tail = omega arith in let d : j ≡ tail = omega arith in
            off i i_in (sym (at_set queue tail i m (omega arith)) ∙ e ∙ ap (λ k. at (set queue tail m) k) d ∙ at_new queue tail m l)
      ];
      done = λ i li d. let o : head ≤ tail = q.order in q.done i li (d ∙ one i (omega arith));
      all = λ y e. elim (cases_eq y m.index) [
        | inl i ↦ (tail, omega arith, at_new queue tail m l ∙ sym i)
        | inr ne ↦ let r = q.all y (subst (λ z. IsSeen z) (set_there st m.index y Queued ne) e) in
            let lt : r.0 < tail = r.1 in
            (r.0, (let k : r.0 < tail + 1 = omega arith in k), at_set queue tail r.0 m (λ z. let w : r.0 ≡ tail = z in absurd (omega arith)) ∙ r.2)
      ];
    }
