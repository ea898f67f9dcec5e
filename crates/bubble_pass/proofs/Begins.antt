-- The leaves of the row are queued.
use Rattle.std.proofs.Common.{◌≡◌, ◌≢◌, inl, inr, ℕ, suc, ◌+◌, ◌≤◌, ◌<◌, List, [], ◌∷◌, ◌++◌, length, set, sum_by, take, drop, get_or, refl, sym, ap, subst, ◌∙◌, arith}
use Rattle.std.proofs.lemmas.Bool.{cases_eq, cases_lt}
use Rattle.std.proofs.lemmas.List.{length-set, take_more, take-append-drop, length-append}
use Rattle.std.proofs.lemmas.List.Sums.{sum_by-cons}
use Rattle.pq_arena.specs.declared.node.NodeId.{NodeId}
use Rattle.column_order.specs.Orders.{occurs}
use Rattle.arena_model.proofs.Slots.{few_slots}
use Rattle.arena_model.specs.Layout.{Layout, IsInUse, IsLayout}
use Rattle.column_order.proofs.Lists.{occurs-append}
use Rattle.arena_model.proofs.Lists.{occurs_here, only_one}
use Rattle.arena_model.proofs.Slots.{in_range}
use Rattle.bubble_pass.specs.declared.climber.Stage.{Stage}
use Rattle.bubble_pass.specs.declared.climber.Stage.TheVariants.{Unseen, Queued, Blocked, Top, InRun, Placed}
use Rattle.bubble_pass.specs.declared.climber.Climber.{Climber}
use Rattle.bubble_pass.specs.Climb.{most_nodes, stage, IsSeen, parked_one, unseen_one, Climb, Queue, Reached, at_leaf, from_child}
use Rattle.bubble_pass.specs.Moves.{Kept, Pushed, CanPush}
use Rattle.bubble_pass.specs.Ends.{IsClear, AreLeaves, IsQueueing}
use Rattle.bubble_pass.proofs.Marks.{seen_by, set_here, set_there, entered_map, queue_pushed, unseen_room, sum_set}

not_seen : (st : List Stage) (x : ℕ) (s : Stage) → stage st x ≡ Unseen → stage st x ≡ s → IsSeen s → ⊥
not_seen st x s u e h = subst (λ z. IsSeen z) (sym e ∙ u) h

pub all_unseen : (st : List Stage) → ((x : ℕ) → stage st x ≡ Unseen) → sum_by unseen_one st ≡ length st
all_unseen [] c = refl
all_unseen (s ∷ ss) c =
    let a : unseen_one s ≡ 1 = ap unseen_one (c 0) in let r : sum_by unseen_one ss ≡ length ss = all_unseen ss (λ x. c (suc x)) in
    omega (arith, sum_by-cons unseen_one s ss)

pub begun_none : (f : Layout) (w : Climber) → IsLayout f → IsClear f w → IsQueueing f [] w
begun_none f w h c = record {
  ready = record {
    kept = record {
      climb = record {
        leaves = λ x o. absurd (omega arith);
        used = λ x s. absurd (subst (λ z. IsSeen z) (c.stages x) s);
        above = λ x m e. absurd (not_seen w.stages.items x (Placed m) (c.stages x) e tt);
        tops = λ x e. absurd (not_seen w.stages.items x Top (c.stages x) e tt);
        inner = λ x e. absurd (not_seen w.stages.items x Blocked (c.stages x) e tt);
        reached = λ x s. absurd (subst (λ z. IsSeen z) (c.stages x) s);
        entered = λ x m e. absurd (not_seen w.stages.items x (Placed m) (c.stages x) e tt);
      };
      queue = record {
        order = let a : w.head ≡ 0 = c.head in let b : w.tail ≡ 0 = c.tail in omega arith;
        room = let b : w.tail ≡ 0 = c.tail in omega (arith, all_unseen w.stages.items c.stages);
        long = c.room;
        seen = λ i l. let b : w.tail ≡ 0 = c.tail in absurd (omega arith);
        waiting = λ i a l. let b : w.tail ≡ 0 = c.tail in absurd (omega arith);
        apart = λ i j a l. let b : w.tail ≡ 0 = c.tail in absurd (omega arith);
        done = λ i l. let b : w.head ≡ 0 = c.head in absurd (omega arith);
        all = λ x s. absurd (subst (λ z. IsSeen z) (c.stages x) s);
      };
      count = c.parked ∙ sym (none_parked w.stages.items c.stages);
      long = c.long;
      few = few_slots f h;
    };
    free = record {
      apart = λ y z m be yb zp. not_seen w.stages.items y Blocked (c.stages y) yb tt;
      runs = λ x e. not_seen w.stages.items x InRun (c.stages x) e tt;
    };
  };
  head = c.head;
  parked = c.parked;
  tail = c.tail;
  rest = λ x o. c.stages x;
}
  where
    none_parked : (st : List Stage) → ((x : ℕ) → stage st x ≡ Unseen) → sum_by parked_one st ≡ 0
    none_parked [] c = refl
    none_parked (s ∷ ss) c =
        let a : parked_one s ≡ 0 = ap parked_one (c 0) in let r : sum_by parked_one ss ≡ 0 = none_parked ss (λ x. c (suc x)) in
        omega (arith, sum_by-cons parked_one s ss)

climb_begun : (f : Layout) (row : List ℕ) (st : List Stage) (n : ℕ) → Climb f row st → stage st n ≡ Unseen → n < length st → IsInUse f n → Climb f (row ++ n ∷ []) (set st n Queued)
climb_begun f row st n c u l used =
    let here : stage (set st n Queued) n ≡ Queued = set_here st n Queued l in
    let back : (y : ℕ) (s : Stage) → IsSeen s → Queued ≢ s → stage (set st n Queued) y ≡ s → stage st y ≡ s =
    (λ y s ss nq e. sym (set_there st n y Queued (λ q. nq (sym here ∙ subst (λ z. stage (set st n Queued) z ≡ s) q e))) ∙ e) in
    let still : (y : ℕ) → IsSeen (stage st y) → IsSeen (stage (set st n Queued) y) =
    (λ y s. elim (cases_eq y n) [
      | inl e ↦ subst (λ z. IsSeen (stage (set st n Queued) z)) (sym e) (seen_by (stage (set st n Queued) n) Queued here tt)
      | inr ne ↦ seen_by (stage (set st n Queued) y) (stage st y) (set_there st n y Queued ne) s
    ]) in
    let wider : (y : ℕ) → Reached row st y → Reached (row ++ n ∷ []) (set st n Queued) y = (λ y r. widen y r) in
    record {
      leaves = λ x o. elim (cases_lt 0 (occurs row x)) [
        | inl p ↦ still x (c.leaves x p)
        | inr p ↦ let e : x ≡ n = only_one x n (omega (arith, occurs-append row (n ∷ []) x)) in
            subst (λ z. IsSeen (stage (set st n Queued) z)) (sym e) (seen_by (stage (set st n Queued) n) Queued here tt)
      ];
      used = λ x s. elim (cases_eq x n) [
        | inl e ↦ subst (λ z. IsInUse f z) (sym e) used
        | inr ne ↦ c.used x (subst (λ z. IsSeen z) (set_there st n x Queued ne) s)
      ];
      above = λ x m e. let r = c.above x m (back x (Placed m) tt (λ q. cc) e) in (r.0, still m.index r.1);
      tops = λ x e. c.tops x (back x Top tt (λ q. cc) e);
      inner = λ x e. c.inner x (back x Blocked tt (λ q. cc) e);
      reached = λ x s. elim (cases_eq x n) [
        | inl e ↦ at_leaf x (omega (arith, occurs-append row (n ∷ []) x, (let k : 1 ≤ occurs (n ∷ []) x = subst (λ z. 1 ≤ occurs (n ∷ []) z) (sym e) (occurs_here n []) in k)))
        | inr ne ↦ wider x (c.reached x (subst (λ z. IsSeen z) (set_there st n x Queued ne) s))
      ];
      entered = λ x m e. entered_map f st (set st n Queued) m.index (λ k i p. set_there st n k Queued (λ q. not_seen st n (Placed i) u (subst (λ z. stage st z ≡ Placed i) q p) tt) ∙ p)
          (c.entered x m (back x (Placed m) tt (λ q. cc) e));
    }
  where
    widen : (y : ℕ) → Reached row st y → Reached (row ++ n ∷ []) (set st n Queued) y
    widen _ (at_leaf x o) = at_leaf x (omega (arith, occurs-append row (n ∷ []) x))
    widen _ (from_child k y m e p r) =
        from_child k y m e (set_there st n k Queued (λ q. subst (λ z. IsSeen z) (sym (subst (λ z. stage st z ≡ Placed m) q p) ∙ u) tt) ∙ p) (widen k r)

pub begun_more : (f : Layout) (row : List ℕ) (w b : Climber) (n : NodeId) → IsLayout f → IsQueueing f row w → occurs row n.index ≡ 0 → IsInUse f n.index →
    Pushed w b n → IsQueueing f (row ++ n.index ∷ []) b
begun_more f row w b n h g off used t =
    let st : List Stage = w.stages.items in
    let k : Kept f row w = g.ready.kept in
    let u : stage st n.index ≡ Unseen = g.rest n.index off in
    let l : n.index < length st = (let a : n.index < length f.slots = in_range f n.index used in omega (arith, k.long)) in
    let es : b.stages.items ≡ set st n.index Queued = t.stages in
    let here : stage b.stages.items n.index ≡ Queued = ap (λ z. stage z n.index) es ∙ set_here st n.index Queued l in
    let there : (y : ℕ) → y ≢ n.index → stage b.stages.items y ≡ stage st y = (λ y ne. ap (λ z. stage z y) es ∙ set_there st n.index y Queued ne) in
    let old : (y : ℕ) (s : Stage) → Queued ≢ s → stage b.stages.items y ≡ s → stage st y ≡ s =
    (λ y s nq e. sym (there y (λ q. nq (sym here ∙ subst (λ z. stage b.stages.items z ≡ s) q e))) ∙ e) in
    record {
      ready = record {
        kept = record {
          climb = subst (λ z. Climb f (row ++ n.index ∷ []) z) (sym es) (climb_begun f row st n.index k.climb u l used);
          queue = subst (λ z. Queue z b.queue.items b.head b.tail) (sym es)
              (subst (λ z. Queue (set st n.index Queued) z b.head b.tail) (sym t.queue)
              (subst (λ z. Queue (set st n.index Queued) (set w.queue.items w.tail n) z b.tail) (sym t.head)
              (subst (λ z. Queue (set st n.index Queued) (set w.queue.items w.tail n) w.head z) (sym t.tail)
              (queue_pushed st w.queue.items w.head w.tail n k.queue u l))));
          count = let a : parked_one (stage st n.index) ≡ 0 = ap parked_one u in let v : parked_one Queued ≡ 0 = refl in
              let e : sum_by parked_one b.stages.items ≡ sum_by parked_one (set st n.index Queued) = ap (λ z. sum_by parked_one z) es in
              let p : w.parked ≡ sum_by parked_one st = k.count in let bp : b.parked ≡ w.parked = t.parked in
              omega (arith, sum_set parked_one st n.index Queued l);
          long = ap (λ (z : List Stage). length z) es ∙ length-set st n.index Queued ∙ k.long;
          few = k.few;
        };
        free = record {
          apart = λ y z m be yb zp. g.ready.free.apart y z m be (old y Blocked (λ q. cc) yb) (old z (Placed m) (λ q. cc) zp);
          runs = λ x e. g.ready.free.runs x (old x InRun (λ q. cc) e);
        };
      };
      head = t.head ∙ g.head;
      parked = t.parked ∙ g.parked;
      tail = t.tail ∙ ap (λ z. z + 1) g.tail ∙ (let e : length row + 1 ≡ length (row ++ n.index ∷ []) = omega (arith, length-append row (n.index ∷ [])) in e);
      rest = λ x o. let z : occurs row x + occurs (n.index ∷ []) x ≡ 0 = omega (arith, occurs-append row (n.index ∷ []) x) in
          there x (λ e. let k : 1 ≤ occurs (n.index ∷ []) x = subst (λ y. 1 ≤ occurs (n.index ∷ []) y) (sym e) (occurs_here n.index []) in absurd (omega arith)) ∙ g.rest x (omega arith);
    }

row_all : (row : List ℕ) (i : ℕ) → i < length row → (x : ℕ) →
    occurs row x ≡ occurs (take i row) x + occurs (get_or row i 0 ∷ []) x + occurs (drop (i + 1) row) x
row_all row i lt x =
    let e : row ≡ (take i row ++ get_or row i 0 ∷ []) ++ drop (i + 1) row = sym (take-append-drop (i + 1) row) ∙ ap (λ z. z ++ drop (i + 1) row) (take_more row i 0 lt) in
    ap (λ z. occurs z x) e ∙ occurs-append (take i row ++ get_or row i 0 ∷ []) (drop (i + 1) row) x ∙ ap (λ k. k + occurs (drop (i + 1) row) x) (occurs-append (take i row) (get_or row i 0 ∷ []) x)

-- none of the first i leaves is the next one
pub row_new : (row : List ℕ) (i : ℕ) → i < length row → ((x : ℕ) → occurs row x ≤ 1) → occurs (take i row) (get_or row i 0) ≡ 0
row_new row i lt once = let o : occurs row (get_or row i 0) ≤ 1 = once (get_or row i 0) in omega (arith, row_all row i lt (get_or row i 0), occurs_here (get_or row i 0) [])

pub leaf_in : (f : Layout) (row part : List ℕ) (w : Climber) → IsQueueing f part w → AreLeaves f row → (x : ℕ) → 1 ≤ occurs row x → x < length w.stages.items
leaf_in f row part w b r x o = let l : x < length f.slots = in_range f x (r.used x o) in let e : length w.stages.items ≡ length f.slots = b.ready.kept.long in omega arith

pub leaf_room : (f : Layout) (row part : List ℕ) (w : Climber) → IsQueueing f part w → AreLeaves f row → (x : ℕ) → 1 ≤ occurs row x → occurs part x ≡ 0 → w.tail < length w.queue.items
leaf_room f row part w b r x o off = unseen_room w.stages.items w.queue.items w.head w.tail x b.ready.kept.queue (b.rest x off) (leaf_in f row part w b r x o)

pub can_push : (f : Layout) (row part : List ℕ) (w : Climber) → IsQueueing f part w → AreLeaves f row → (x : ℕ) → 1 ≤ occurs row x → occurs part x ≡ 0 → CanPush w x
can_push f row part w b r x o off = record {
  n_in = leaf_in f row part w b r x o;
  room = leaf_room f row part w b r x o off;
  few = let c : length f.slots ≤ most_nodes = b.ready.kept.few in omega (arith, b.ready.kept.long, b.ready.kept.queue.long);
}
