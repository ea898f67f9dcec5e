-- The chains of placed nodes.
use Rattle.std.proofs.Common.{◌≡◌, ◌≢◌, inl, inr, ℕ, zero, suc, ◌+◌, ◌≤◌, ◌<◌, true, false, cond, eqb, List, [], ◌∷◌, ◌++◌, length, set, sum_by, take, min, Option, Some, None, refl, sym, ap, subst, ◌∙◌, arith, eq-eqb}
use Rattle.std.proofs.lemmas.Bool.{cases_eq, cases_lt, ne_eqb}
use Rattle.std.proofs.lemmas.List.{length-set, take_more, map-append, length-take, get_or-set_same, get_or-set_other}
use Rattle.pq_arena.specs.declared.node.NodeId.{NodeId}
use Rattle.column_order.specs.Orders.{occurs}
use Rattle.arena_model.specs.Layout.{Layout, IsLayout}
use Rattle.column_order.proofs.Lists.{occurs-append}
use Rattle.arena_model.proofs.Lists.{occurs_here, only_one}
use Rattle.bubble_pass.specs.declared.climber.Stage.{Stage}
use Rattle.bubble_pass.specs.declared.climber.Stage.TheVariants.{Unseen, Queued, Blocked, Top, InRun, Placed}
use Rattle.bubble_pass.specs.declared.climber.Climber.{Climber}
use Rattle.bubble_pass.specs.declared.chains.Chains.{Chains}
use Rattle.pq_arena.specs.RowNodes.{indices}
use Rattle.bubble_pass.specs.Climb.{most_nodes, no_id, stage, at, Queue, unseen_one}
use Rattle.bubble_pass.specs.Moves.{Kept}
use Rattle.bubble_pass.specs.Chains.{is_under, chained, entry, AreLinked, number, Linked, Hung, CanHang}
use Rattle.bubble_pass.proofs.Marks.{seen_by, seen_in}

pub turns_more : (queue : List NodeId) (i : ℕ) → i < length queue → indices (take (i + 1) queue) ≡ indices (take i queue) ++ at queue i ∷ []
turns_more queue i lt = ap indices (take_more queue i no_id lt) ∙ map-append (λ n. n.index) (take i queue) _

-- where a node of the first n stands
pub turn_of : (queue : List NodeId) (n x : ℕ) → n ≤ length queue → 1 ≤ occurs (indices (take n queue)) x → (j : ℕ) × (j < n) × (at queue j ≡ x)
turn_of queue zero x l o = absurd (let e : occurs (indices (take 0 queue)) x ≡ 0 = refl in omega arith)
turn_of queue (suc n) x l o =
    let e : occurs (indices (take (n + 1) queue)) x ≡ occurs (indices (take n queue)) x + occurs (at queue n ∷ []) x =
    ap (λ z. occurs z x) (turns_more queue n (omega arith)) ∙ occurs-append (indices (take n queue)) (at queue n ∷ []) x in
    let s : suc n ≡ n + 1 = omega arith in
    let o1 : 1 ≤ occurs (indices (take (n + 1) queue)) x = subst (λ k. 1 ≤ occurs (indices (take k queue)) x) s o in
    elim (cases_lt 0 (occurs (indices (take n queue)) x)) [
      | inl a ↦ let r = turn_of queue n x (omega arith) a in let lt : r.0 < n = r.1 in (r.0, (let k : r.0 < suc n = omega arith in k), r.2)
      | inr a ↦ (n, omega arith, sym (only_one x (at queue n) (omega arith)))
    ]

pub turn_new : (st : List Stage) (queue : List NodeId) (head tail i : ℕ) → Queue st queue head tail → tail ≤ length queue → i < tail → occurs (indices (take i queue)) (at queue i) ≡ 0
turn_new st queue head tail i q long lt = elim (cases_lt 0 (occurs (indices (take i queue)) (at queue i))) [
  | inl o ↦ let r = turn_of queue i (at queue i) (omega arith) o in absurd (q.apart r.0 i r.1 lt r.2)
  | inr o ↦ omega arith
]

chained_more : (st : List Stage) (xs : List ℕ) (x m : ℕ) (done : List ℕ) → chained st (xs ++ x ∷ []) m done ≡ cond (is_under (stage st x) m) (x ∷ chained st xs m done) (chained st xs m done)
chained_more st [] x m done = refl
chained_more st (y ∷ ys) x m done = chained_more st ys x m (cond (is_under (stage st y) m) (y ∷ done) done)

chained_in : (st : List Stage) (xs : List ℕ) (m : ℕ) (done : List ℕ) (z : ℕ) → occurs (chained st xs m done) z ≤ occurs xs z + occurs done z
chained_in st [] m done z = omega arith
chained_in st (x ∷ xs) m done z =
    let r : occurs (chained st xs m (cond (is_under (stage st x) m) (x ∷ done) done)) z ≤ occurs xs z + occurs (cond (is_under (stage st x) m) (x ∷ done) done) z =
    chained_in st xs m (cond (is_under (stage st x) m) (x ∷ done) done) z in
    let s : occurs (cond (is_under (stage st x) m) (x ∷ done) done) z ≤ occurs (x ∷ []) z + occurs done z =
    (elim (is_under (stage st x) m) as (λ b. occurs (cond b (x ∷ done) done) z ≤ occurs (x ∷ []) z + occurs done z) [ true ↦ omega arith | false ↦ omega arith ]) in
    omega arith

linked_off : (next : List (Option NodeId)) (x : ℕ) (v o : Option NodeId) (xs : List ℕ) → occurs xs x ≡ 0 → AreLinked next o xs → AreLinked (set next x v) o xs
linked_off next x v o [] off h = h
linked_off next x v o (y ∷ ys) off h =
    let ne : y ≢ x = (λ e. let k : 1 ≤ occurs (y ∷ ys) x = subst (λ z. 1 ≤ occurs (y ∷ ys) z) e (occurs_here y ys) in absurd (omega arith)) in
    (h.0, subst (λ z. AreLinked (set next x v) z ys) (sym (get_or-set_other next x y v None ne)) (linked_off next x v (entry next y) ys (omega arith) h.1))

chain : Climber → ℕ → ℕ → List ℕ
chain w n m = chained w.stages.items (indices (take n w.queue.items)) m []

chain_step : (w : Climber) (i m : ℕ) → i < length w.queue.items →
    chain w (i + 1) m ≡ cond (is_under (stage w.stages.items (at w.queue.items i)) m) (at w.queue.items i ∷ chain w i m) (chain w i m)
unfolding chain
chain_step w i m lt =
    ap (λ z. chained w.stages.items z m []) (turns_more w.queue.items i lt) ∙ chained_more w.stages.items (indices (take i w.queue.items)) (at w.queue.items i) m []

room : (f : Layout) (row : List ℕ) (w : Climber) → Kept f row w → w.tail ≤ length w.queue.items
room f row w k = let r : w.tail + sum_by unseen_one w.stages.items ≡ length w.stages.items = k.queue.room in let l : length w.queue.items ≡ length w.stages.items = k.queue.long in omega arith

chain_off : (f : Layout) (row : List ℕ) (w : Climber) (i m : ℕ) → Kept f row w → i < w.tail → occurs (chain w i m) (at w.queue.items i) ≡ 0
unfolding chain
chain_off f row w i m k lt =
    let a : occurs (chained w.stages.items (indices (take i w.queue.items)) m []) (at w.queue.items i) ≤ occurs (indices (take i w.queue.items)) (at w.queue.items i) + occurs [] (at w.queue.items i) =
    chained_in w.stages.items (indices (take i w.queue.items)) m [] (at w.queue.items i) in
    let b : occurs (indices (take i w.queue.items)) (at w.queue.items i) ≡ 0 = turn_new w.stages.items w.queue.items w.head w.tail i k.queue (room f row w k) lt in
    omega arith

pub hang_more : (f : Layout) (row : List ℕ) (w : Climber) (a b : Chains) (i : ℕ) (x m : NodeId) → IsLayout f → Kept f row w → i < w.tail → x.index ≡ at w.queue.items i →
    stage w.stages.items x.index ≡ Placed m → Linked w a i → Hung a b x m → Linked w b (i + 1)
unfolding chain
hang_more f row w a b i x m h k lt e s l t =
    let li : i < length w.queue.items = (let r : w.tail ≤ length w.queue.items = room f row w k in omega arith) in
    let lx : x.index < length a.next.items = (let q : x.index < length w.stages.items = seen_in w.stages.items x.index (seen_by (stage w.stages.items x.index) (Placed m) s tt) in omega (arith, l.nexts)) in
    let lm0 : m.index < length w.stages.items = seen_in w.stages.items m.index (k.climb.above x.index m s).1 in
    let lm : m.index < length a.first.items = omega (arith, l.firsts) in
    let lc : m.index < length a.count.items = omega (arith, l.numbers) in
    let step : (n : ℕ) → chain w (i + 1) n ≡ cond (eqb m.index n) (x.index ∷ chain w i n) (chain w i n) =
    (λ n. chain_step w i n li ∙ ap (λ z. cond (is_under (stage w.stages.items z) n) (z ∷ chain w i n) (chain w i n)) (sym e) ∙ ap (λ z. cond (is_under z n) (x.index ∷ chain w i n) (chain w i n)) s) in
    let off : (n : ℕ) → occurs (chain w i n) x.index ≡ 0 = (λ n. subst (λ z. occurs (chain w i n) z ≡ 0) (sym e) (chain_off f row w i n k lt)) in
    record {
      chains = λ n. elim (cases_eq n m.index) [
        | inl q ↦ subst (λ z. AreLinked b.next.items (entry b.first.items n) z) (sym (step n ∙ ap (λ c. cond c (x.index ∷ chain w i n) (chain w i n)) (eq-eqb m.index n (sym q)))) (
          ap (λ z. entry z n) t.first ∙ ap (λ z. entry (set a.first.items m.index (Some x)) z) q ∙ get_or-set_same a.first.items m.index (Some x) None lm,
          subst (λ z. AreLinked z (entry z x.index) (chain w i n)) (sym t.next)
              (subst (λ z. AreLinked (set a.next.items x.index (entry a.first.items m.index)) z (chain w i n))
              (ap (λ z. entry a.first.items z) q ∙ sym (get_or-set_same a.next.items x.index (entry a.first.items m.index) None lx))
              (linked_off a.next.items x.index (entry a.first.items m.index) (entry a.first.items n) (chain w i n) (off n) (l.chains n))),
        )
        | inr ne ↦ subst (λ z. AreLinked b.next.items (entry b.first.items n) z) (sym (step n ∙ ap (λ c. cond c (x.index ∷ chain w i n) (chain w i n)) (ne_eqb m.index n (λ q. ne (sym q)))))
            (subst (λ z. AreLinked z (entry b.first.items n) (chain w i n)) (sym t.next)
            (subst (λ z. AreLinked (set a.next.items x.index (entry a.first.items m.index)) z (chain w i n))
            (sym (ap (λ z. entry z n) t.first ∙ get_or-set_other a.first.items m.index n (Some x) None ne))
            (linked_off a.next.items x.index (entry a.first.items m.index) (entry a.first.items n) (chain w i n) (off n) (l.chains n))))
      ];
      counts = λ n. elim (cases_eq n m.index) [
        | inl q ↦ ap (λ z. number z n) t.count ∙ ap (λ z. number (set a.count.items m.index (number a.count.items m.index + 1)) z) q
            ∙ get_or-set_same a.count.items m.index (number a.count.items m.index + 1) 0 lc ∙ ap (λ z. number a.count.items z + 1) (sym q)
            ∙ (let c : number a.count.items n ≡ length (chain w i n) = l.counts n in let d : number a.count.items n + 1 ≡ length (x.index ∷ chain w i n) = omega arith in d)
            ∙ ap (λ (z : List ℕ). length z) (sym (step n ∙ ap (λ c. cond c (x.index ∷ chain w i n) (chain w i n)) (eq-eqb m.index n (sym q))))
        | inr ne ↦ ap (λ z. number z n) t.count ∙ get_or-set_other a.count.items m.index n (number a.count.items m.index + 1) 0 ne ∙ l.counts n
            ∙ ap (λ (z : List ℕ). length z) (sym (step n ∙ ap (λ c. cond c (x.index ∷ chain w i n) (chain w i n)) (ne_eqb m.index n (λ q. ne (sym q)))))
      ];
      firsts = ap (λ (z : List (Option NodeId)). length z) t.first ∙ length-set a.first.items m.index (Some x) ∙ l.firsts;
      nexts = ap (λ (z : List (Option NodeId)). length z) t.next ∙ length-set a.next.items x.index _ ∙ l.nexts;
      numbers = ap (λ (z : List ℕ). length z) t.count ∙ length-set a.count.items m.index _ ∙ l.numbers;
      quiet = λ y u. ap (λ z. entry z y) t.next ∙ get_or-set_other a.next.items x.index y (entry a.first.items m.index) None
          (λ q. let z = sym (subst (λ v. stage w.stages.items v ≡ Unseen) q u) ∙ s in cc) ∙ l.quiet y u;
    }

pub hang_none : (f : Layout) (row : List ℕ) (w : Climber) (a : Chains) (i : ℕ) (x : NodeId) → Kept f row w → i < w.tail → x.index ≡ at w.queue.items i →
    ((m : NodeId) → stage w.stages.items x.index ≢ Placed m) → Linked w a i → Linked w a (i + 1)
unfolding chain
hang_none f row w a i x k lt e np l =
    let li : i < length w.queue.items = (let r : w.tail ≤ length w.queue.items = room f row w k in omega arith) in
    let step : (n : ℕ) → chain w (i + 1) n ≡ chain w i n =
    (λ n. chain_step w i n li ∙ ap (λ z. cond z (at w.queue.items i ∷ chain w i n) (chain w i n)) (off n (stage w.stages.items x.index) (ap (λ z. stage w.stages.items z) (sym e)) np)) in
    record {
      chains = λ n. subst (λ z. AreLinked a.next.items (entry a.first.items n) z) (sym (step n)) (l.chains n);
      counts = λ n. l.counts n ∙ ap (λ (z : List ℕ). length z) (sym (step n));
      firsts = l.firsts;
      nexts = l.nexts;
      numbers = l.numbers;
      quiet = l.quiet;
    }
  where
    not_under : (s : Stage) (n : ℕ) → ((m : NodeId) → s ≢ Placed m) → is_under s n ≡ false
    not_under Unseen n h = refl
    not_under Queued n h = refl
    not_under Blocked n h = refl
    not_under Top n h = refl
    not_under InRun n h = refl
    not_under (Placed m) n h = absurd (h m refl)

    off : (n : ℕ) (s : Stage) → stage w.stages.items (at w.queue.items i) ≡ s → ((m : NodeId) → s ≢ Placed m) → is_under (stage w.stages.items (at w.queue.items i)) n ≡ false
    off n s q h = ap (λ z. is_under z n) q ∙ not_under s n h

same_length : (ns : List NodeId) → length (indices ns) ≡ length ns
same_length [] = refl
same_length (n ∷ ns) = ap suc (same_length ns)

pub many : (queue : List NodeId) (i : ℕ) → length (indices (take i queue)) ≤ i
many queue i = let e : length (take i queue) ≡ min i (length queue) = length-take i queue in omega (arith, same_length (take i queue))

pub exactly : (queue : List NodeId) (i : ℕ) → i ≤ length queue → length (indices (take i queue)) ≡ i
exactly queue i l = let e : length (take i queue) ≡ min i (length queue) = length-take i queue in omega (arith, same_length (take i queue))

pub can_hang : (f : Layout) (row : List ℕ) (w : Climber) (a : Chains) (i : ℕ) (x m : NodeId) → Kept f row w → i ≤ w.tail → stage w.stages.items x.index ≡ Placed m → Linked w a i → CanHang a x.index m.index
unfolding chain
can_hang f row w a i x m k le s l = record {
  x_in = let q : x.index < length w.stages.items = seen_in w.stages.items x.index (seen_by (stage w.stages.items x.index) (Placed m) s tt) in omega (arith, l.nexts);
  m_in = let q : m.index < length w.stages.items = seen_in w.stages.items m.index (k.climb.above x.index m s).1 in omega (arith, l.firsts);
  same = l.numbers ∙ sym l.firsts;
  few = let a1 : number a.count.items m.index ≡ length (chain w i m.index) = l.counts m.index in
      let a2 : length (chain w i m.index) ≤ i = short w.stages.items w.queue.items i m.index (let r : w.tail ≤ length w.queue.items = room f row w k in omega arith) in
      let a3 : length f.slots ≤ most_nodes = k.few in omega (arith, room f row w k, k.queue.long, k.long);
}
  where
    no_more : (st : List Stage) (xs : List ℕ) (m : ℕ) (done : List ℕ) → length (chained st xs m done) ≤ length xs + length done
    no_more st [] m done = omega arith
    no_more st (x ∷ xs) m done =
        let r : length (chained st xs m (cond (is_under (stage st x) m) (x ∷ done) done)) ≤ length xs + length (cond (is_under (stage st x) m) (x ∷ done) done) =
        no_more st xs m (cond (is_under (stage st x) m) (x ∷ done) done) in
        let s : length (cond (is_under (stage st x) m) (x ∷ done) done) ≤ 1 + length done =
        (elim (is_under (stage st x) m) as (λ b. length (cond b (x ∷ done) done) ≤ 1 + length done) [ true ↦ omega arith | false ↦ omega arith ]) in
        omega arith

    short : (st : List Stage) (queue : List NodeId) (i m : ℕ) → i ≤ length queue → length (chained st (indices (take i queue)) m []) ≤ i
    short st queue i m l = let e : length (indices (take i queue)) ≤ i = many queue i in omega (arith, no_more st (indices (take i queue)) m [])
