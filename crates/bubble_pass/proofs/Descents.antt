-- From a node that holds the row down to the smallest one.
use Rattle.std.proofs.Common.{◌≡◌, ◌≢◌, ◌⊎◌, inl, inr, ℕ, zero, suc, ◌+◌, ◌≤◌, ◌<◌, true, false, cond, List, [], ◌∷◌, length, set, sum_by, take, Option, Some, None, refl, sym, ap, subst, ◌∙◌, arith, eq-eqb, eqb-true}
use Rattle.std.proofs.lemmas.Bool.{cases_eq, cases_lt}
use Rattle.std.proofs.lemmas.List.{length-set, get_or-set_same, get_or-set_other}
use Rattle.pq_arena.specs.declared.node.NodeId.{NodeId}
use Rattle.column_order.specs.Orders.{occurs}
use Rattle.arena_model.specs.Layout.{Layout, children_at, IsAtOrAbove, here, down, IsLayout, MayHaveChildren}
use Rattle.column_order.proofs.Lists.{occurs-append}
use Rattle.arena_model.proofs.Lists.{occurs_here, occurs_other, occurs_same, only_one}
use Rattle.arena_model.proofs.Paths.{one_parent}
use Rattle.arena_model.proofs.Slots.{some_inj}
use Rattle.arena_model.proofs.Trees.{no_circle}
use Rattle.bubble_pass.specs.declared.climber.Stage.{Stage}
use Rattle.bubble_pass.specs.declared.climber.Stage.TheVariants.{Unseen, Queued, Blocked, Top, InRun, Placed}
use Rattle.bubble_pass.specs.declared.climber.Climber.{Climber}
use Rattle.bubble_pass.specs.declared.chains.Chains.{Chains}
use Rattle.pq_arena.specs.RowNodes.{indices}
use Rattle.bubble_pass.specs.Climb.{stage, at, unseen_one}
use Rattle.bubble_pass.specs.Moves.{Kept}
use Rattle.bubble_pass.specs.Ends.{AreLeaves}
use Rattle.bubble_pass.specs.Chains.{is_under, chained, entry, AreLinked, number, Cut}
use Rattle.bubble_pass.specs.Roots.{below, Descending, Descent, IsSmallest}
use Rattle.bubble_pass.proofs.Marks.{seen_by, seen_in}
use Rattle.bubble_pass.proofs.Opens.{climbed, reached_meets, one_child}
use Rattle.bubble_pass.proofs.Fronts.{join_leads}
use Rattle.bubble_pass.proofs.Splits.{FirstStep, first_step}
use Rattle.bubble_pass.proofs.Linking.{turns_more}
use Rattle.bubble_pass.proofs.Turning.{turns_once}

pub chained_has : (st : List Stage) (xs : List ℕ) (m : ℕ) (done : List ℕ) (z : ℕ) → is_under (stage st z) m ≡ true → occurs (chained st xs m done) z ≡ occurs xs z + occurs done z
chained_has st [] m done z u = omega arith
chained_has st (x ∷ xs) m done z u =
    let r : occurs (chained st xs m (cond (is_under (stage st x) m) (x ∷ done) done)) z ≡ occurs xs z + occurs (cond (is_under (stage st x) m) (x ∷ done) done) z =
    chained_has st xs m (cond (is_under (stage st x) m) (x ∷ done) done) z u in
    let s : occurs (cond (is_under (stage st x) m) (x ∷ done) done) z ≡ occurs (x ∷ []) z + occurs done z = (elim (cases_eq z x) [
      | inl e ↦ ap (λ b. occurs (cond b (x ∷ done) done) z) (subst (λ v. is_under (stage st v) m ≡ true) e u) ∙ (let k : occurs (x ∷ done) z ≡ occurs (x ∷ []) z + occurs done z = omega arith in k)
      | inr ne ↦ (elim (is_under (stage st x) m) as (λ b. occurs (cond b (x ∷ done) done) z ≡ occurs (x ∷ []) z + occurs done z) [ true ↦ omega arith | false ↦ omega (arith, occurs_other x z [] ne) ])
    ]) in
    omega arith

pub chained_only : (st : List Stage) (xs : List ℕ) (m : ℕ) (done : List ℕ) (z : ℕ) → 1 ≤ occurs (chained st xs m done) z → (1 ≤ occurs done z) ⊎ (is_under (stage st z) m ≡ true)
chained_only st [] m done z o = inl o
chained_only st (x ∷ xs) m done z o = elim (chained_only st xs m (cond (is_under (stage st x) m) (x ∷ done) done) z o) [
  | inr u ↦ inr u
  | inl i ↦ (elim (is_under (stage st x) m) as (λ b. is_under (stage st x) m ≡ b → 1 ≤ occurs (cond b (x ∷ done) done) z → (1 ≤ occurs done z) ⊎ (is_under (stage st z) m ≡ true)) [
    | true ↦ λ e j. elim (cases_eq z x) [
      | inl q ↦ inr (subst (λ v. is_under (stage st v) m ≡ true) (sym q) e)
      | inr ne ↦ inl (subst (λ v. 1 ≤ v) (occurs_other x z done ne) j)
    ]
    | false ↦ λ e j. inl j
  ]) refl i
]

pub under_is : (s : Stage) (m : ℕ) → is_under s m ≡ true → (k : NodeId) × (s ≡ Placed k) × (k.index ≡ m)
under_is Unseen m e = absurd (let z : false ≡ true = e in cc)
under_is Queued m e = absurd (let z : false ≡ true = e in cc)
under_is Blocked m e = absurd (let z : false ≡ true = e in cc)
under_is Top m e = absurd (let z : false ≡ true = e in cc)
under_is InRun m e = absurd (let z : false ≡ true = e in cc)
under_is (Placed k) m e = (k, refl, eqb-true k.index m e)

pub turn_in : (queue : List NodeId) (n i : ℕ) → n ≤ length queue → i < n → 1 ≤ occurs (indices (take n queue)) (at queue i)
turn_in queue zero i l lt = absurd (omega arith)
turn_in queue (suc n) i l lt =
    let s : suc n ≡ n + 1 = omega arith in
    let e : occurs (indices (take (suc n) queue)) (at queue i) ≡ occurs (indices (take n queue)) (at queue i) + occurs (at queue n ∷ []) (at queue i) =
    ap (λ k. occurs (indices (take k queue)) (at queue i)) s ∙ ap (λ z. occurs z (at queue i)) (turns_more queue n (omega arith)) ∙ occurs-append (indices (take n queue)) (at queue n ∷ []) (at queue i) in
    elim (cases_eq i n) [
      | inl q ↦ let o : 1 ≤ occurs (at queue n ∷ []) (at queue i) = subst (λ k. 1 ≤ occurs (at queue n ∷ []) (at queue k)) (sym q) (occurs_here (at queue n) []) in omega arith
      | inr ne ↦ let r : 1 ≤ occurs (indices (take n queue)) (at queue i) = turn_in queue n i (omega arith) (omega arith) in omega arith
    ]

pub long_queue : (f : Layout) (row : List ℕ) (w : Climber) → Kept f row w → w.tail ≤ length w.queue.items
long_queue f row w k = let r : w.tail + sum_by unseen_one w.stages.items ≡ length w.stages.items = k.queue.room in let l : length w.queue.items ≡ length w.stages.items = k.queue.long in omega arith

-- the chain of m has each child that is placed under it
pub below_has : (f : Layout) (row : List ℕ) (w : Climber) (z m : ℕ) (k : NodeId) → Kept f row w → stage w.stages.items z ≡ Placed k → k.index ≡ m → 1 ≤ occurs (below w m) z
below_has f row w z m k kept s e =
    let q = kept.queue.all z (seen_by (stage w.stages.items z) (Placed k) s tt) in
    let u : is_under (stage w.stages.items z) m ≡ true = ap (λ v. is_under v m) s ∙ eq-eqb k.index m e in
    let o : 1 ≤ occurs (indices (take w.tail w.queue.items)) z = subst (λ v. 1 ≤ occurs (indices (take w.tail w.queue.items)) v) q.2 (turn_in w.queue.items w.tail q.0 (long_queue f row w kept) q.1) in
    omega (arith, chained_has w.stages.items (indices (take w.tail w.queue.items)) m [] z u)

pub below_only : (f : Layout) (row : List ℕ) (w : Climber) (z m : ℕ) → Kept f row w → 1 ≤ occurs (below w m) z → (k : NodeId) × (stage w.stages.items z ≡ Placed k) × (k.index ≡ m)
below_only f row w z m kept o = elim (chained_only w.stages.items (indices (take w.tail w.queue.items)) m [] z o) [
  | inl i ↦ absurd (omega arith)
  | inr u ↦ under_is (stage w.stages.items z) m u
]

pub below_once : (f : Layout) (row : List ℕ) (w : Climber) (z m : ℕ) → Kept f row w → occurs (below w m) z ≤ 1
below_once f row w z m kept = elim (cases_lt 0 (occurs (below w m) z)) [
  | inl o ↦ let p = below_only f row w z m kept o in
      let u : is_under (stage w.stages.items z) m ≡ true = ap (λ v. is_under v m) p.1 ∙ eq-eqb p.0.index m p.2 in
      let t : occurs (indices (take w.tail w.queue.items)) z ≤ 1 = turns_once w.stages.items w.queue.items w.head w.tail kept.queue (long_queue f row w kept) w.tail z (omega arith) in
      omega (arith, chained_has w.stages.items (indices (take w.tail w.queue.items)) m [] z u)
  | inr o ↦ omega arith
]

pub chain_kid : (f : Layout) (row : List ℕ) (w : Climber) (z m : ℕ) → Kept f row w → 1 ≤ occurs (below w m) z → 1 ≤ occurs (children_at f m) z
chain_kid f row w z m k o = let p = below_only f row w z m k o in subst (λ v. 1 ≤ occurs (children_at f v) z) p.2 (k.climb.above z p.0 p.1).0

pub bare : (f : Layout) (row : List ℕ) (x k : ℕ) → IsLayout f → AreLeaves f row → 1 ≤ occurs row x → 1 ≤ occurs (children_at f x) k → ⊥
bare f row x k h w o ok =
    let e : children_at f x ≡ [] = subst (λ z. MayHaveChildren z (children_at f x)) (w.leaf x o).1 (h.children_fit x) in
    let z : 1 ≤ occurs [] k = subst (λ v. 1 ≤ occurs v k) e ok in absurd (omega arith)

-- a leaf of the row below r is below one of its chain
pub through_chain : (f : Layout) (row : List ℕ) (w : Climber) (c : Chains) (top r x : ℕ) → IsLayout f → AreLeaves f row → Descending f row w c top r → 1 ≤ occurs row x → x ≢ r →
    (z : ℕ) × (1 ≤ occurs (below w r) z) × IsAtOrAbove f.slots z x
through_chain f row w c top r x h is_row d o ne =
    let s : FirstStep f r x = first_step f r x (d.holds x o) ne in
    elim (climbed f row w.stages.items h d.kept.climb s.c x s.leads (d.kept.climb.leaves x o)) [
      | inl b ↦ absurd (no_circle f.slots r s.c (h.grounds r) s.kid (join_leads f.slots s.c top r (subst (λ v. IsAtOrAbove f.slots s.c v) (d.only b.y b.open_is) b.above) d.leads))
      | inr p ↦ let e : p.0.index ≡ r = one_parent f p.0.index r s.c h (d.kept.climb.above s.c p.0 p.1).0 s.kid in
          (s.c, below_has f row w s.c r p.0 d.kept p.1 e, s.leads)
    ]

pub other_in : (xs : List ℕ) (k : ℕ) → 2 ≤ length xs → ((x : ℕ) → occurs xs x ≤ 1) → (z : ℕ) × (1 ≤ occurs xs z) × (z ≢ k)
other_in [] k l once = absurd (omega arith)
other_in (a ∷ []) k l once = absurd (omega arith)
other_in (a ∷ b ∷ xs) k l once = elim (cases_eq a k) [
  | inl e ↦ (
    b,
    (let o : 1 ≤ occurs (b ∷ xs) b = occurs_here b xs in let p : 1 ≤ occurs (a ∷ b ∷ xs) b = omega arith in p),
    λ q. let two : occurs (a ∷ b ∷ xs) a ≤ 1 = once a in let o : 1 ≤ occurs (b ∷ xs) a = subst (λ v. 1 ≤ occurs (b ∷ xs) v) (q ∙ sym e) (occurs_here b xs) in
        absurd (omega (arith, occurs_same a (b ∷ xs))),
  )
  | inr ne ↦ (a, occurs_here a (b ∷ xs), ne)
]

pub smallest : (f : Layout) (row : List ℕ) (w : Climber) (c : Chains) (top r : ℕ) → IsLayout f → AreLeaves f row → Descending f row w c top r → number c.count.items r ≢ 1 → IsSmallest f row r
smallest f row w c top r h is_row d ne = record {
  holds = d.holds;
  least = λ k ok hk.
      let x : ℕ = is_row.some.0 in
      let xr : x ≢ r = (λ e. bare f row x k h is_row is_row.some.1 (subst (λ v. 1 ≤ occurs (children_at f v) k) (sym e) ok)) in
      let z = through_chain f row w c top r x h is_row d is_row.some.1 xr in
      let n : number c.count.items r ≡ length (below w r) = d.linked.counts r (here r) in
      let some : 1 ≤ length (below w r) = long (below w r) z.0 z.1 in
      let o = other_in (below w r) k (omega arith) (λ v. below_once f row w v r d.kept) in
      let p = below_only f row w o.0 r d.kept o.1 in
      let m = reached_meets f row w.stages.items d.kept.climb o.0 (d.kept.climb.reached o.0 (seen_by (stage w.stages.items o.0) (Placed p.0) p.1 tt)) in
      o.2 (one_child f r o.0 k m.0 h (chain_kid f row w o.0 r d.kept o.1) ok m.2 (hk m.0 m.1));
}
  where
    long : (xs : List ℕ) (z : ℕ) → 1 ≤ occurs xs z → 1 ≤ length xs
    long [] z o = absurd (omega arith)
    long (y ∷ ys) z o = omega arith

-- a chain of one
only_link : (next : List (Option NodeId)) (o : Option NodeId) (xs : List ℕ) (k : NodeId) → AreLinked next o xs → length xs ≡ 1 → o ≡ Some k → xs ≡ k.index ∷ []
only_link next o [] k l n e = absurd (omega arith)
only_link next o (x ∷ []) k l n e = ap (λ v. v ∷ []) (ap (λ (i : NodeId). i.index) (some_inj _ _ (sym l.0 ∙ e)))
only_link next o (x ∷ y ∷ ys) k l n e = absurd (omega arith)

pub no_link : (next : List (Option NodeId)) (o : Option NodeId) (xs : List ℕ) → AreLinked next o xs → length xs ≡ 1 → o ≡ None → ⊥
no_link next o [] l n e = absurd (omega arith)
no_link next o (x ∷ xs) l n e = let z = sym l.0 ∙ e in cc

pub descend_step : (f : Layout) (row : List ℕ) (w : Climber) (a b : Chains) (top : ℕ) (r k : NodeId) → IsLayout f → AreLeaves f row → Descending f row w a top r.index → number a.count.items r.index ≡ 1 →
    entry a.first.items r.index ≡ Some k → Cut a b r → Descending f row w b top k.index
descend_step f row w a b top r k h is_row d one e t =
    let n : number a.count.items r.index ≡ length (below w r.index) = d.linked.counts r.index (here r.index) in
    let is : below w r.index ≡ k.index ∷ [] = only_link a.next.items (entry a.first.items r.index) (below w r.index) k (d.linked.chains r.index (here r.index)) (sym n ∙ one) e in
    let in_chain : 1 ≤ occurs (below w r.index) k.index = subst (λ v. 1 ≤ occurs v k.index) (sym is) (occurs_here k.index []) in
    let kid : 1 ≤ occurs (children_at f r.index) k.index = chain_kid f row w k.index r.index d.kept in_chain in
    let p = below_only f row w k.index r.index d.kept in_chain in
    let off : (m : ℕ) → IsAtOrAbove f.slots k.index m → m ≢ r.index = (λ m l q. no_circle f.slots r.index k.index (h.grounds r.index) kid (subst (λ v. IsAtOrAbove f.slots k.index v) q l)) in
    record {
      kept = d.kept;
      holds = λ x o.
          let z = through_chain f row w a top r.index x h is_row d o (λ q. bare f row x k.index h is_row o (subst (λ v. 1 ≤ occurs (children_at f v) k.index) (sym q) kid)) in
          subst (λ v. IsAtOrAbove f.slots v x) (only_one z.0 k.index (subst (λ v. 1 ≤ occurs v z.0) is z.1)) z.2;
      only = d.only;
      leads = join_leads f.slots top r.index k.index d.leads (down r.index k.index k.index kid (here k.index));
      linked = record {
        chains = λ m l. subst (λ v. AreLinked v (entry b.first.items m) (below w m)) (sym t.next)
            (subst (λ v. AreLinked a.next.items v (below w m)) (sym (ap (λ v. entry v m) t.first ∙ get_or-set_other a.first.items r.index m None None (off m l)))
            (d.linked.chains m (down r.index k.index m kid l)));
        counts = λ m l. ap (λ v. number v m) t.count ∙ get_or-set_other a.count.items r.index m 0 0 (off m l) ∙ d.linked.counts m (down r.index k.index m kid l);
        firsts = ap (λ (v : List (Option NodeId)). length v) t.first ∙ length-set a.first.items r.index None ∙ d.linked.firsts;
        numbers = ap (λ (v : List ℕ). length v) t.count ∙ length-set a.count.items r.index 0 ∙ d.linked.numbers;
      };
      inside = seen_in w.stages.items k.index (seen_by (stage w.stages.items k.index) (Placed p.0) p.1 tt);
    }

pub descent_start : (f : Layout) (row : List ℕ) (w : Climber) (a : Chains) (top : ℕ) → Descending f row w a top top → Descent f row w a a top top
descent_start f row w a top d = record { at = d; cuts = record { next = refl; firsts = λ x e. e; counts = λ x e. e } }

pub descent_step : (f : Layout) (row : List ℕ) (w : Climber) (o a b : Chains) (top : ℕ) (r k : NodeId) → IsLayout f → AreLeaves f row → Descent f row w o a top r.index → number a.count.items r.index ≡ 1 →
    entry a.first.items r.index ≡ Some k → Cut a b r → Descent f row w o b top k.index
descent_step f row w o a b top r k h is_row d one e t = record {
  at = descend_step f row w a b top r k h is_row d.at one e t;
  cuts = record {
    next = t.next ∙ d.cuts.next;
    firsts = λ x n. elim (cases_eq x r.index) [
      | inl q ↦ ap (λ v. entry v x) t.first ∙ ap (λ v. entry (set a.first.items r.index None) v) q ∙ get_or-set_same a.first.items r.index None None (let l : r.index < length w.stages.items = d.at.inside in omega (arith, d.at.linked.firsts))
      | inr ne ↦ ap (λ v. entry v x) t.first ∙ get_or-set_other a.first.items r.index x None None ne ∙ d.cuts.firsts x n
    ];
    counts = λ x n. elim (cases_eq x r.index) [
      | inl q ↦ ap (λ v. number v x) t.count ∙ ap (λ v. number (set a.count.items r.index 0) v) q ∙ get_or-set_same a.count.items r.index 0 0 (let l : r.index < length w.stages.items = d.at.inside in omega (arith, d.at.linked.numbers))
      | inr ne ↦ ap (λ v. number v x) t.count ∙ get_or-set_other a.count.items r.index x 0 0 ne ∙ d.cuts.counts x n
    ];
  };
}
