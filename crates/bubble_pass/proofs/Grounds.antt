-- What the labels stand on, after the climb.
use Rattle.std.proofs.Common.{◌≡◌, ◌≢◌, inl, inr, ℕ, ◌≤◌, Bool, true, false, cond, List, [], ◌∷◌, ◌++◌, length, take, refl, sym, ap, subst, ◌∙◌, arith, eq-eqb}
use Rattle.std.proofs.lemmas.Bool.{cases_eq, cases_lt}
use Rattle.std.proofs.lemmas.List.{length-set}
use Rattle.arena_model.proofs.Outlines.{apart_children}
use Rattle.pq_arena.specs.declared.node.NodeId.{NodeId}
use Rattle.column_order.specs.Orders.{occurs}
use Rattle.arena_model.specs.Layout.{Layout, children_at, IsAtOrAbove, down, IsLayout}
use Rattle.column_order.proofs.Lists.{occurs-append}
use Rattle.arena_model.proofs.Lists.{occurs_here}
use Rattle.arena_model.proofs.Paths.{one_parent}
use Rattle.arena_model.proofs.Trees.{no_circle}
use Rattle.bubble_pass.specs.declared.climber.Stage.{Stage}
use Rattle.bubble_pass.specs.declared.climber.Stage.TheVariants.{InRun, Placed}
use Rattle.bubble_pass.specs.declared.climber.Climber.{Climber}
use Rattle.bubble_pass.specs.declared.chains.Chains.{Chains}
use Rattle.pq_arena.specs.RowNodes.{indices}
use Rattle.bubble_pass.specs.Climb.{stage, IsSeen, IsOpen}
use Rattle.bubble_pass.specs.Moves.{Kept, Staged}
use Rattle.bubble_pass.specs.Ends.{AreLeaves, RunIs}
use Rattle.bubble_pass.specs.Chains.{Linked, is_under, chained}
use Rattle.bubble_pass.specs.Roots.{below, Descending}
use Rattle.bubble_pass.specs.Sweep.{Ground, IsPertinent}
use Rattle.bubble_pass.proofs.Marks.{seen_by, set_here, set_there}
use Rattle.bubble_pass.proofs.Turning.{turns_once}
use Rattle.bubble_pass.proofs.Opens.{Below, climbed, climbs, reached_meets}
use Rattle.bubble_pass.proofs.Fronts.{join_leads}
use Rattle.bubble_pass.proofs.Descents.{below_has, below_only, below_once, chain_kid, bare, chained_has, chained_only, under_is, turn_in, long_queue, through_chain}

-- all open nodes are in one run
pub ground_run : (f : Layout) (row : List ℕ) (w : Climber) (c : Chains) (q : ℕ) (us ks vs : List ℕ) → IsLayout f → AreLeaves f row → Kept f row w → RunIs f w.stages.items q us ks vs →
    ((y : ℕ) → IsOpen (stage w.stages.items y) → stage w.stages.items y ≡ InRun) → Linked w c w.tail → Ground f row w c
ground_run f row w c q us ks vs h is_row k run only linked = record {
  once = λ m x. below_once f row w x m k;
  only = λ m x o. below_only f row w x m k o;
  has = λ x n s. below_has f row w x n.index n k s refl;
  above = k.climb.above;
  used = k.climb.used;
  counts = λ m p. linked.counts m;
  leaves = λ x o. let b : Below f w.stages.items f.root x = climbs f row w.stages.items h k.climb is_row x o in
      record { seen = k.climb.leaves x o; top = b.y; marked = only b.y b.open_is; leads = b.leads };
  bare = λ x o. nil (below w x) (λ z i. bare f row x z h is_row o (chain_kid f row w z x k i));
  meets = λ x s. reached_meets f row w.stages.items k.climb x (k.climb.reached x s);
  all = λ x n p o m. elim (climbed f row w.stages.items h k.climb n m.0 m.2 (k.climb.leaves m.0 m.1)) [
    | inl b ↦ absurd (
        let below_top : IsAtOrAbove f.slots p.top b.y = join_leads f.slots p.top x b.y p.leads (down x n b.y o b.above) in
        elim (cases_eq p.top b.y) [
          | inl e ↦ no_circle f.slots x n (h.grounds x) o (join_leads f.slots n b.y x b.above (subst (λ v. IsAtOrAbove f.slots v x) e p.leads))
          | inr ne ↦ apart_children f q p.top b.y h (child p.top p.marked) (child b.y (only b.y b.open_is)) below_top ne
        ])
    | inr r ↦ below_has f row w n x r.0 k r.1 (one_parent f r.0.index x n h (k.climb.above n r.0 r.1).0 o)
  ];
  long = k.long;
  numbers = linked.numbers;
}
  where
    child : (z : ℕ) → stage w.stages.items z ≡ InRun → 1 ≤ occurs (children_at f q) z
    child z e = let o : 1 ≤ occurs ks z = run.only z e in
        subst (λ v. 1 ≤ occurs v z) (sym run.kids_are) (omega (arith, occurs-append us (ks ++ vs) z, occurs-append ks vs z))

    nil : (xs : List ℕ) → ((z : ℕ) → 1 ≤ occurs xs z → ⊥) → xs ≡ []
    nil [] h = refl
    nil (x ∷ xs) h = absurd (h x (occurs_here x xs))

-- chains that agree on who is under m
chained_same : (st st' : List Stage) (xs : List ℕ) (m : ℕ) (done : List ℕ) → ((z : ℕ) → is_under (stage st' z) m ≡ is_under (stage st z) m) → chained st' xs m done ≡ chained st xs m done
chained_same st st' [] m done same = refl
chained_same st st' (x ∷ xs) m done same =
    ap (λ b. chained st' xs m (cond b (x ∷ done) done)) (same x) ∙ chained_same st st' xs m (cond (is_under (stage st x) m) (x ∷ done) done) same

-- one node is marked as in the run
pub record Marked (f : Layout) (row : List ℕ) (w w2 : Climber) (c : Chains) (top : ℕ) (r : NodeId) : Type 0 where
  pub forest : IsLayout f
  pub is_row : AreLeaves f row
  pub descending : Descending f row w c top r.index
  pub clear : (y : ℕ) → stage w.stages.items y ≢ InRun
  pub staged : Staged w w2 r InRun

pub marked_here : (f : Layout) (row : List ℕ) (w w2 : Climber) (c : Chains) (top : ℕ) (r : NodeId) → Marked f row w w2 c top r → stage w2.stages.items r.index ≡ InRun
marked_here f row w w2 c top r m = ap (λ z. stage z r.index) m.staged.stages ∙ set_here w.stages.items r.index InRun m.descending.inside

pub marked_there : (f : Layout) (row : List ℕ) (w w2 : Climber) (c : Chains) (top : ℕ) (r : NodeId) → Marked f row w w2 c top r → (y : ℕ) → y ≢ r.index → stage w2.stages.items y ≡ stage w.stages.items y
marked_there f row w w2 c top r m y ne = ap (λ z. stage z y) m.staged.stages ∙ set_there w.stages.items r.index y InRun ne

marked_placed : (f : Layout) (row : List ℕ) (w w2 : Climber) (c : Chains) (top : ℕ) (r : NodeId) → Marked f row w w2 c top r → (y : ℕ) (k : NodeId) → stage w2.stages.items y ≡ Placed k → stage w.stages.items y ≡ Placed k
marked_placed f row w w2 c top r m y k e = elim (cases_eq y r.index) [
  | inl q ↦ absurd (let z = sym (subst (λ v. stage w2.stages.items v ≡ Placed k) q e) ∙ marked_here f row w w2 c top r m in cc)
  | inr ne ↦ sym (marked_there f row w w2 c top r m y ne) ∙ e
]

-- the node that holds the row was seen
pub holder_seen : (f : Layout) (row : List ℕ) (w : Climber) (c : Chains) (top r : ℕ) → IsLayout f → AreLeaves f row → Descending f row w c top r → IsSeen (stage w.stages.items r)
holder_seen f row w c top r h is_row d = elim (cases_eq is_row.some.0 r) [
  | inl e ↦ subst (λ z. IsSeen (stage w.stages.items z)) e (d.kept.climb.leaves is_row.some.0 is_row.some.1)
  | inr ne ↦ let z = through_chain f row w c top r is_row.some.0 h is_row d is_row.some.1 ne in
      let p = below_only f row w z.0 r d.kept z.1 in
      subst (λ v. IsSeen (stage w.stages.items v)) p.2 (d.kept.climb.above z.0 p.0 p.1).1
]

pub marked_seen : (f : Layout) (row : List ℕ) (w w2 : Climber) (c : Chains) (top : ℕ) (r : NodeId) → Marked f row w w2 c top r → (y : ℕ) → IsSeen (stage w2.stages.items y) → IsSeen (stage w.stages.items y)
marked_seen f row w w2 c top r m y s = elim (cases_eq y r.index) [
  | inl q ↦ subst (λ z. IsSeen (stage w.stages.items z)) (sym q) (holder_seen f row w c top r.index m.forest m.is_row m.descending)
  | inr ne ↦ subst (λ z. IsSeen z) (marked_there f row w w2 c top r m y ne) s
]

marked_still : (f : Layout) (row : List ℕ) (w w2 : Climber) (c : Chains) (top : ℕ) (r : NodeId) → Marked f row w w2 c top r → (y : ℕ) → IsSeen (stage w.stages.items y) → IsSeen (stage w2.stages.items y)
marked_still f row w w2 c top r m y s = elim (cases_eq y r.index) [
  | inl q ↦ subst (λ z. IsSeen (stage w2.stages.items z)) (sym q) (seen_by (stage w2.stages.items r.index) InRun (marked_here f row w w2 c top r m) tt)
  | inr ne ↦ seen_by (stage w2.stages.items y) (stage w.stages.items y) (marked_there f row w w2 c top r m y ne) s
]

turns : Climber → List ℕ
turns w = indices (take w.tail w.queue.items)

marked_turns : (f : Layout) (row : List ℕ) (w w2 : Climber) (c : Chains) (top : ℕ) (r : NodeId) → Marked f row w w2 c top r → turns w2 ≡ turns w
unfolding turns
marked_turns f row w w2 c top r m = ap (λ n. indices (take n w2.queue.items)) m.staged.tail ∙ ap (λ q. indices (take w.tail q)) m.staged.queue

marked_only : (f : Layout) (row : List ℕ) (w w2 : Climber) (c : Chains) (top : ℕ) (r : NodeId) → Marked f row w w2 c top r → (n x : ℕ) → 1 ≤ occurs (below w2 n) x →
    (k : NodeId) × (stage w2.stages.items x ≡ Placed k) × (k.index ≡ n)
marked_only f row w w2 c top r m n x o = elim (chained_only w2.stages.items (indices (take w2.tail w2.queue.items)) n [] x o) [
  | inl i ↦ absurd (omega arith)
  | inr u ↦ under_is (stage w2.stages.items x) n u
]

marked_occurs : (f : Layout) (row : List ℕ) (w w2 : Climber) (c : Chains) (top : ℕ) (r : NodeId) → Marked f row w w2 c top r → (n x : ℕ) (k : NodeId) → stage w2.stages.items x ≡ Placed k → k.index ≡ n →
    occurs (below w2 n) x ≡ occurs (turns w) x
unfolding turns
marked_occurs f row w w2 c top r m n x k s e =
    let u : is_under (stage w2.stages.items x) n ≡ true = ap (λ v. is_under v n) s ∙ eq-eqb k.index n e in
    let t : occurs (indices (take w2.tail w2.queue.items)) x ≡ occurs (indices (take w.tail w.queue.items)) x = ap (λ z. occurs z x) (marked_turns f row w w2 c top r m) in
    omega (arith, chained_has w2.stages.items (indices (take w2.tail w2.queue.items)) n [] x u)

marked_has : (f : Layout) (row : List ℕ) (w w2 : Climber) (c : Chains) (top : ℕ) (r : NodeId) → Marked f row w w2 c top r → (n x : ℕ) (k : NodeId) → stage w2.stages.items x ≡ Placed k → k.index ≡ n →
    1 ≤ occurs (below w2 n) x
unfolding turns
marked_has f row w w2 c top r m n x k s e =
    let kept : Kept f row w = m.descending.kept in
    let q = kept.queue.all x (seen_by (stage w.stages.items x) (Placed k) (marked_placed f row w w2 c top r m x k s) tt) in
    let o : 1 ≤ occurs (indices (take w.tail w.queue.items)) x = subst (λ v. 1 ≤ occurs (indices (take w.tail w.queue.items)) v) q.2 (turn_in w.queue.items w.tail q.0 (long_queue f row w kept) q.1) in
    omega (arith, marked_occurs f row w w2 c top r m n x k s e)

marked_once : (f : Layout) (row : List ℕ) (w w2 : Climber) (c : Chains) (top : ℕ) (r : NodeId) → Marked f row w w2 c top r → (n x : ℕ) → occurs (below w2 n) x ≤ 1
unfolding turns
marked_once f row w w2 c top r m n x = elim (cases_lt 0 (occurs (below w2 n) x)) [
  | inl o ↦ let p = marked_only f row w w2 c top r m n x o in
      let kept : Kept f row w = m.descending.kept in
      let t : occurs (indices (take w.tail w.queue.items)) x ≤ 1 = turns_once w.stages.items w.queue.items w.head w.tail kept.queue (long_queue f row w kept) w.tail x (omega arith) in
      omega (arith, marked_occurs f row w w2 c top r m n x p.0 p.1 p.2)
  | inr o ↦ omega arith
]

-- the chains at and below the marked node stay
pub marked_below : (f : Layout) (row : List ℕ) (w w2 : Climber) (c : Chains) (top : ℕ) (r : NodeId) → Marked f row w w2 c top r → (n : ℕ) → IsAtOrAbove f.slots r.index n → below w2 n ≡ below w n
unfolding turns
marked_below f row w w2 c top r m n l =
    ap (λ xs. chained w2.stages.items xs n []) (marked_turns f row w w2 c top r m)
    ∙ chained_same w.stages.items w2.stages.items (turns w) n [] (λ z. elim (cases_eq z r.index) [
      | inl q ↦ subst (λ v. is_under (stage w2.stages.items v) n ≡ is_under (stage w.stages.items v) n) (sym q)
          (ap (λ v. is_under v n) (marked_here f row w w2 c top r m) ∙ sym (off (is_under (stage w.stages.items r.index) n) refl))
      | inr ne ↦ ap (λ v. is_under v n) (marked_there f row w w2 c top r m z ne)
    ])
  where
    off : (b : Bool) → is_under (stage w.stages.items r.index) n ≡ b → is_under (stage w.stages.items r.index) n ≡ false
    off false e = e
    off true e = let p = under_is (stage w.stages.items r.index) n e in
        absurd (no_circle f.slots n r.index (m.forest.grounds n) (subst (λ v. 1 ≤ occurs (children_at f v) r.index) p.2 (m.descending.kept.climb.above r.index p.0 p.1).0) l)

pub marked_leads : (f : Layout) (row : List ℕ) (w w2 : Climber) (c : Chains) (top : ℕ) (r : NodeId) → Marked f row w w2 c top r → (n : ℕ) → IsPertinent f w2 n → IsAtOrAbove f.slots r.index n
marked_leads f row w w2 c top r m n p = elim (cases_eq p.top r.index) [
  | inl e ↦ subst (λ z. IsAtOrAbove f.slots z n) e p.leads
  | inr ne ↦ absurd (m.clear p.top (sym (marked_there f row w w2 c top r m p.top ne) ∙ p.marked))
]

-- the smallest node, marked as a run of one, gives the labels what they stand on
pub ground_root : (f : Layout) (row : List ℕ) (w w2 : Climber) (c : Chains) (top : ℕ) (r : NodeId) → Marked f row w w2 c top r → Ground f row w2 c
ground_root f row w w2 c top r m =
    let d : Descending f row w c top r.index = m.descending in
    let k : Kept f row w = d.kept in
    let h : IsLayout f = m.forest in
    let len : length w2.stages.items ≡ length w.stages.items = ap (λ (z : List Stage). length z) m.staged.stages ∙ length-set w.stages.items r.index InRun in
    record {
      once = marked_once f row w w2 c top r m;
      only = marked_only f row w w2 c top r m;
      has = λ x n s. marked_has f row w w2 c top r m n.index x n s refl;
      above = λ x n s. let a = k.climb.above x n (marked_placed f row w w2 c top r m x n s) in (a.0, marked_still f row w w2 c top r m n.index a.1);
      used = λ x s. k.climb.used x (marked_seen f row w w2 c top r m x s);
      counts = λ n p. let l = marked_leads f row w w2 c top r m n p in d.linked.counts n l ∙ ap (λ (z : List ℕ). length z) (sym (marked_below f row w w2 c top r m n l));
      leaves = λ x o. record { seen = marked_still f row w w2 c top r m x (k.climb.leaves x o); top = r.index; marked = marked_here f row w w2 c top r m; leads = d.holds x o };
      bare = λ x o. nil (below w2 x) (λ z i. let p = marked_only f row w w2 c top r m x z i in
          bare f row x z h m.is_row o (subst (λ v. 1 ≤ occurs (children_at f v) z) p.2 (k.climb.above z p.0 (marked_placed f row w w2 c top r m z p.0 p.1)).0));
      meets = λ x s. reached_meets f row w.stages.items k.climb x (k.climb.reached x (marked_seen f row w w2 c top r m x s));
      all = λ x n p o meet.
          let l = marked_leads f row w w2 c top r m x p in
          let nr : n ≢ r.index = (λ q. no_circle f.slots x n (h.grounds x) o (subst (λ v. IsAtOrAbove f.slots v x) (sym q) l)) in
          elim (climbed f row w.stages.items h k.climb n meet.0 meet.2 (k.climb.leaves meet.0 meet.1)) [
            | inl b ↦ absurd (no_circle f.slots x n (h.grounds x) o
                (join_leads f.slots n top x (subst (λ v. IsAtOrAbove f.slots n v) (d.only b.y b.open_is) b.above) (join_leads f.slots top r.index x d.leads l)))
            | inr s ↦ marked_has f row w w2 c top r m x n s.0 (marked_there f row w w2 c top r m n nr ∙ s.1) (one_parent f s.0.index x n h (k.climb.above n s.0 s.1).0 o)
          ];
      long = len ∙ k.long;
      numbers = d.linked.numbers ∙ sym len;
    }
  where
    nil : (xs : List ℕ) → ((z : ℕ) → 1 ≤ occurs xs z → ⊥) → xs ≡ []
    nil [] h = refl
    nil (x ∷ xs) h = absurd (h x (occurs_here x xs))
