-- One node gets its label.
use Rattle.std.proofs.Common.{◌≡◌, ◌≢◌, ◌⊎◌, inl, inr, ℕ, zero, suc, ◌+◌, ◌≤◌, ◌<◌, List, [], ◌∷◌, length, set, sum_by, take, refl, sym, ap, subst, ◌∙◌, arith}
use Rattle.std.proofs.lemmas.Bool.{cases_eq, cases_lt}
use Rattle.std.proofs.lemmas.List.{length-set, get_or-set_same, get_or-set_other}
use Rattle.std.proofs.lemmas.List.Sums.{sum_by-cons}
use Rattle.pq_arena.specs.declared.node.NodeId.{NodeId}
use Rattle.column_order.specs.Orders.{occurs}
use Rattle.arena_model.proofs.Slots.{few_slots}
use Rattle.arena_model.specs.Layout.{Layout, IsAtOrAbove, IsLayout}
use Rattle.column_order.proofs.Lists.{occurs-append}
use Rattle.arena_model.proofs.Lists.{occurs_here, occurs_other, occurs_same}
use Rattle.arena_model.proofs.Slots.{in_range}
use Rattle.arena_model.proofs.Lists.{few_once}
use Rattle.arena_model.proofs.Paths.{at_once, by, above_ends, one_parent}
use Rattle.bubble_pass.specs.declared.climber.Stage.TheVariants.{Unseen, InRun, Placed}
use Rattle.bubble_pass.specs.declared.climber.Climber.{Climber}
use Rattle.bubble_pass.specs.declared.chains.Chains.{Chains}
use Rattle.bubble_pass.specs.declared.labels.Label.{Label}
use Rattle.bubble_pass.specs.declared.labels.Label.TheVariants.{Empty, Partial, Full}
use Rattle.bubble_pass.specs.declared.labels.Labels.{Labels}
use Rattle.pq_arena.specs.RowNodes.{indices}
use Rattle.bubble_pass.specs.Climb.{most_nodes, no_id, stage, at, IsSeen}
use Rattle.bubble_pass.proofs.Linking.{turns_more, turn_of, exactly}
use Rattle.bubble_pass.specs.Chains.{number}
use Rattle.bubble_pass.specs.Roots.{below}
use Rattle.bubble_pass.specs.Sweep.{label, full_one, partial_one, IsRight, IsPertinent, Ground, Place, Swept, Noted, Told, Added, CanTell, CanAdd, CanSettle, SameBefore}

pub empty_or : (l : Label) → (l ≡ Empty) ⊎ (l ≢ Empty)
empty_or Empty = inl refl
empty_or Partial = inr (λ e. cc)
empty_or Full = inr (λ e. cc)

-- sums over a list as one label is written
sum_off : (g : Label → ℕ) (ls : List Label) (x : ℕ) (l : Label) (xs : List ℕ) → occurs xs x ≡ 0 → sum_by (λ z. g (label (set ls x l) z)) xs ≡ sum_by (λ z. g (label ls z)) xs
sum_off g ls x l [] o = refl
sum_off g ls x l (y ∷ ys) o =
    let ne : y ≢ x = (λ e. let k : 1 ≤ occurs (y ∷ ys) x = subst (λ z. 1 ≤ occurs (y ∷ ys) z) e (occurs_here y ys) in absurd (omega arith)) in
    let e : g (label (set ls x l) y) ≡ g (label ls y) = ap g (get_or-set_other ls x y l Empty ne) in
    let r : sum_by (λ z. g (label (set ls x l) z)) ys ≡ sum_by (λ z. g (label ls z)) ys = sum_off g ls x l ys (omega arith) in
    omega (arith, sum_by-cons (λ z. g (label (set ls x l) z)) y ys, sum_by-cons (λ z. g (label ls z)) y ys)

sum_on : (g : Label → ℕ) (ls : List Label) (x : ℕ) (l : Label) (xs : List ℕ) → x < length ls → g (label ls x) ≡ 0 → occurs xs x ≡ 1 → sum_by (λ z. g (label (set ls x l) z)) xs ≡ sum_by (λ z. g (label ls z)) xs + g l
sum_on g ls x l [] lt e o = absurd (omega arith)
sum_on g ls x l (y ∷ ys) lt e o = elim (cases_eq x y) [
  | inl q ↦
      let off : occurs ys x ≡ 0 = (let k : occurs (y ∷ ys) x ≡ 1 + occurs ys x = subst (λ z. occurs (z ∷ ys) x ≡ 1 + occurs ys x) q (occurs_same x ys) in omega arith) in
      let a : g (label (set ls x l) y) ≡ g l = ap g (ap (λ z. label (set ls x l) z) (sym q) ∙ get_or-set_same ls x l Empty lt) in
      let b : g (label ls y) ≡ 0 = subst (λ z. g (label ls z) ≡ 0) q e in
      let r : sum_by (λ z. g (label (set ls x l) z)) ys ≡ sum_by (λ z. g (label ls z)) ys = sum_off g ls x l ys off in
      omega (arith, sum_by-cons (λ z. g (label (set ls x l) z)) y ys, sum_by-cons (λ z. g (label ls z)) y ys)
  | inr ne ↦
      let a : g (label (set ls x l) y) ≡ g (label ls y) = ap g (get_or-set_other ls x y l Empty (λ q. ne (sym q))) in
      let r : sum_by (λ z. g (label (set ls x l) z)) ys ≡ sum_by (λ z. g (label ls z)) ys + g l = sum_on g ls x l ys lt e (let k : occurs (y ∷ ys) x ≡ occurs ys x = occurs_other y x ys ne in omega arith) in
      omega (arith, sum_by-cons (λ z. g (label (set ls x l) z)) y ys, sum_by-cons (λ z. g (label ls z)) y ys)
]

both_one : (l : Label) → ((l ≡ Empty) × (full_one l + partial_one l ≡ 0)) ⊎ ((l ≢ Empty) × (full_one l + partial_one l ≡ 1))
both_one Empty = inl (refl, refl)
both_one Partial = inr (λ e. cc, refl)
both_one Full = inr (λ e. cc, refl)

sum_most : (ls : List Label) (xs : List ℕ) → sum_by (λ z. full_one (label ls z)) xs + sum_by (λ z. partial_one (label ls z)) xs ≤ length xs
sum_most ls [] = omega arith
sum_most ls (y ∷ ys) =
    let r : sum_by (λ z. full_one (label ls z)) ys + sum_by (λ z. partial_one (label ls z)) ys ≤ length ys = sum_most ls ys in
    let o : full_one (label ls y) + partial_one (label ls y) ≤ 1 = (elim (both_one (label ls y)) [ inl p ↦ (let q : full_one (label ls y) + partial_one (label ls y) ≡ 0 = p.1 in omega arith) | inr p ↦ (let q : full_one (label ls y) + partial_one (label ls y) ≡ 1 = p.1 in omega arith) ]) in
    omega (arith, sum_by-cons (λ z. full_one (label ls z)) y ys, sum_by-cons (λ z. partial_one (label ls z)) y ys)

all_of_sum : (ls : List Label) (xs : List ℕ) → sum_by (λ z. full_one (label ls z)) xs + sum_by (λ z. partial_one (label ls z)) xs ≡ length xs → (z : ℕ) → 1 ≤ occurs xs z → label ls z ≢ Empty
all_of_sum ls [] e z o = absurd (omega arith)
all_of_sum ls (y ∷ ys) e z o =
    let a = sum_by-cons (λ z. full_one (label ls z)) y ys in let b = sum_by-cons (λ z. partial_one (label ls z)) y ys in
    let m : sum_by (λ z. full_one (label ls z)) ys + sum_by (λ z. partial_one (label ls z)) ys ≤ length ys = sum_most ls ys in
    elim (both_one (label ls y)) [
      | inl p ↦ absurd (let q : full_one (label ls y) + partial_one (label ls y) ≡ 0 = p.1 in omega (arith, a, b))
      | inr p ↦ let q : full_one (label ls y) + partial_one (label ls y) ≡ 1 = p.1 in
          elim (cases_eq z y) [
            | inl i ↦ λ d. p.0 (subst (λ v. label ls v ≡ Empty) i d)
            | inr ne ↦ all_of_sum ls ys (omega (arith, a, b)) z (subst (λ v. 1 ≤ v) (occurs_other y z ys ne) o)
          ]
    ]

sum_of_all : (ls : List Label) (xs : List ℕ) → ((z : ℕ) → 1 ≤ occurs xs z → label ls z ≢ Empty) → sum_by (λ z. full_one (label ls z)) xs + sum_by (λ z. partial_one (label ls z)) xs ≡ length xs
sum_of_all ls [] h = refl
sum_of_all ls (y ∷ ys) h =
    let a = sum_by-cons (λ z. full_one (label ls z)) y ys in let b = sum_by-cons (λ z. partial_one (label ls z)) y ys in
    let r : sum_by (λ z. full_one (label ls z)) ys + sum_by (λ z. partial_one (label ls z)) ys ≡ length ys = sum_of_all ls ys (λ z o. h z (omega arith)) in
    elim (both_one (label ls y)) [
      | inl p ↦ absurd (h y (occurs_here y ys) p.0)
      | inr p ↦ let q : full_one (label ls y) + partial_one (label ls y) ≡ 1 = p.1 in omega (arith, a, b)
    ]

-- the nodes so far are few
pub places_once : (q : List NodeId) (len : ℕ) → ((i j : ℕ) → i < j → j < len → at q i ≢ at q j) → len ≤ length q → (n x : ℕ) → n ≤ len → occurs (indices (take n q)) x ≤ 1
places_once q len apart long zero x l = let e : occurs (indices (take 0 q)) x ≡ 0 = refl in omega arith
places_once q len apart long (suc n) x l =
    let s : suc n ≡ n + 1 = omega arith in
    let e : occurs (indices (take (suc n) q)) x ≡ occurs (indices (take n q)) x + occurs (at q n ∷ []) x =
    ap (λ k. occurs (indices (take k q)) x) s ∙ ap (λ z. occurs z x) (turns_more q n (omega arith)) ∙ occurs-append (indices (take n q)) (at q n ∷ []) x in
    elim (cases_eq x (at q n)) [
      | inl i ↦ elim (cases_lt 0 (occurs (indices (take n q)) x)) [
        | inl o ↦ let r = turn_of q n x (omega arith) o in absurd (apart r.0 n r.1 (omega arith) (r.2 ∙ i))
        | inr o ↦ let k : occurs (at q n ∷ []) x ≡ 1 = subst (λ v. occurs (at q n ∷ []) v ≡ 1) (sym i) (omega (arith, occurs_same (at q n) [])) in omega arith
      ]
      | inr ne ↦ let z : occurs (at q n ∷ []) x ≡ 0 = occurs_other (at q n) x [] ne in
          let r : occurs (indices (take n q)) x ≤ 1 = places_once q len apart long n x (omega arith) in omega arith
    ]

pertinent_in : (f : Layout) (row : List ℕ) (w : Climber) (c : Chains) (n : ℕ) → Ground f row w c → IsPertinent f w n → n < length f.slots
pertinent_in f row w c n g p = in_range f n (g.used n p.seen)

room_for : (f : Layout) (row : List ℕ) (w : Climber) (c : Chains) (ls : Labels) (done m : ℕ) → Ground f row w c → Swept f row w ls done → ls.len ≤ length ls.nodes.items → IsPertinent f w m →
    ((i : ℕ) → i < ls.len → at ls.nodes.items i ≢ m) → ls.len < length ls.nodes.items
room_for f row w c ls done m g s long p new =
    let xs : List ℕ = indices (take ls.len ls.nodes.items) in
    let off : occurs xs m ≡ 0 = (elim (cases_lt 0 (occurs xs m)) [
      | inl o ↦ let r = turn_of ls.nodes.items ls.len m long o in absurd (new r.0 r.1 r.2)
      | inr o ↦ omega arith
    ]) in
    let few : length (m ∷ xs) ≤ length f.slots = few_once (m ∷ xs) (length f.slots)
    (λ x. elim (cases_eq x m) [
      | inl e ↦ subst (λ v. occurs (m ∷ xs) v ≤ 1) (sym e) (omega (arith, occurs_same m xs))
      | inr ne ↦ subst (λ v. v ≤ 1) (sym (occurs_other m x xs ne)) (places_once ls.nodes.items ls.len s.apart long ls.len x (omega arith))
    ])
    (λ x o. elim (cases_eq x m) [
      | inl e ↦ subst (λ v. v < length f.slots) (sym e) (pertinent_in f row w c m g p)
      | inr ne ↦ let r = turn_of ls.nodes.items ls.len x long (subst (λ v. 1 ≤ v) (occurs_other m x xs ne) o) in
          subst (λ v. v < length f.slots) r.2 (pertinent_in f row w c (at ls.nodes.items r.0) g (s.pertinent r.0 r.1))
    ]) in
    let e : length xs ≡ ls.len = exactly ls.nodes.items ls.len long in
    let n : length ls.nodes.items ≡ length f.slots = s.sizes.3 in
    omega arith

-- the node above a placed one is pertinent
pert_up : (f : Layout) (row : List ℕ) (w : Climber) (c : Chains) (x : ℕ) (m : NodeId) → IsLayout f → Ground f row w c → IsPertinent f w x → stage w.stages.items x ≡ Placed m → IsPertinent f w m.index
pert_up f row w c x m h g p s =
    let a = g.above x m s in
    elim (above_ends f.slots p.top x p.leads) [
      | at_once e ↦ absurd (let z = sym (subst (λ v. stage w.stages.items v ≡ InRun) e p.marked) ∙ s in cc)
      | by k lk ok ↦ record { seen = a.1; top = p.top; marked = p.marked; leads = subst (λ v. IsAtOrAbove f.slots p.top v) (one_parent f k m.index x h ok a.0) lk }
    ]

-- what holds once x has its label
pub record Noting (f : Layout) (row : List ℕ) (w : Climber) (c : Chains) (a b : Labels) (x : NodeId) (done : ℕ) (l : Label) : Type 0 where
  pub can : CanSettle f row w c a x done l
  pub noted : Noted a b x l
  pub forest : IsLayout f

x_empty : (f : Layout) (row : List ℕ) (w : Climber) (c : Chains) (a b : Labels) (x : NodeId) (done : ℕ) (l : Label) → Noting f row w c a b x done l → label a.labels.items x.index ≡ Empty
x_empty f row w c a b x done l n = elim (empty_or (label a.labels.items x.index)) [
  | inl e ↦ e
  | inr ne ↦ let p : Place a done x.index = n.can.swept.only x.index ne in absurd (n.can.swept.apart p.i done p.lt n.can.some (p.is ∙ n.can.is))
]

x_pert : (f : Layout) (row : List ℕ) (w : Climber) (c : Chains) (a b : Labels) (x : NodeId) (done : ℕ) (l : Label) → Noting f row w c a b x done l → IsPertinent f w x.index
x_pert f row w c a b x done l n = subst (λ v. IsPertinent f w v) (sym n.can.is) (n.can.swept.pertinent done n.can.some)

x_in : (f : Layout) (row : List ℕ) (w : Climber) (c : Chains) (a b : Labels) (x : NodeId) (done : ℕ) (l : Label) → Noting f row w c a b x done l → x.index < length a.labels.items
x_in f row w c a b x done l n = let k : x.index < length f.slots = pertinent_in f row w c x.index n.can.ground (x_pert f row w c a b x done l n) in
    let e : length a.labels.items ≡ length f.slots = n.can.swept.sizes.0 in omega arith

-- the sweep goes on, where the chains and the pushed nodes are right
pub swept_more : (f : Layout) (row : List ℕ) (w : Climber) (c : Chains) (a b e : Labels) (x : NodeId) (done : ℕ) (l : Label) → Noting f row w c a b x done l →
    e.labels.items ≡ set a.labels.items x.index l → a.len ≤ e.len → e.len ≤ length e.nodes.items → ((i : ℕ) → i < a.len → at e.nodes.items i ≡ at a.nodes.items i) →
    ((i j : ℕ) → i < j → j < e.len → at e.nodes.items i ≢ at e.nodes.items j) →
    ((i : ℕ) → a.len ≤ i → i < e.len → IsPertinent f w (at e.nodes.items i)) →
    ((i z : ℕ) → a.len ≤ i → i < e.len → 1 ≤ occurs (below w (at e.nodes.items i)) z → label e.labels.items z ≢ Empty) →
    ((m : ℕ) → IsPertinent f w m → number e.full.items m ≡ sum_by (λ z. full_one (label e.labels.items z)) (below w m)) →
    ((m : ℕ) → IsPertinent f w m → number e.partial.items m ≡ sum_by (λ z. partial_one (label e.labels.items z)) (below w m)) →
    ((m : ℕ) → IsPertinent f w m → 1 ≤ length (below w m) → ((z : ℕ) → 1 ≤ occurs (below w m) z → label e.labels.items z ≢ Empty) → Place e e.len m) →
    (length e.full.items ≡ length f.slots) × (length e.partial.items ≡ length f.slots) × (length e.nodes.items ≡ length f.slots) → Swept f row w e (done + 1)
swept_more f row w c a b e x done l n el len fits same apart pert after fulls partials pushed sizes =
    let s : Swept f row w a done = n.can.swept in
    let some : done < a.len = n.can.some in
    let x0 : label a.labels.items x.index ≡ Empty = x_empty f row w c a b x done l n in
    let lx : x.index < length a.labels.items = x_in f row w c a b x done l n in
    let here_is : label e.labels.items x.index ≡ l = ap (λ v. label v x.index) el ∙ get_or-set_same a.labels.items x.index l Empty lx in
    let there : (y : ℕ) → y ≢ x.index → label e.labels.items y ≡ label a.labels.items y = (λ y ne. ap (λ v. label v y) el ∙ get_or-set_other a.labels.items x.index y l Empty ne) in
    let still : (y : ℕ) → label a.labels.items y ≢ Empty → label e.labels.items y ≢ Empty =
    (λ y ne d. ne (sym (there y (λ q. ne (ap (λ v. label a.labels.items v) q ∙ x0))) ∙ d)) in
    let only : (y : ℕ) → label e.labels.items y ≢ Empty → Place e (done + 1) y = (λ y ne. elim (cases_eq y x.index) [
      | inl q ↦ record { i = done; lt = omega arith; is = same done some ∙ sym n.can.is ∙ sym q }
      | inr d ↦ let p : Place a done y = s.only y (λ k. ne (there y d ∙ k)) in let lt : p.i < done = p.lt in
          record { i = p.i; lt = omega arith; is = same p.i (omega arith) ∙ p.is }
    ]) in
    record {
      order = omega arith;
      fits = fits;
      apart = apart;
      pertinent = λ i li. elim (cases_lt i a.len) [
        | inl k ↦ subst (λ v. IsPertinent f w v) (sym (same i k)) (s.pertinent i k)
        | inr k ↦ pert i k li
      ];
      labelled = λ i li. elim (cases_lt i done) [
        | inl k ↦ subst (λ v. label e.labels.items v ≢ Empty) (sym (same i (omega arith))) (still (at a.nodes.items i) (s.labelled i k))
        | inr k ↦ let q : i ≡ done = omega arith in
            subst (λ v. label e.labels.items v ≢ Empty) (sym (ap (λ v. at e.nodes.items v) q ∙ same done some ∙ sym n.can.is)) (λ d. n.can.labelled (sym here_is ∙ d))
      ];
      only = only;
      after = λ i z li o. elim (cases_lt i a.len) [
        | inl k ↦ still z (s.after i z k (subst (λ v. 1 ≤ occurs (below w v) z) (same i k) o))
        | inr k ↦ after i z k li o
      ];
      right = λ y ne. elim (cases_eq y x.index) [
        | inl q ↦ subst (λ v. IsRight f row v (label e.labels.items v)) (sym q) (subst (λ v. IsRight f row x.index v) (sym here_is) n.can.right)
        | inr d ↦ subst (λ v. IsRight f row y v) (sym (there y d)) (s.right y (λ k. ne (there y d ∙ k)))
      ];
      before = λ i z li o. elim (cases_lt i a.len) [
        | inl k ↦ let p : Place a i z = s.before i z k (subst (λ v. 1 ≤ occurs (below w v) z) (same i k) o) in let lt : p.i < i = p.lt in
            record { i = p.i; lt = lt; is = same p.i (omega arith) ∙ p.is }
        | inr k ↦ let p : Place e (done + 1) z = only z (after i z k li o) in let lt : p.i < done + 1 = p.lt in record { i = p.i; lt = omega arith; is = p.is }
      ];
      fulls = fulls;
      partials = partials;
      leaves = λ y o. let p : Place a a.len y = s.leaves y o in let lt : p.i < a.len = p.lt in record { i = p.i; lt = omega arith; is = same p.i p.lt ∙ p.is };
      pushed = pushed;
      sizes = (ap (λ (v : List Label). length v) el ∙ length-set a.labels.items x.index l ∙ s.sizes.0, sizes.0, sizes.1, sizes.2);
    }

-- x is no placed node
pub settled_top : (f : Layout) (row : List ℕ) (w : Climber) (c : Chains) (a b : Labels) (x : NodeId) (done : ℕ) (l : Label) → Noting f row w c a b x done l →
    ((m : NodeId) → stage w.stages.items x.index ≢ Placed m) → Swept f row w b (done + 1)
settled_top f row w c a b x done l n np =
    let s : Swept f row w a done = n.can.swept in
    let off : (m : ℕ) → occurs (below w m) x.index ≡ 0 = (λ m. elim (cases_lt 0 (occurs (below w m) x.index)) [
      | inl o ↦ let p = n.can.ground.only m x.index o in absurd (np p.0 p.1)
      | inr o ↦ omega arith
    ]) in
    let there : (y : ℕ) → y ≢ x.index → label b.labels.items y ≡ label a.labels.items y = (λ y ne. ap (λ v. label v y) n.noted.labels ∙ get_or-set_other a.labels.items x.index y l Empty ne) in
    swept_more f row w c a b b x done l n n.noted.labels (let e : b.len ≡ a.len = n.noted.len in omega arith) (subst (λ v. b.len ≤ length v) (sym n.noted.nodes) (let e : b.len ≡ a.len = n.noted.len in let k : a.len ≤ length a.nodes.items = s.fits in omega arith)) (λ i k. ap (λ v. at v i) n.noted.nodes)
    (λ i j p q. subst (λ v. at v i ≢ at v j) (sym n.noted.nodes) (s.apart i j p (let e : b.len ≡ a.len = n.noted.len in omega arith)))
    (λ i p q. let e : b.len ≡ a.len = n.noted.len in absurd (omega arith))
    (λ i z p q o. let e : b.len ≡ a.len = n.noted.len in absurd (omega arith))
    (λ m p. ap (λ v. number v m) n.noted.full ∙ s.fulls m p ∙ sym (sum_off full_one a.labels.items x.index l (below w m) (off m)) ∙ ap (λ v. sum_by (λ z. full_one (label v z)) (below w m)) (sym n.noted.labels))
    (λ m p. ap (λ v. number v m) n.noted.partial ∙ s.partials m p ∙ sym (sum_off partial_one a.labels.items x.index l (below w m) (off m)) ∙ ap (λ v. sum_by (λ z. partial_one (label v z)) (below w m)) (sym n.noted.labels))
    (λ m p some all. let r : Place a a.len m = s.pushed m p some
    (λ z o k. all z o (there z (λ q. let y : 1 ≤ occurs (below w m) x.index = subst (λ v. 1 ≤ occurs (below w m) v) q o in let e : occurs (below w m) x.index ≡ 0 = off m in absurd (omega arith)) ∙ k)) in
    let lt : r.i < a.len = r.lt in record { i = r.i; lt = (let e : b.len ≡ a.len = n.noted.len in omega arith); is = ap (λ v. at v r.i) n.noted.nodes ∙ r.is })
    (ap (λ (v : List ℕ). length v) n.noted.full ∙ s.sizes.1, ap (λ (v : List ℕ). length v) n.noted.partial ∙ s.sizes.2, ap (λ (v : List NodeId). length v) n.noted.nodes ∙ s.sizes.3)

-- x is placed under m, which was told
pub record Telling (f : Layout) (row : List ℕ) (w : Climber) (c : Chains) (a b t : Labels) (x m : NodeId) (done : ℕ) (l : Label) : Type 0 where
  pub noting : Noting f row w c a b x done l
  pub placed : stage w.stages.items x.index ≡ Placed m
  pub told : Told b t m l

m_pert : (f : Layout) (row : List ℕ) (w : Climber) (c : Chains) (a b t : Labels) (x m : NodeId) (done : ℕ) (l : Label) → Telling f row w c a b t x m done l → IsPertinent f w m.index
m_pert f row w c a b t x m done l n = pert_up f row w c x.index m n.noting.forest n.noting.can.ground (x_pert f row w c a b x done l n.noting) n.placed

in_below : (f : Layout) (row : List ℕ) (w : Climber) (c : Chains) (x : ℕ) (m : NodeId) → Ground f row w c → stage w.stages.items x ≡ Placed m → occurs (below w m.index) x ≡ 1
in_below f row w c x m g s = let a : 1 ≤ occurs (below w m.index) x = g.has x m s in let b : occurs (below w m.index) x ≤ 1 = g.once m.index x in omega arith

off_below : (f : Layout) (row : List ℕ) (w : Climber) (c : Chains) (x n : ℕ) (m : NodeId) → Ground f row w c → stage w.stages.items x ≡ Placed m → n ≢ m.index → occurs (below w n) x ≡ 0
off_below f row w c x n m g s ne = elim (cases_lt 0 (occurs (below w n) x)) [
  | inl o ↦ let p = g.only n x o in absurd (ne (sym p.2 ∙ ap (λ (z : NodeId). z.index) (same (sym p.1 ∙ s))))
  | inr o ↦ omega arith
]
  where
    same : {k : NodeId} → Placed k ≡ Placed m → k ≡ m
    same e = cc

m_in : (f : Layout) (row : List ℕ) (w : Climber) (c : Chains) (a b t : Labels) (x m : NodeId) (done : ℕ) (l : Label) → Telling f row w c a b t x m done l → m.index < length f.slots
m_in f row w c a b t x m done l n = pertinent_in f row w c m.index n.noting.can.ground (m_pert f row w c a b t x m done l n)

told_sum : (f : Layout) (row : List ℕ) (w : Climber) (c : Chains) (a b t : Labels) (x m : NodeId) (done : ℕ) (l : Label) (g : Label → ℕ) (old new : List ℕ) → Telling f row w c a b t x m done l →
    g Empty ≡ 0 → ((n : ℕ) → IsPertinent f w n → number old n ≡ sum_by (λ z. g (label a.labels.items z)) (below w n)) → new ≡ set old m.index (number old m.index + g l) → length old ≡ length f.slots →
    (n : ℕ) → IsPertinent f w n → number new n ≡ sum_by (λ z. g (label t.labels.items z)) (below w n)
told_sum f row w c a b t x m done l g old new n g0 sums e size = λ k p.
    let lm : m.index < length old = subst (λ v. m.index < v) (sym size) (m_in f row w c a b t x m done l n) in
    let el : t.labels.items ≡ set a.labels.items x.index l = n.told.labels ∙ n.noting.noted.labels in
    let x0 : g (label a.labels.items x.index) ≡ 0 = ap g (x_empty f row w c a b x done l n.noting) ∙ g0 in
    elim (cases_eq k m.index) [
      | inl q ↦ subst (λ v. number new v ≡ sum_by (λ z. g (label t.labels.items z)) (below w v)) (sym q)
          (ap (λ v. number v m.index) e ∙ get_or-set_same old m.index (number old m.index + g l) 0 lm
          ∙ ap (λ v. v + g l) (sums m.index (m_pert f row w c a b t x m done l n))
          ∙ sym (sum_on g a.labels.items x.index l (below w m.index) (x_in f row w c a b x done l n.noting) x0 (in_below f row w c x.index m n.noting.can.ground n.placed))
          ∙ ap (λ v. sum_by (λ z. g (label v z)) (below w m.index)) (sym el))
      | inr ne ↦ ap (λ v. number v k) e ∙ get_or-set_other old m.index k (number old m.index + g l) 0 ne ∙ sums k p
          ∙ sym (sum_off g a.labels.items x.index l (below w k) (off_below f row w c x.index k m n.noting.can.ground n.placed ne))
          ∙ ap (λ v. sum_by (λ z. g (label v z)) (below w k)) (sym el)
    ]

told_fulls : (f : Layout) (row : List ℕ) (w : Climber) (c : Chains) (a b t : Labels) (x m : NodeId) (done : ℕ) (l : Label) → Telling f row w c a b t x m done l →
    (n : ℕ) → IsPertinent f w n → number t.full.items n ≡ sum_by (λ z. full_one (label t.labels.items z)) (below w n)
told_fulls f row w c a b t x m done l n =
    told_sum f row w c a b t x m done l full_one a.full.items t.full.items n refl n.noting.can.swept.fulls
    (n.told.full ∙ ap (λ v. set v m.index (number v m.index + full_one l)) n.noting.noted.full) n.noting.can.swept.sizes.1

told_partials : (f : Layout) (row : List ℕ) (w : Climber) (c : Chains) (a b t : Labels) (x m : NodeId) (done : ℕ) (l : Label) → Telling f row w c a b t x m done l →
    (n : ℕ) → IsPertinent f w n → number t.partial.items n ≡ sum_by (λ z. partial_one (label t.labels.items z)) (below w n)
told_partials f row w c a b t x m done l n =
    told_sum f row w c a b t x m done l partial_one a.partial.items t.partial.items n refl n.noting.can.swept.partials
    (n.told.partial ∙ ap (λ v. set v m.index (number v m.index + partial_one l)) n.noting.noted.partial) n.noting.can.swept.sizes.2

-- other nodes than m that are to be pushed were pushed before
pushed_before : (f : Layout) (row : List ℕ) (w : Climber) (c : Chains) (a b t : Labels) (x m : NodeId) (done : ℕ) (l : Label) → Telling f row w c a b t x m done l →
    (n : ℕ) → n ≢ m.index → IsPertinent f w n → 1 ≤ length (below w n) → ((z : ℕ) → 1 ≤ occurs (below w n) z → label t.labels.items z ≢ Empty) → Place a a.len n
pushed_before f row w c a b t x m done l n k ne p some all =
    let el : t.labels.items ≡ set a.labels.items x.index l = n.told.labels ∙ n.noting.noted.labels in
    n.noting.can.swept.pushed k p some
    (λ z o d. all z o (ap (λ v. label v z) el ∙ get_or-set_other a.labels.items x.index z l Empty
    (λ q. let y : 1 ≤ occurs (below w k) x.index = subst (λ v. 1 ≤ occurs (below w k) v) q o in
    let e : occurs (below w k) x.index ≡ 0 = off_below f row w c x.index k m n.noting.can.ground n.placed ne in absurd (omega arith)) ∙ d))

pub settled_wait : (f : Layout) (row : List ℕ) (w : Climber) (c : Chains) (a b t : Labels) (x m : NodeId) (done : ℕ) (l : Label) → Telling f row w c a b t x m done l →
    number t.full.items m.index + number t.partial.items m.index ≢ number c.count.items m.index → Swept f row w t (done + 1)
settled_wait f row w c a b t x m done l n differs =
    let s : Swept f row w a done = n.noting.can.swept in
    let el : t.labels.items ≡ set a.labels.items x.index l = n.told.labels ∙ n.noting.noted.labels in
    let en : t.nodes.items ≡ a.nodes.items = n.told.nodes ∙ n.noting.noted.nodes in
    let ll : t.len ≡ a.len = n.told.len ∙ n.noting.noted.len in
    swept_more f row w c a b t x done l n.noting el (omega arith) (subst (λ v. t.len ≤ length v) (sym en) (let k : a.len ≤ length a.nodes.items = s.fits in omega arith)) (λ i k. ap (λ v. at v i) en)
    (λ i j p q. subst (λ v. at v i ≢ at v j) (sym en) (s.apart i j p (omega arith)))
    (λ i p q. absurd (omega arith)) (λ i z p q o. absurd (omega arith))
    (told_fulls f row w c a b t x m done l n) (told_partials f row w c a b t x m done l n)
    (λ k p some all. elim (cases_eq k m.index) [
      | inl q ↦ absurd (let pm : IsPertinent f w m.index = m_pert f row w c a b t x m done l n in
          let sum_is = sum_of_all t.labels.items (below w m.index) (λ z o. all z (subst (λ v. 1 ≤ occurs (below w v) z) (sym q) o)) in
          let cnt : number c.count.items m.index ≡ length (below w m.index) = n.noting.can.ground.counts m.index pm in
          differs (let f1 : number t.full.items m.index ≡ sum_by (λ z. full_one (label t.labels.items z)) (below w m.index) = told_fulls f row w c a b t x m done l n m.index pm in
          let f2 : number t.partial.items m.index ≡ sum_by (λ z. partial_one (label t.labels.items z)) (below w m.index) = told_partials f row w c a b t x m done l n m.index pm in
          omega arith))
      | inr ne ↦ let r : Place a a.len k = pushed_before f row w c a b t x m done l n k ne p some all in let lt : r.i < a.len = r.lt in
          record { i = r.i; lt = omega arith; is = ap (λ v. at v r.i) en ∙ r.is }
    ]) (
      ap (λ (v : List ℕ). length v) n.told.full ∙ length-set b.full.items m.index _ ∙ ap (λ (v : List ℕ). length v) n.noting.noted.full ∙ s.sizes.1,
      ap (λ (v : List ℕ). length v) n.told.partial ∙ length-set b.partial.items m.index _ ∙ ap (λ (v : List ℕ). length v) n.noting.noted.partial ∙ s.sizes.2,
      ap (λ (v : List NodeId). length v) en ∙ s.sizes.3,
    )

-- m was not pushed before
m_new : (f : Layout) (row : List ℕ) (w : Climber) (c : Chains) (a b t : Labels) (x m : NodeId) (done : ℕ) (l : Label) → Telling f row w c a b t x m done l →
    (i : ℕ) → i < a.len → at a.nodes.items i ≢ m.index
m_new f row w c a b t x m done l n i li e =
    let o : occurs (below w m.index) x.index ≡ 1 = in_below f row w c x.index m n.noting.can.ground n.placed in
    n.noting.can.swept.after i x.index li (subst (λ v. 1 ≤ occurs (below w v) x.index) (sym e) (omega arith)) (x_empty f row w c a b x done l n.noting)

pub settled_add : (f : Layout) (row : List ℕ) (w : Climber) (c : Chains) (a b t d : Labels) (x m : NodeId) (done : ℕ) (l : Label) → Telling f row w c a b t x m done l →
    number t.full.items m.index + number t.partial.items m.index ≡ number c.count.items m.index → Added t d m → Swept f row w d (done + 1)
settled_add f row w c a b t d x m done l n equal add =
    let s : Swept f row w a done = n.noting.can.swept in
    let el : d.labels.items ≡ set a.labels.items x.index l = add.labels ∙ n.told.labels ∙ n.noting.noted.labels in
    let en : t.nodes.items ≡ a.nodes.items = n.told.nodes ∙ n.noting.noted.nodes in
    let ll : t.len ≡ a.len = n.told.len ∙ n.noting.noted.len in
    let dl : d.len ≡ a.len + 1 = add.len ∙ ap (λ v. v + 1) ll in
    let pm : IsPertinent f w m.index = m_pert f row w c a b t x m done l n in
    let room : a.len < length a.nodes.items = room_for f row w c a done m.index n.noting.can.ground s s.fits pm (m_new f row w c a b t x m done l n) in
    let ed : d.nodes.items ≡ set a.nodes.items a.len m = add.nodes ∙ ap (λ v. set v t.len m) en ∙ ap (λ v. set a.nodes.items v m) ll in
    let old : (i : ℕ) → i < a.len → at d.nodes.items i ≡ at a.nodes.items i = (λ i k. ap (λ v. at v i) ed ∙ ap (λ (v : NodeId). v.index) (get_or-set_other a.nodes.items a.len i m no_id (omega arith))) in
    let new : at d.nodes.items a.len ≡ m.index = ap (λ v. at v a.len) ed ∙ ap (λ (v : NodeId). v.index) (get_or-set_same a.nodes.items a.len m no_id room) in
    let last : (i : ℕ) → a.len ≤ i → i < d.len → i ≡ a.len = (λ i p q. omega arith) in
    let cnt : number c.count.items m.index ≡ length (below w m.index) = n.noting.can.ground.counts m.index pm in
    let f1 : number t.full.items m.index ≡ sum_by (λ z. full_one (label t.labels.items z)) (below w m.index) = told_fulls f row w c a b t x m done l n m.index pm in
    let f2 : number t.partial.items m.index ≡ sum_by (λ z. partial_one (label t.labels.items z)) (below w m.index) = told_partials f row w c a b t x m done l n m.index pm in
    let all_m : (z : ℕ) → 1 ≤ occurs (below w m.index) z → label d.labels.items z ≢ Empty =
    (λ z o. subst (λ v. label v z ≢ Empty) (sym add.labels) (all_of_sum t.labels.items (below w m.index) (omega arith) z o)) in
    swept_more f row w c a b d x done l n.noting el (omega arith) (subst (λ v. d.len ≤ length v) (sym ed) (omega (arith, length-set a.nodes.items a.len m))) old
    (λ i j p q. elim (cases_lt j a.len) [
      | inl k ↦ λ e. s.apart i j p k (sym (old i (omega arith)) ∙ e ∙ old j k)
      | inr k ↦ λ e. let jl : j ≡ a.len = last j k q in
          m_new f row w c a b t x m done l n i (omega arith) (sym (old i (omega arith)) ∙ e ∙ ap (λ v. at d.nodes.items v) jl ∙ new)
    ])
    (λ i p q. subst (λ v. IsPertinent f w v) (sym (ap (λ v. at d.nodes.items v) (last i p q) ∙ new)) pm)
    (λ i z p q o. all_m z (subst (λ v. 1 ≤ occurs (below w v) z) (ap (λ v. at d.nodes.items v) (last i p q) ∙ new) o))
    (λ k p. ap (λ v. number v k) add.full ∙ told_fulls f row w c a b t x m done l n k p ∙ ap (λ v. sum_by (λ z. full_one (label v z)) (below w k)) (sym add.labels))
    (λ k p. ap (λ v. number v k) add.partial ∙ told_partials f row w c a b t x m done l n k p ∙ ap (λ v. sum_by (λ z. partial_one (label v z)) (below w k)) (sym add.labels))
    (λ k p some all. elim (cases_eq k m.index) [
      | inl q ↦ record { i = a.len; lt = omega arith; is = new ∙ sym q }
      | inr ne ↦ let r : Place a a.len k = pushed_before f row w c a b t x m done l n k ne p some (λ z o. subst (λ v. label v z ≢ Empty) add.labels (all z o)) in let lt : r.i < a.len = r.lt in
          record { i = r.i; lt = omega arith; is = old r.i lt ∙ r.is }
    ]) (
      ap (λ (v : List ℕ). length v) (add.full ∙ n.told.full) ∙ length-set b.full.items m.index _ ∙ ap (λ (v : List ℕ). length v) n.noting.noted.full ∙ s.sizes.1,
      ap (λ (v : List ℕ). length v) (add.partial ∙ n.told.partial) ∙ length-set b.partial.items m.index _ ∙ ap (λ (v : List ℕ). length v) n.noting.noted.partial ∙ s.sizes.2,
      ap (λ (v : List NodeId). length v) ed ∙ length-set a.nodes.items a.len m ∙ s.sizes.3,
    )

-- the nodes before and their counts stay
pub same_top : (f : Layout) (row : List ℕ) (w : Climber) (c : Chains) (a b : Labels) (x : NodeId) (done : ℕ) (l : Label) → Noting f row w c a b x done l → SameBefore w a b (done + 1)
same_top f row w c a b x done l n = record { nodes = λ i li. ap (λ v. at v i) n.noted.nodes; fulls = λ i li. ap (λ v. number v (at a.nodes.items i)) n.noted.full; rest = λ y u. (ap (λ v. number v y) n.noted.full, ap (λ v. number v y) n.noted.partial) }

pub same_wait : (f : Layout) (row : List ℕ) (w : Climber) (c : Chains) (a b t : Labels) (x m : NodeId) (done : ℕ) (l : Label) → Telling f row w c a b t x m done l → SameBefore w a t (done + 1)
same_wait f row w c a b t x m done l n = record {
  nodes = λ i li. ap (λ v. at v i) (n.told.nodes ∙ n.noting.noted.nodes);
  fulls = λ i li. ap (λ v. number v (at a.nodes.items i)) n.told.full
      ∙ get_or-set_other b.full.items m.index (at a.nodes.items i) (number b.full.items m.index + full_one l) 0
      (m_new f row w c a b t x m done l n i (let some : done < a.len = n.noting.can.some in omega arith)) ∙ ap (λ v. number v (at a.nodes.items i)) n.noting.noted.full;
  rest = λ y u.
      let seen : IsSeen (stage w.stages.items m.index) = (n.noting.can.ground.above x.index m n.placed).1 in
      let ne : y ≢ m.index = (λ q. subst (λ z. IsSeen z) (subst (λ v. stage w.stages.items v ≡ Unseen) q u) seen) in (
        ap (λ v. number v y) n.told.full ∙ get_or-set_other b.full.items m.index y (number b.full.items m.index + full_one l) 0 ne ∙ ap (λ v. number v y) n.noting.noted.full,
        ap (λ v. number v y) n.told.partial ∙ get_or-set_other b.partial.items m.index y (number b.partial.items m.index + partial_one l) 0 ne ∙ ap (λ v. number v y) n.noting.noted.partial,
      );
}

pub same_add : (f : Layout) (row : List ℕ) (w : Climber) (c : Chains) (a b t d : Labels) (x m : NodeId) (done : ℕ) (l : Label) → Telling f row w c a b t x m done l → Added t d m → SameBefore w a d (done + 1)
same_add f row w c a b t d x m done l n add =
    let r : SameBefore w a t (done + 1) = same_wait f row w c a b t x m done l n in
    let tl : t.len ≡ a.len = n.told.len ∙ n.noting.noted.len in
    let some : done < a.len = n.noting.can.some in
    record {
      nodes = λ i li. ap (λ v. at v i) add.nodes ∙ ap (λ (v : NodeId). v.index) (get_or-set_other t.nodes.items t.len i m no_id (omega arith)) ∙ r.nodes i li;
      fulls = λ i li. ap (λ v. number v (at a.nodes.items i)) add.full ∙ r.fulls i li;
      rest = λ y u. let q = r.rest y u in (ap (λ v. number v y) add.full ∙ q.0, ap (λ v. number v y) add.partial ∙ q.1);
    }

-- what the calls need
pub can_tell : (f : Layout) (row : List ℕ) (w : Climber) (c : Chains) (ls : Labels) (done : ℕ) (m : ℕ) → Ground f row w c → IsLayout f →
    ((n : ℕ) → IsPertinent f w n → number ls.full.items n ≤ length (below w n)) → ((n : ℕ) → IsPertinent f w n → number ls.partial.items n ≤ length (below w n)) →
    length ls.full.items ≡ length f.slots → length ls.partial.items ≡ length f.slots → IsPertinent f w m → CanTell ls m
can_tell f row w c ls done m g h fs ps lf lp p =
    let short : length (below w m) ≤ length f.slots = few_once (below w m) (length f.slots) (λ x. g.once m x)
    (λ x o. let q = g.only m x o in in_range f x (g.used x (subst (λ s. IsSeen s) (sym q.1) tt))) in
    let few : length f.slots ≤ most_nodes = few_slots f h in
    let k : m < length f.slots = pertinent_in f row w c m g p in
    let a1 : number ls.full.items m ≤ length (below w m) = fs m p in
    let a2 : number ls.partial.items m ≤ length (below w m) = ps m p in
    record { full_in = omega arith; partial_in = omega arith; few_full = omega arith; few_partial = omega arith }

-- the sums are no longer than the chain
sum_full_le : (ls : List Label) (xs : List ℕ) → sum_by (λ z. full_one (label ls z)) xs ≤ length xs
sum_full_le ls xs = omega (arith, sum_most ls xs)

sum_partial_le : (ls : List Label) (xs : List ℕ) → sum_by (λ z. partial_one (label ls z)) xs ≤ length xs
sum_partial_le ls xs = omega (arith, sum_most ls xs)

pub tell_first : (f : Layout) (row : List ℕ) (w : Climber) (c : Chains) (a b : Labels) (x m : NodeId) (done : ℕ) (l : Label) → Noting f row w c a b x done l → stage w.stages.items x.index ≡ Placed m → CanTell b m.index
tell_first f row w c a b x m done l n s =
    let sw : Swept f row w a done = n.can.swept in
    can_tell f row w c b done m.index n.can.ground n.forest
    (λ k p. let e : number b.full.items k ≡ sum_by (λ z. full_one (label a.labels.items z)) (below w k) = ap (λ v. number v k) n.noted.full ∙ sw.fulls k p in omega (arith, sum_full_le a.labels.items (below w k)))
    (λ k p. let e : number b.partial.items k ≡ sum_by (λ z. partial_one (label a.labels.items z)) (below w k) = ap (λ v. number v k) n.noted.partial ∙ sw.partials k p in omega (arith, sum_partial_le a.labels.items (below w k)))
    (ap (λ (v : List ℕ). length v) n.noted.full ∙ sw.sizes.1) (ap (λ (v : List ℕ). length v) n.noted.partial ∙ sw.sizes.2)
    (pert_up f row w c x.index m n.forest n.can.ground (x_pert f row w c a b x done l n) s)

pub tell_again : (f : Layout) (row : List ℕ) (w : Climber) (c : Chains) (a b t : Labels) (x m : NodeId) (done : ℕ) (l : Label) → Telling f row w c a b t x m done l → CanTell t m.index
tell_again f row w c a b t x m done l n =
    let sw : Swept f row w a done = n.noting.can.swept in
    can_tell f row w c t done m.index n.noting.can.ground n.noting.forest
    (λ k p. let e : number t.full.items k ≡ sum_by (λ z. full_one (label t.labels.items z)) (below w k) = told_fulls f row w c a b t x m done l n k p in omega (arith, sum_full_le t.labels.items (below w k)))
    (λ k p. let e : number t.partial.items k ≡ sum_by (λ z. partial_one (label t.labels.items z)) (below w k) = told_partials f row w c a b t x m done l n k p in omega (arith, sum_partial_le t.labels.items (below w k)))
    (ap (λ (v : List ℕ). length v) n.told.full ∙ length-set b.full.items m.index _ ∙ ap (λ (v : List ℕ). length v) n.noting.noted.full ∙ sw.sizes.1)
    (ap (λ (v : List ℕ). length v) n.told.partial ∙ length-set b.partial.items m.index _ ∙ ap (λ (v : List ℕ). length v) n.noting.noted.partial ∙ sw.sizes.2)
    (m_pert f row w c a b t x m done l n)

pub can_count : (f : Layout) (row : List ℕ) (w : Climber) (c : Chains) (a b t : Labels) (x m : NodeId) (done : ℕ) (l : Label) → Telling f row w c a b t x m done l → m.index < length c.count.items
can_count f row w c a b t x m done l n = let k : m.index < length f.slots = m_in f row w c a b t x m done l n in
    let e : length c.count.items ≡ length w.stages.items = n.noting.can.ground.numbers in let d : length w.stages.items ≡ length f.slots = n.noting.can.ground.long in omega arith

pub can_add : (f : Layout) (row : List ℕ) (w : Climber) (c : Chains) (a b t : Labels) (x m : NodeId) (done : ℕ) (l : Label) → Telling f row w c a b t x m done l → CanAdd t
can_add f row w c a b t x m done l n =
    let s : Swept f row w a done = n.noting.can.swept in
    let en : t.nodes.items ≡ a.nodes.items = n.told.nodes ∙ n.noting.noted.nodes in
    let ll : t.len ≡ a.len = n.told.len ∙ n.noting.noted.len in
    let room : a.len < length a.nodes.items = room_for f row w c a done m.index n.noting.can.ground s s.fits (m_pert f row w c a b t x m done l n) (m_new f row w c a b t x m done l n) in
    let few : length f.slots ≤ most_nodes = few_slots f n.noting.forest in
    let size : length a.nodes.items ≡ length f.slots = s.sizes.3 in
    record { room = subst (λ v. t.len < length v) (sym en) (omega arith); few = subst (λ v. length v ≤ most_nodes) (sym en) (omega arith) }

pub note_in : (f : Layout) (row : List ℕ) (w : Climber) (c : Chains) (a : Labels) (x : NodeId) (done : ℕ) (l : Label) → CanSettle f row w c a x done l → (x.index < length a.labels.items) × (x.index < length w.stages.items)
note_in f row w c a x done l can =
    let p : IsPertinent f w x.index = subst (λ v. IsPertinent f w v) (sym can.is) (can.swept.pertinent done can.some) in
    let k : x.index < length f.slots = pertinent_in f row w c x.index can.ground p in
    let e : length a.labels.items ≡ length f.slots = can.swept.sizes.0 in
    let d : length w.stages.items ≡ length f.slots = can.ground.long in (omega arith, omega arith)
