-- The label of a node by those of its children.
use Rattle.std.proofs.Common.{◌≡◌, ◌≢◌, ◌⊎◌, inl, inr, ℕ, ◌+◌, ◌-◌, ◌≤◌, ◌<◌, true, cond, eqb, List, [], ◌∷◌, ◌++◌, length, sum_by, Option, Some, None, refl, sym, ap, subst, ◌∙◌, arith, eq-eqb}
use Rattle.std.proofs.lemmas.Bool.{cases_eq, cases_lt, ne_eqb}
use Rattle.std.proofs.lemmas.List.{append_assoc, length-append}
use Rattle.std.proofs.lemmas.List.Sums.{sum_by-cons, sum_by-append}
use Rattle.arena_model.specs.declared.Shape.TheVariants.{Leaf, P, Q}
use Rattle.pq_arena.specs.declared.node.NodeId.{NodeId}
use Rattle.pq_arena.specs.declared.node.NodeView.{NodeView}
use Rattle.arena_model.specs.ChildLists.{none}
use Rattle.arena_model.specs.declared.Shape.{Shape}
use Rattle.column_order.specs.Orders.{occurs}
use Rattle.arena_model.specs.Layout.{Layout, shape_at, children_at, times_child, IsAtOrAbove, here, down, IsGrounded, grounded, IsInUse, IsLayout, MayHaveChildren}
use Rattle.arena_model.proofs.Paths.{above_step}
use Rattle.arena_model.specs.ChildLists.{head_or, last_or}
use Rattle.pq_arena.specs.Looks.{node_named, ShowsNode}
use Rattle.arena_model.proofs.Slots.{child_used, in_range, children_times, not_none, child_at}
use Rattle.arena_model.proofs.Slots.{some_inj}
use Rattle.column_order.proofs.Lists.{occurs-append}
use Rattle.arena_model.proofs.Lists.{last_or-append, occurs_here, occurs_other, only_one, SplitAt, split_at}
use Rattle.bubble_pass.specs.declared.climber.Climber.{Climber}
use Rattle.bubble_pass.specs.declared.chains.Chains.{Chains}
use Rattle.bubble_pass.specs.declared.labels.Label.TheVariants.{Empty, Partial, Full}
use Rattle.bubble_pass.specs.declared.labels.Label.{Label}
use Rattle.bubble_pass.specs.declared.labels.Labels.{Labels}
use Rattle.bubble_pass.specs.Climb.{stage, IsSeen}
use Rattle.bubble_pass.proofs.Splits.{FirstStep, first_step, root_above}
use Rattle.bubble_pass.proofs.Sweeping.{empty_or}
use Rattle.bubble_pass.specs.Chains.{number}
use Rattle.bubble_pass.specs.Roots.{below}
use Rattle.bubble_pass.specs.Ends.{IsFull}
use Rattle.bubble_pass.specs.Sweep.{label, full_one, full_only, full_in, IsRight, IsPertinent, Ground, Place, Swept, CanJudge, Judging, IsIn, other_in}
use Rattle.bubble_pass.proofs.Seats.{of_named, named_none, named_is}

-- what full_at answers
pub full_is : (ls : List Label) (o : Option NodeId) (y : NodeId) → full_in ls o ≡ Some y → (o ≡ Some y) × (label ls y.index ≡ Full)
full_is ls None y e = absurd (let z : None ≡ Some y = e in cc)
full_is ls (Some n) y e = by (label ls n.index) refl e
  where
    by : (l : Label) → label ls n.index ≡ l → full_only l n ≡ Some y → (Some n ≡ Some y) × (label ls y.index ≡ Full)
    by Empty q i = absurd (let z : None ≡ Some y = i in cc)
    by Partial q i = absurd (let z : None ≡ Some y = i in cc)
    by Full q i = (i, subst (λ (z : NodeId). label ls z.index ≡ Full) (some_inj n y i) q)

pub next_in : (f : Layout) (ls : Labels) (x left : ℕ) (before next : Option NodeId) (s0 s : ℕ) → IsLayout f → Judging f ls x left before next s0 s → IsIn (length ls.labels.items) next
next_in f ls x left before next s0 s h j = by j.vs next (λ v o. subst (λ k. 1 ≤ occurs k v) (sym j.split) (omega (arith, occurs-append j.us j.vs v))) j.ahead
  where
    by : (vs : List ℕ) (o : Option NodeId) → ((v : ℕ) → 1 ≤ occurs vs v → 1 ≤ occurs (children_at f x) v) → o ≡ node_named (head_or vs none) → IsIn (length ls.labels.items) o
    by vs None kid e = tt
    by [] (Some y) kid e = absurd (let z : None ≡ Some y = sym named_none ∙ sym e in cc)
    by (v ∷ vs) (Some y) kid e =
        let i : v ≡ y.index = of_named v y (sym e) in
        subst (λ k. k < length ls.labels.items) i
        (let l : v < length f.slots = in_range f v (child_used f x v h (kid v (occurs_here v vs))) in let q : length ls.labels.items ≡ length f.slots = j.size in omega arith)

other_is : (near : List (Option NodeId)) (a h : Option NodeId) → (near ≡ a ∷ h ∷ []) ⊎ (near ≡ h ∷ a ∷ []) → other_in near a ≡ h
other_is near None None (inl e) = ap (λ v. other_in v None) e
other_is near None (Some y) (inl e) = ap (λ v. other_in v None) e
other_is near (Some b) h (inl e) = ap (λ v. other_in v (Some b)) e ∙ ap (λ t. cond t h (Some b)) (eq-eqb b.index b.index refl)
other_is near None None (inr e) = ap (λ v. other_in v None) e
other_is near None (Some y) (inr e) = ap (λ v. other_in v None) e
other_is near (Some b) None (inr e) = ap (λ v. other_in v (Some b)) e
other_is near (Some b) (Some y) (inr e) = ap (λ v. other_in v (Some b)) e ∙ (elim (cases_eq y.index b.index) [
  | inl q ↦ ap (λ t. cond t (Some b) (Some y)) (let t : eqb y.index b.index ≡ true = eq-eqb y.index b.index q in t) ∙ ap (λ i. Some (let n : NodeId = record { index = i } in n)) (sym q)
  | inr ne ↦ ap (λ t. cond t (Some b) (Some y)) (ne_eqb y.index b.index ne)
])

pub judge_start : (f : Layout) (ls : Labels) (x : ℕ) (next : Option NodeId) (s0 s : ℕ) → length ls.labels.items ≡ length f.slots → next ≡ node_named (head_or (children_at f x) none) → s ≡ s0 + 1 →
    Judging f ls x (number ls.full.items x) None next s0 s
judge_start f ls x next s0 s size e t =
    record { us = []; vs = children_at f x; split = refl; full = λ z o. absurd (omega arith); behind = sym named_none; ahead = e; count = omega arith; ticks = omega arith; size = size }

pub judge_step : (f : Layout) (ls : Labels) (x left : ℕ) (before next after : Option NodeId) (y : NodeId) (view : NodeView) (s0 s s' : ℕ) → IsLayout f → shape_at f x ≡ Some Q → Judging f ls x left before next s0 s → 0 < left →
    full_in ls.labels.items next ≡ Some y → ShowsNode f y.index view → after ≡ other_in view.near before → s' ≡ s + 1 → Judging f ls x (left - 1) (Some y) after s0 s'
judge_step f ls x left before next after y view s0 s s' h sh j some fy see ea t = by j.vs j.split j.ahead
  where
    is : (next ≡ Some y) × (label ls.labels.items y.index ≡ Full)
    is = full_is ls.labels.items next y fy

    by : (vs : List ℕ) → children_at f x ≡ j.us ++ vs → next ≡ node_named (head_or vs none) → Judging f ls x (left - 1) (Some y) after s0 s'
    by [] ks a = absurd (let z : None ≡ Some y = sym named_none ∙ sym a ∙ is.0 in cc)
    by (v ∷ vs) ks a =
        let vy : v ≡ y.index = of_named v y (sym a ∙ is.0) in
        let ky : children_at f x ≡ j.us ++ y.index ∷ vs = ks ∙ ap (λ z. j.us ++ z ∷ vs) vy in
        let run = see.run x j.us vs sh ky in
        record {
          us = j.us ++ y.index ∷ [];
          vs = vs;
          split = ky ∙ sym (append_assoc j.us (y.index ∷ []) vs);
          full = λ z o. elim (cases_lt 0 (occurs j.us z)) [
            | inl l ↦ j.full z l
            | inr l ↦ subst (λ k. label ls.labels.items k ≡ Full) (sym (only_one z y.index (omega (arith, occurs-append j.us (y.index ∷ []) z)))) is.1
          ];
          behind = sym (named_is y.index (not_none f y.index h (child_used f x y.index h (child_at f x y.index j.us vs ky)))) ∙ ap node_named (sym (last_or-append j.us (y.index ∷ []) none));
          ahead = ea ∙ ap (λ z. other_in view.near z) j.behind ∙ other_is view.near (node_named (last_or j.us none)) (node_named (head_or vs none)) run.1;
          count = let c : left + length j.us ≡ number ls.full.items x = j.count in omega (arith, length-append j.us (y.index ∷ []));
          ticks = let c : s ≡ s0 + 1 + length j.us = j.ticks in omega (arith, length-append j.us (y.index ∷ []));
          size = j.size;
        }

-- a leaf is full
pub leaf_full : (f : Layout) (row : List ℕ) (w : Climber) (c : Chains) (ls : Labels) (x : NodeId) (done a : ℕ) → IsLayout f → CanJudge f row w c ls x done → shape_at f x.index ≡ Some (Leaf a) → IsRight f row x.index Full
leaf_full f row w c ls x done a h can sh = λ y b l s.
    let p : IsPertinent f w x.index = subst (λ v. IsPertinent f w v) (sym can.is) (can.swept.pertinent done can.some) in
    let m = can.ground.meets x.index p.seen in
    subst (λ v. 1 ≤ occurs row v) (sym (alone m.0 m.2) ∙ alone y l) m.1
  where
    bare : children_at f x.index ≡ []
    bare = subst (λ z. MayHaveChildren z (children_at f x.index)) sh (h.children_fit x.index)

    at_leaf : (n y : ℕ) → IsAtOrAbove f.slots n y → children_at f n ≡ [] → n ≡ y
    at_leaf _ _ (here n) e = refl
    at_leaf _ _ (down n k y o l) e = absurd (let z : 1 ≤ occurs [] k = subst (λ v. 1 ≤ occurs v k) e o in omega arith)

    alone : (y : ℕ) → IsAtOrAbove f.slots x.index y → x.index ≡ y
    alone y l = at_leaf x.index y l bare

-- each node below the root has a leaf at or below it
abbrev HasLeaf : Layout → ℕ → Type 0
HasLeaf f n = (x : ℕ) × (a : ℕ) × IsAtOrAbove f.slots n x × (shape_at f x ≡ Some (Leaf a))

first_kid : (ks : List ℕ) → 1 ≤ length ks → (k : ℕ) × (1 ≤ occurs ks k)
first_kid [] e = absurd (omega arith)
first_kid (k ∷ ks) e = (k, occurs_here k ks)

leaf_by : (f : Layout) (n : ℕ) → IsFull f → IsAtOrAbove f.slots f.root n → IsInUse f n → ((k : ℕ) → 1 ≤ occurs (children_at f n) k → HasLeaf f k) → HasLeaf f n
leaf_by f n u l used kid = by (shape_at f n) refl
  where
    through : 1 ≤ length (children_at f n) → HasLeaf f n
    through some = let k = first_kid (children_at f n) some in let r = kid k.0 k.1 in (r.0, r.1, down n k.0 r.0 k.1 r.2, r.3)

    by : (s : Option Shape) → shape_at f n ≡ s → HasLeaf f n
    by None e = absurd (used e)
    by (Some (Leaf a)) e = (n, a, here n, e)
    by (Some P) e = through (u.of_p n l e)
    by (Some Q) e = through (u.of_q n l e)

some_leaf : (f : Layout) (n : ℕ) → IsLayout f → IsFull f → IsGrounded f.slots n → IsAtOrAbove f.slots f.root n → IsInUse f n → HasLeaf f n
some_leaf f _ h u (grounded n kid) l used = leaf_by f n u l used (λ k o. some_leaf f k h u (kid k o) (above_step f.slots f.root n k l o) (child_used f n k h o))

-- the sum over the chain is that over all children
pub sum_within : (g : ℕ → ℕ) (xs ks : List ℕ) → ((x : ℕ) → occurs xs x ≤ 1) → ((x : ℕ) → 1 ≤ occurs xs x → 1 ≤ occurs ks x) → ((x : ℕ) → occurs ks x ≤ 1) →
    ((x : ℕ) → 1 ≤ occurs ks x → occurs xs x ≡ 0 → g x ≡ 0) → sum_by g xs ≡ sum_by g ks
sum_within g [] ks once sub ks_once off = sym (zero_sum ks (λ x o. off x o refl))
  where
    zero_sum : (ks : List ℕ) → ((x : ℕ) → 1 ≤ occurs ks x → g x ≡ 0) → sum_by g ks ≡ 0
    zero_sum [] h = refl
    zero_sum (k ∷ ks) h = let a : g k ≡ 0 = h k (occurs_here k ks) in let r : sum_by g ks ≡ 0 = zero_sum ks (λ x o. h x (omega arith)) in omega (arith, sum_by-cons g k ks)
sum_within g (y ∷ ys) ks once sub ks_once off =
    let s : SplitAt ks y = split_at ks y (sub y (occurs_here y ys)) in
    let total : (x : ℕ) → occurs ks x ≡ occurs s.us x + (occurs (y ∷ []) x + occurs s.vs x) =
    (λ x. ap (λ z. occurs z x) s.is ∙ (let e : occurs (s.us ++ y ∷ s.vs) x ≡ occurs s.us x + (occurs (y ∷ []) x + occurs s.vs x) = omega (arith, occurs-append s.us (y ∷ s.vs) x) in e)) in
    let r : sum_by g ys ≡ sum_by g (s.us ++ s.vs) = sum_within g ys (s.us ++ s.vs)
    (λ x. let o : occurs (y ∷ ys) x ≤ 1 = once x in omega arith)
    (λ x o. let t : occurs ks x ≡ occurs s.us x + (occurs (y ∷ []) x + occurs s.vs x) = total x in let k : 1 ≤ occurs ks x = sub x (omega arith) in
    let c : occurs (y ∷ ys) x ≤ 1 = once x in let n : occurs (y ∷ []) x ≡ 0 = omega arith in omega (arith, occurs-append s.us s.vs x))
    (λ x. let t : occurs ks x ≡ occurs s.us x + (occurs (y ∷ []) x + occurs s.vs x) = total x in let k : occurs ks x ≤ 1 = ks_once x in omega (arith, occurs-append s.us s.vs x))
    (λ x o no_y. let t : occurs ks x ≡ occurs s.us x + (occurs (y ∷ []) x + occurs s.vs x) = total x in let k : occurs ks x ≤ 1 = ks_once x in
    let n : occurs (y ∷ []) x ≡ 0 = omega (arith, occurs-append s.us s.vs x) in off x (omega (arith, occurs-append s.us s.vs x)) (omega arith)) in
    let e : sum_by g ks ≡ sum_by g (s.us ++ y ∷ s.vs) = ap (λ z. sum_by g z) s.is in
    omega (arith, sum_by-cons g y ys, sum_by-append g s.us (y ∷ s.vs), sum_by-cons g y s.vs, sum_by-append g s.us s.vs)

pub count_kids : (f : Layout) (row : List ℕ) (w : Climber) (c : Chains) (ls : Labels) (x : NodeId) (done : ℕ) → IsLayout f → CanJudge f row w c ls x done →
    number ls.full.items x.index ≡ sum_by (λ z. full_one (label ls.labels.items z)) (children_at f x.index)
count_kids f row w c ls x done h can =
    let p : IsPertinent f w x.index = subst (λ v. IsPertinent f w v) (sym can.is) (can.swept.pertinent done can.some) in
    can.swept.fulls x.index p
    ∙ sum_within (λ z. full_one (label ls.labels.items z)) (below w x.index) (children_at f x.index) (λ z. can.ground.once x.index z)
    (λ z o. let q = can.ground.only x.index z o in subst (λ v. 1 ≤ occurs (children_at f v) z) q.2 (can.ground.above z q.0 q.1).0)
    (λ z. let a : occurs (children_at f x.index) z ≤ times_child f.slots z = children_times f x.index z in let b : times_child f.slots z ≤ 1 = h.once z in omega arith)
    (λ z o off. elim (empty_or (label ls.labels.items z)) [
      | inl e ↦ ap full_one e
      | inr ne ↦ absurd (
          let r = can.swept.only z ne in
          let seen = can.swept.pertinent r.i (let a : r.i < done = r.lt in let b : done < ls.len = can.some in omega arith) in
          let in_chain : 1 ≤ occurs (below w x.index) z = can.ground.all x.index z p o (can.ground.meets z (subst (λ v. IsSeen (stage w.stages.items v)) r.is seen.seen)) in omega arith)
    ])

full_or : (l : Label) → (l ≡ Full) ⊎ ((l ≢ Full) × (full_one l ≡ 0))
full_or Empty = inr (λ e. cc, refl)
full_or Partial = inr (λ e. cc, refl)
full_or Full = inl refl

sum_le : (ls : List Label) (ks : List ℕ) → sum_by (λ z. full_one (label ls z)) ks ≤ length ks
sum_le ls [] = omega arith
sum_le ls (k ∷ ks) =
    let r : sum_by (λ z. full_one (label ls z)) ks ≤ length ks = sum_le ls ks in
    let o : full_one (label ls k) ≤ 1 = (elim (full_or (label ls k)) [ inl e ↦ (let q : full_one (label ls k) ≡ 1 = ap full_one e in omega arith) | inr e ↦ (let q : full_one (label ls k) ≡ 0 = e.1 in omega arith) ]) in
    omega (arith, sum_by-cons (λ z. full_one (label ls z)) k ks)

pub all_or_some : (ls : List Label) (ks : List ℕ) → ((sum_by (λ z. full_one (label ls z)) ks ≡ length ks) × ((k : ℕ) → 1 ≤ occurs ks k → label ls k ≡ Full)) ⊎
    ((sum_by (λ z. full_one (label ls z)) ks < length ks) × ((k : ℕ) × (1 ≤ occurs ks k) × (label ls k ≢ Full)))
all_or_some ls [] = inl (refl, λ k o. absurd (omega arith))
all_or_some ls (y ∷ ys) =
    let e = sum_by-cons (λ z. full_one (label ls z)) y ys in
    elim (full_or (label ls y)) [
      | inl fy ↦ let q : full_one (label ls y) ≡ 1 = ap full_one fy in elim (all_or_some ls ys) [
        | inl a ↦ inl (
          (let k : sum_by (λ z. full_one (label ls z)) ys ≡ length ys = a.0 in omega (arith, e)),
          λ k o. elim (cases_eq k y) [
            | inl i ↦ subst (λ v. label ls v ≡ Full) (sym i) fy
            | inr ne ↦ a.1 k (subst (λ v. 1 ≤ v) (occurs_other y k ys ne) o)
          ],
        )
        | inr s ↦ inr ((let k : sum_by (λ z. full_one (label ls z)) ys < length ys = s.0 in omega (arith, e)), (s.1.0, (let o : 1 ≤ occurs ys s.1.0 = s.1.1 in let p : 1 ≤ occurs (y ∷ ys) s.1.0 = omega arith in p), s.1.2))
      ]
      | inr ny ↦ inr ((let q : full_one (label ls y) ≡ 0 = ny.1 in omega (arith, e, sum_le ls ys)), (y, occurs_here y ys, ny.0))
    ]

-- all children full
pub full_by : (f : Layout) (row : List ℕ) (w : Climber) (c : Chains) (ls : Labels) (x : NodeId) (done : ℕ) → CanJudge f row w c ls x done → ((a : ℕ) → shape_at f x.index ≢ Some (Leaf a)) →
    ((k : ℕ) → 1 ≤ occurs (children_at f x.index) k → label ls.labels.items k ≡ Full) → IsRight f row x.index Full
full_by f row w c ls x done can inner all = λ y a l s.
    let st : FirstStep f x.index y = first_step f x.index y l (λ e. inner a (subst (λ v. shape_at f v ≡ Some (Leaf a)) e s)) in
    let e : label ls.labels.items st.c ≡ Full = all st.c st.kid in
    (subst (λ v. IsRight f row st.c v) e (can.swept.right st.c (λ d. let z = sym d ∙ e in cc))) y a st.leads s

-- one child not full
pub partial_by : (f : Layout) (row : List ℕ) (w : Climber) (c : Chains) (ls : Labels) (x : NodeId) (done k : ℕ) → IsLayout f → CanJudge f row w c ls x done →
    1 ≤ occurs (children_at f x.index) k → label ls.labels.items k ≢ Full → IsRight f row x.index Partial
partial_by f row w c ls x done k h can ok nf =
    let p : IsPertinent f w x.index = subst (λ v. IsPertinent f w v) (sym can.is) (can.swept.pertinent done can.some) in
    let m = can.ground.meets x.index p.seen in
    let root_x : IsAtOrAbove f.slots f.root x.index = root_above f x.index m.0 h (can.is_row.below m.0 m.1) m.2 in
    let lf = some_leaf f k h can.is_full (h.grounds k) (above_step f.slots f.root x.index k root_x ok) (child_used f x.index k h ok) in
    ((m.0, m.2, m.1), by (label ls.labels.items k) refl lf p)
  where
    by : (l : Label) → label ls.labels.items k ≡ l → (x : ℕ) × (a : ℕ) × IsAtOrAbove f.slots k x × (shape_at f x ≡ Some (Leaf a)) → IsPertinent f w x.index →
        (y : ℕ) × (a : ℕ) × IsAtOrAbove f.slots x.index y × (shape_at f y ≡ Some (Leaf a)) × (occurs row y ≡ 0)
    by Full e lf p = absurd (nf e)
    by Partial e lf p = let r = (subst (λ v. IsRight f row k v) e (can.swept.right k (λ d. let z = sym d ∙ e in cc))).1 in
        (r.0, r.1, down x.index k r.0 ok r.2, r.3, r.4)
    by Empty e lf p = (
      lf.0,
      lf.1,
      down x.index k lf.0 ok lf.2,
      lf.3,
      (elim (cases_lt 0 (occurs row lf.0)) [
        | inl o ↦ absurd (can.swept.after done k can.some (subst (λ v. 1 ≤ occurs (below w v) k) can.is (can.ground.all x.index k p ok (lf.0, o, lf.2))) e)
        | inr o ↦ (let z : occurs row lf.0 ≡ 0 = omega arith in z)
      ]),
    )

pub next_used : (f : Layout) (ls : Labels) (x left : ℕ) (before next : Option NodeId) (y : NodeId) (s0 s : ℕ) → IsLayout f → Judging f ls x left before next s0 s → full_in ls.labels.items next ≡ Some y → IsInUse f y.index
next_used f ls x left before next y s0 s h j e = by j.vs j.split j.ahead
  where
    by : (vs : List ℕ) → children_at f x ≡ j.us ++ vs → next ≡ node_named (head_or vs none) → IsInUse f y.index
    by [] ks a = absurd (let z : None ≡ Some y = sym named_none ∙ sym a ∙ (full_is ls.labels.items next y e).0 in cc)
    by (v ∷ vs) ks a = let i : v ≡ y.index = of_named v y (sym a ∙ (full_is ls.labels.items next y e).0) in
        subst (λ z. IsInUse f z) i (child_used f x v h (child_at f x v j.us vs ks))

us_sum : (ls : List Label) (us : List ℕ) → ((z : ℕ) → 1 ≤ occurs us z → label ls z ≡ Full) → sum_by (λ z. full_one (label ls z)) us ≡ length us
us_sum ls [] h = refl
us_sum ls (u ∷ us) h =
    let a : full_one (label ls u) ≡ 1 = ap full_one (h u (occurs_here u us)) in
    let r : sum_by (λ z. full_one (label ls z)) us ≡ length us = us_sum ls us (λ z o. h z (omega arith)) in omega (arith, sum_by-cons (λ z. full_one (label ls z)) u us)

pub NotFull : Layout → Labels → ℕ → Type 0
NotFull f ls x = (k : ℕ) × (1 ≤ occurs (children_at f x) k) × (label ls.labels.items k ≢ Full)

pub judge_ticks : (f : Layout) (ls : Labels) (x left : ℕ) (before next : Option NodeId) (s0 s : ℕ) → Judging f ls x left before next s0 s → s ≤ s0 + number ls.full.items x + 2
judge_ticks f ls x left before next s0 s j = let c : left + length j.us ≡ number ls.full.items x = j.count in let t : s ≡ s0 + 1 + length j.us = j.ticks in omega arith

pub one_look : (s0 s k : ℕ) → s ≡ s0 + 1 → s ≤ s0 + k + 2
one_look s0 s k t = omega arith

pub full_some : Full ≢ Empty
full_some e = absurd (cc)

pub partial_some : Partial ≢ Empty
partial_some e = absurd (cc)

-- the walk met one that is not full
pub judge_none : (f : Layout) (ls : Labels) (x left : ℕ) (before next : Option NodeId) (s0 s : ℕ) → IsLayout f → Judging f ls x left before next s0 s → 0 < left →
    number ls.full.items x ≡ sum_by (λ z. full_one (label ls.labels.items z)) (children_at f x) → full_in ls.labels.items next ≡ None → NotFull f ls x
unfolding NotFull
judge_none f ls x left before next s0 s h j some cnt e = by j.vs j.split j.ahead
  where
    by : (vs : List ℕ) → children_at f x ≡ j.us ++ vs → next ≡ node_named (head_or vs none) → (k : ℕ) × (1 ≤ occurs (children_at f x) k) × (label ls.labels.items k ≢ Full)
    by [] ks a = absurd (let c : left + length j.us ≡ number ls.full.items x = j.count in
        let t : sum_by (λ z. full_one (label ls.labels.items z)) (children_at f x) ≡ sum_by (λ z. full_one (label ls.labels.items z)) (j.us ++ []) = ap (λ z. sum_by (λ y. full_one (label ls.labels.items y)) z) ks in
        let z : sum_by (λ z. full_one (label ls.labels.items z)) [] ≡ 0 = refl in
        omega (arith, sum_by-append (λ z. full_one (label ls.labels.items z)) j.us [], us_sum ls.labels.items j.us j.full))
    by (v ∷ vs) ks a = (
      v,
      child_at f x v j.us vs ks,
      λ fv.
          let o : next ≡ Some (let n : NodeId = record { index = v } in n) = a ∙ named_is v (not_none f v h (child_used f x v h (child_at f x v j.us vs ks))) in
          let z = sym (ap (λ p. full_in ls.labels.items p) o ∙ ap (λ p. full_only p (let n : NodeId = record { index = v } in n)) fv) ∙ e in cc,
    )

-- the walk met all that are full, and there is another
pub judge_more : (f : Layout) (ls : Labels) (x left : ℕ) (before next : Option NodeId) (y : NodeId) (s0 s : ℕ) → IsLayout f → Judging f ls x left before next s0 s → left ≤ 0 →
    number ls.full.items x ≡ sum_by (λ z. full_one (label ls.labels.items z)) (children_at f x) → next ≡ Some y → NotFull f ls x
unfolding NotFull
judge_more f ls x left before next y s0 s h j none_left cnt e = by j.vs j.split j.ahead
  where
    by : (vs : List ℕ) → children_at f x ≡ j.us ++ vs → next ≡ node_named (head_or vs none) → (k : ℕ) × (1 ≤ occurs (children_at f x) k) × (label ls.labels.items k ≢ Full)
    by [] ks a = absurd (let z : None ≡ Some y = sym named_none ∙ sym a ∙ e in cc)
    by (v ∷ vs) ks a = (
      v,
      child_at f x v j.us vs ks,
      λ fv. absurd (
          let c : left + length j.us ≡ number ls.full.items x = j.count in
          let t : sum_by (λ z. full_one (label ls.labels.items z)) (children_at f x) ≡ sum_by (λ z. full_one (label ls.labels.items z)) (j.us ++ v ∷ vs) = ap (λ z. sum_by (λ y. full_one (label ls.labels.items y)) z) ks in
          let o : full_one (label ls.labels.items v) ≡ 1 = ap full_one fv in
          omega (arith, sum_by-append (λ z. full_one (label ls.labels.items z)) j.us (v ∷ vs), sum_by-cons (λ z. full_one (label ls.labels.items z)) v vs, us_sum ls.labels.items j.us j.full)),
    )

pub judge_all : (f : Layout) (ls : Labels) (x left : ℕ) (before next : Option NodeId) (s0 s : ℕ) → IsLayout f → Judging f ls x left before next s0 s → next ≡ None → (k : ℕ) → 1 ≤ occurs (children_at f x) k → label ls.labels.items k ≡ Full
judge_all f ls x left before next s0 s h j e = by j.vs j.split j.ahead
  where
    by : (vs : List ℕ) → children_at f x ≡ j.us ++ vs → next ≡ node_named (head_or vs none) → (k : ℕ) → 1 ≤ occurs (children_at f x) k → label ls.labels.items k ≡ Full
    by [] ks a k o = let z : occurs (children_at f x) k ≡ occurs (j.us ++ []) k = ap (λ v. occurs v k) ks in let y : occurs [] k ≡ 0 = refl in j.full k (omega (arith, occurs-append j.us [] k))
    by (v ∷ vs) ks a k o = absurd (let z = sym (named_is v (not_none f v h (child_used f x v h (child_at f x v j.us vs ks)))) ∙ sym a ∙ e in cc)

pub partial_from : (f : Layout) (row : List ℕ) (w : Climber) (c : Chains) (ls : Labels) (x : NodeId) (done : ℕ) → IsLayout f → CanJudge f row w c ls x done → NotFull f ls x.index → IsRight f row x.index Partial
unfolding NotFull
partial_from f row w c ls x done h can n = partial_by f row w c ls x done n.0 h can n.1 n.2

pub p_full : (f : Layout) (row : List ℕ) (w : Climber) (c : Chains) (ls : Labels) (x : NodeId) (done : ℕ) → IsLayout f → CanJudge f row w c ls x done → shape_at f x.index ≡ Some P →
    number ls.full.items x.index ≡ length (children_at f x.index) → IsRight f row x.index Full
p_full f row w c ls x done h can sh e = elim (all_or_some ls.labels.items (children_at f x.index)) [
  | inl a ↦ full_by f row w c ls x done can (λ b s. let z = sym sh ∙ s in cc) a.1
  | inr s ↦ absurd (let q : sum_by (λ z. full_one (label ls.labels.items z)) (children_at f x.index) < length (children_at f x.index) = s.0 in
      let n : number ls.full.items x.index ≡ sum_by (λ z. full_one (label ls.labels.items z)) (children_at f x.index) = count_kids f row w c ls x done h can in omega arith)
]

pub p_partial : (f : Layout) (row : List ℕ) (w : Climber) (c : Chains) (ls : Labels) (x : NodeId) (done : ℕ) → IsLayout f → CanJudge f row w c ls x done →
    number ls.full.items x.index ≢ length (children_at f x.index) → IsRight f row x.index Partial
p_partial f row w c ls x done h can ne = elim (all_or_some ls.labels.items (children_at f x.index)) [
  | inl a ↦ absurd (ne (count_kids f row w c ls x done h can ∙ a.0))
  | inr s ↦ partial_by f row w c ls x done s.1.0 h can s.1.1 s.1.2
]

pub judge_in : (f : Layout) (row : List ℕ) (w : Climber) (c : Chains) (ls : Labels) (x : NodeId) (done : ℕ) → CanJudge f row w c ls x done → x.index < length ls.full.items
judge_in f row w c ls x done can =
    let p : IsPertinent f w x.index = subst (λ v. IsPertinent f w v) (sym can.is) (can.swept.pertinent done can.some) in
    let k : x.index < length f.slots = in_range f x.index (can.ground.used x.index p.seen) in
    let e : length ls.full.items ≡ length f.slots = can.swept.sizes.1 in omega arith

-- a node without placed children that meets the row is of the row
own_row : (f : Layout) (row : List ℕ) (w : Climber) (c : Chains) (n : ℕ) → Ground f row w c → IsPertinent f w n → length (below w n) ≤ 0 → 1 ≤ occurs row n
own_row f row w c n g p none_below =
    let m = g.meets n p.seen in
    elim (cases_eq m.0 n) [
      | inl e ↦ subst (λ v. 1 ≤ occurs row v) e m.1
      | inr ne ↦ let s : FirstStep f n m.0 = first_step f n m.0 m.2 ne in
          absurd (long (below w n) s.c (g.all n s.c p s.kid (m.0, m.1, s.leads)) none_below)
    ]
  where
    long : (xs : List ℕ) (z : ℕ) → 1 ≤ occurs xs z → length xs ≤ 0 → ⊥
    long [] z o l = absurd (omega arith)
    long (y ∷ ys) z o l = absurd (omega arith)

complete_at : (f : Layout) (row : List ℕ) (w : Climber) (c : Chains) (ls : Labels) (n : ℕ) → Ground f row w c → Swept f row w ls ls.len → IsPertinent f w n →
    ((z : ℕ) → 1 ≤ occurs (below w n) z → label ls.labels.items z ≢ Empty) → label ls.labels.items n ≢ Empty
complete_at f row w c ls n g s p kids_done =
    let at_place : Place ls ls.len n → label ls.labels.items n ≢ Empty = (λ q. subst (λ v. label ls.labels.items v ≢ Empty) q.is (s.labelled q.i q.lt)) in
    elim (cases_lt 0 (length (below w n))) [
      | inl some ↦ at_place (s.pushed n p some kids_done)
      | inr none_below ↦ at_place (s.leaves n (own_row f row w c n g p none_below))
    ]

-- at the end each pertinent node has its label
pub complete : (f : Layout) (row : List ℕ) (w : Climber) (c : Chains) (ls : Labels) (n : ℕ) → Ground f row w c → Swept f row w ls ls.len → IsGrounded f.slots n → IsPertinent f w n → label ls.labels.items n ≢ Empty
complete f row w c ls _ g s (grounded n kid) p =
    complete_at f row w c ls n g s p (λ z o.
    let q = g.only n z o in
    let ok : 1 ≤ occurs (children_at f n) z = subst (λ v. 1 ≤ occurs (children_at f v) z) q.2 (g.above z q.0 q.1).0 in
    complete f row w c ls z g s (kid z ok)
    (record { seen = subst (λ v. IsSeen v) (sym q.1) tt; top = p.top; marked = p.marked; leads = above_step f.slots p.top n z p.leads ok }))

pub complete_end : (f : Layout) (row : List ℕ) (w : Climber) (c : Chains) (ls : Labels) (done : ℕ) → IsLayout f → Ground f row w c → Swept f row w ls done → ls.len ≤ done →
    (n : ℕ) → IsPertinent f w n → label ls.labels.items n ≢ Empty
complete_end f row w c ls done h g s ge n p =
    let o : done ≤ ls.len = s.order in
    complete f row w c ls n g (subst (λ d. Swept f row w ls d) (let e : done ≡ ls.len = omega arith in e) s) (h.grounds n) p
