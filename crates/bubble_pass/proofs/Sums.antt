-- The looks of the sweep.
use Rattle.std.proofs.Common.{◌≡◌, ◌≢◌, inl, inr, ℕ, zero, suc, ◌+◌, ◌*◌, ◌≤◌, ◌<◌, List, [], ◌∷◌, ◌++◌, length, sum_by, take, get_or, refl, sym, ap, subst, ◌∙◌, arith}
use Rattle.std.proofs.lemmas.Bool.{cases_eq, cases_lt}
use Rattle.std.proofs.lemmas.List.{length-append, get_or_read}
use Rattle.std.proofs.lemmas.List.Sums.{sum_by-cons, sum_by-append}
use Rattle.pq_arena.specs.declared.node.NodeId.{NodeId}
use Rattle.column_order.specs.Orders.{occurs}
use Rattle.arena_model.specs.Layout.{Layout, IsLayout}
use Rattle.column_order.proofs.Lists.{occurs-append}
use Rattle.arena_model.proofs.Lists.{occurs_here, occurs_other, occurs_same, shorter}
use Rattle.bubble_pass.specs.declared.climber.Stage.TheVariants.{Placed}
use Rattle.bubble_pass.specs.declared.climber.Climber.{Climber}
use Rattle.bubble_pass.specs.declared.chains.Chains.{Chains}
use Rattle.bubble_pass.specs.declared.labels.Label.{Label}
use Rattle.bubble_pass.specs.declared.labels.Label.TheVariants.{Empty, Partial, Full}
use Rattle.bubble_pass.specs.declared.labels.Labels.{Labels}
use Rattle.pq_arena.specs.RowNodes.{indices}
use Rattle.bubble_pass.specs.Climb.{no_id, at}
use Rattle.bubble_pass.specs.Chains.{number}
use Rattle.bubble_pass.specs.Roots.{below}
use Rattle.bubble_pass.specs.Sweep.{label, full_one, Ground, IsPertinent, Place, Swept, Sweeping, IsQuiet, SameBefore, fulls_before}
use Rattle.bubble_pass.proofs.Linking.{turns_more, turn_of, exactly}
use Rattle.bubble_pass.proofs.Descents.{turn_in}
use Rattle.bubble_pass.proofs.Sweeping.{places_once}

-- those of the list that are full
abbrev full_list : Label → ℕ → List ℕ
full_list Empty z = []
full_list Partial z = []
full_list Full z = z ∷ []

fulls : List Label → List ℕ → List ℕ
fulls ls [] = []
fulls ls (z ∷ zs) = full_list (label ls z) z ++ fulls ls zs

one_full : (l : Label) (z : ℕ) → length (full_list l z) ≡ full_one l
one_full Empty z = refl
one_full Partial z = refl
one_full Full z = refl

one_occurs : (l : Label) (z x : ℕ) → occurs (full_list l z) x ≤ occurs (z ∷ []) x
one_occurs Empty z x = omega arith
one_occurs Partial z x = omega arith
one_occurs Full z x = omega arith

one_none : (l : Label) (z x : ℕ) → 1 ≤ occurs (full_list l z) x → l ≢ Empty
one_none Empty z x o = absurd (omega arith)
one_none Partial z x o = λ e. cc
one_none Full z x o = λ e. cc

fulls_length : (ls : List Label) (zs : List ℕ) → length (fulls ls zs) ≡ sum_by (λ z. full_one (label ls z)) zs
unfolding fulls
fulls_length ls [] = refl
fulls_length ls (z ∷ zs) = omega (arith, length-append (full_list (label ls z) z) (fulls ls zs), one_full (label ls z) z, fulls_length ls zs, sum_by-cons (λ z. full_one (label ls z)) z zs)

fulls_occurs : (ls : List Label) (zs : List ℕ) (x : ℕ) → occurs (fulls ls zs) x ≤ occurs zs x
unfolding fulls
fulls_occurs ls [] x = omega arith
fulls_occurs ls (z ∷ zs) x = omega (arith, occurs-append (full_list (label ls z) z) (fulls ls zs) x, one_occurs (label ls z) z x, fulls_occurs ls zs x)

fulls_some : (ls : List Label) (zs : List ℕ) (x : ℕ) → 1 ≤ occurs (fulls ls zs) x → label ls x ≢ Empty
unfolding fulls
fulls_some ls [] x o = absurd (omega arith)
fulls_some ls (z ∷ zs) x o = elim (cases_lt 0 (occurs (full_list (label ls z) z) x)) [
  | inl l ↦ elim (cases_eq x z) [
    | inl e ↦ subst (λ v. label ls v ≢ Empty) (sym e) (one_none (label ls z) z x l)
    | inr ne ↦ absurd (let n : occurs (z ∷ []) x ≡ 0 = occurs_other z x [] ne in omega (arith, one_occurs (label ls z) z x))
  ]
  | inr l ↦ fulls_some ls zs x (omega (arith, occurs-append (full_list (label ls z) z) (fulls ls zs) x))
]

-- the full ones of the chains of these nodes
joined : Climber → List Label → List ℕ → List ℕ
joined w ls [] = []
joined w ls (n ∷ ns) = fulls ls (below w n) ++ joined w ls ns

joined_some : (w : Climber) (ls : List Label) (ns : List ℕ) (x : ℕ) → 1 ≤ occurs (joined w ls ns) x → (n : ℕ) × (1 ≤ occurs (fulls ls (below w n)) x)
unfolding joined
joined_some w ls [] x o = absurd (omega arith)
joined_some w ls (n ∷ ns) x o = elim (cases_lt 0 (occurs (fulls ls (below w n)) x)) [
  | inl l ↦ (n, l)
  | inr l ↦ joined_some w ls ns x (omega (arith, occurs-append (fulls ls (below w n)) (joined w ls ns) x))
]

-- a node stands in no other chain than that of the node above it
joined_at : (f : Layout) (row : List ℕ) (w : Climber) (c : Chains) (ls : List Label) (ns : List ℕ) (x m : ℕ) → Ground f row w c → 1 ≤ occurs (below w m) x → occurs (joined w ls ns) x ≤ occurs ns m
unfolding joined
joined_at f row w c ls [] x m g o = omega arith
joined_at f row w c ls (n ∷ ns) x m g o =
    let r : occurs (joined w ls ns) x ≤ occurs ns m = joined_at f row w c ls ns x m g o in
    let a : occurs (fulls ls (below w n)) x ≤ occurs (below w n) x = fulls_occurs ls (below w n) x in
    elim (cases_eq m n) [
      | inl e ↦ let b : occurs (below w n) x ≤ 1 = g.once n x in
          let k : occurs (n ∷ ns) m ≡ 1 + occurs ns m = subst (λ v. occurs (v ∷ ns) m ≡ 1 + occurs ns m) e (occurs_same m ns) in
          omega (arith, occurs-append (fulls ls (below w n)) (joined w ls ns) x)
      | inr ne ↦ let k : occurs (n ∷ ns) m ≡ occurs ns m = occurs_other n m ns ne in
          elim (cases_lt 0 (occurs (below w n) x)) [
            | inl on ↦ absurd (let p = g.only n x on in let q = g.only m x o in ne (sym q.2 ∙ ap (λ (v : NodeId). v.index) (same q.0 p.0 (sym q.1 ∙ p.1)) ∙ p.2))
            | inr off ↦ omega (arith, occurs-append (fulls ls (below w n)) (joined w ls ns) x)
          ]
    ]
  where
    same : (a b : NodeId) → Placed a ≡ Placed b → a ≡ b
    same a b e = cc

joined_length : (f : Layout) (w : Climber) (ls : Labels) (ns : List ℕ) → ((n : ℕ) → 1 ≤ occurs ns n → number ls.full.items n ≡ sum_by (λ z. full_one (label ls.labels.items z)) (below w n)) →
    sum_by (λ x. number ls.full.items x) ns ≡ length (joined w ls.labels.items ns)
unfolding joined
joined_length f w ls [] h = refl
joined_length f w ls (n ∷ ns) h =
    let a : number ls.full.items n ≡ sum_by (λ z. full_one (label ls.labels.items z)) (below w n) = h n (occurs_here n ns) in
    let r : sum_by (λ x. number ls.full.items x) ns ≡ length (joined w ls.labels.items ns) = joined_length f w ls ns (λ x o. h x (omega arith)) in
    omega (arith, sum_by-cons (λ x. number ls.full.items x) n ns, length-append (fulls ls.labels.items (below w n)) (joined w ls.labels.items ns), fulls_length ls.labels.items (below w n))

-- the full children of the labelled nodes are no more than these nodes
pub full_sum : (f : Layout) (row : List ℕ) (w : Climber) (c : Chains) (ls : Labels) → IsLayout f → Ground f row w c → Swept f row w ls ls.len → fulls_before ls ls.len ≤ ls.len
full_sum f row w c ls h g s =
    let nodes : List ℕ = indices (take ls.len ls.nodes.items) in
    let sum_is : sum_by (λ x. number ls.full.items x) nodes ≡ length (joined w ls.labels.items nodes) = joined_length f w ls nodes (λ n o.
    let t = turn_of ls.nodes.items ls.len n s.fits o in s.fulls n (subst (λ v. IsPertinent f w v) t.2 (s.pertinent t.0 t.1))) in
    let few : length (joined w ls.labels.items nodes) ≤ length nodes = shorter (joined w ls.labels.items nodes) nodes (λ x. elim (cases_lt 0 (occurs (joined w ls.labels.items nodes) x)) [
      | inr l ↦ omega arith
      | inl l ↦ let n = joined_some w ls.labels.items nodes x l in
          let p : Place ls ls.len x = s.only x (fulls_some ls.labels.items (below w n.0) x n.1) in
          let here : 1 ≤ occurs nodes x = subst (λ v. 1 ≤ occurs nodes v) p.is (turn_in ls.nodes.items ls.len p.i s.fits p.lt) in
          let in_chain : 1 ≤ occurs (below w n.0) x = omega (arith, fulls_occurs ls.labels.items (below w n.0) x, n.1) in
          let one : occurs nodes n.0 ≤ 1 = places_once ls.nodes.items ls.len s.apart s.fits ls.len n.0 (omega arith) in
          omega (arith, joined_at f row w c ls.labels.items nodes x n.0 g in_chain)
    ]) in
    let e : length nodes ≡ ls.len = exactly ls.nodes.items ls.len s.fits in
    omega arith

pub sweep_first : (f : Layout) (row : List ℕ) (w : Climber) (ls : Labels) (s : ℕ) → Swept f row w ls 0 → IsQuiet w ls → Sweeping f row w ls 0 s s
sweep_first f row w ls s sw q = record { swept = sw; quiet = q; ticks = omega arith }

one_more : (ls : Labels) (n : ℕ) → n < length ls.nodes.items → fulls_before ls (n + 1) ≡ fulls_before ls n + number ls.full.items (at ls.nodes.items n)
one_more ls n l =
    let g : ℕ → ℕ = λ x. number ls.full.items x in
    let one : sum_by g (at ls.nodes.items n ∷ []) ≡ number ls.full.items (at ls.nodes.items n) = omega (arith, sum_by-cons g (at ls.nodes.items n) []) in
    ap (λ z. sum_by g z) (turns_more ls.nodes.items n l) ∙ sum_by-append g (indices (take n ls.nodes.items)) (at ls.nodes.items n ∷ []) ∙ ap (λ z. fulls_before ls n + z) one

-- the sum over the first nodes stays with them
sum_same : (w : Climber) (a b : Labels) (n : ℕ) → SameBefore w a b n → n ≤ length a.nodes.items → n ≤ length b.nodes.items → fulls_before b n ≡ fulls_before a n
sum_same w a b zero s la lb = refl
sum_same w a b (suc n) s la lb =
    let k : suc n ≡ n + 1 = omega arith in
    let r : fulls_before b n ≡ fulls_before a n = sum_same w a b n (record { nodes = λ i l. s.nodes i (omega arith); fulls = λ i l. s.fulls i (omega arith); rest = s.rest }) (omega arith) (omega arith) in
    let e : number b.full.items (at b.nodes.items n) ≡ number a.full.items (at a.nodes.items n) = ap (λ v. number b.full.items v) (s.nodes n (omega arith)) ∙ s.fulls n (omega arith) in
    subst (λ m. fulls_before b m ≡ fulls_before a m) (sym k) (omega (arith, one_more b n (omega arith), one_more a n (omega arith)))

pub sweep_more : (f : Layout) (row : List ℕ) (w : Climber) (a b : Labels) (x : NodeId) (done s0 s s' : ℕ) → Sweeping f row w a done s0 s → done < a.len → x.index ≡ at a.nodes.items done →
    s' ≤ s + number a.full.items x.index + 2 → Swept f row w b (done + 1) → SameBefore w a b (done + 1) → Sweeping f row w b (done + 1) s0 s'
sweep_more f row w a b x done s0 s s' sw lt e t new same =
    let la : a.len ≤ length a.nodes.items = sw.swept.fits in
    let lb : b.len ≤ length b.nodes.items = new.fits in
    let ob : done + 1 ≤ b.len = new.order in
    let i : number a.full.items x.index ≡ number a.full.items (at a.nodes.items done) = ap (λ v. number a.full.items v) e in
    let old : s ≤ s0 + 2 * done + fulls_before a done = sw.ticks in
    record { swept = new; quiet = record { fulls = λ y u. (same.rest y u).0 ∙ sw.quiet.fulls y u; partials = λ y u. (same.rest y u).1 ∙ sw.quiet.partials y u }; ticks = omega (arith, sum_same w a b (done + 1) same (omega arith) (omega arith), one_more a done (omega arith)) }

pub sweep_ticks : (f : Layout) (row : List ℕ) (w : Climber) (c : Chains) (ls : Labels) (done s0 s : ℕ) → IsLayout f → Ground f row w c → Sweeping f row w ls done s0 s → ls.len ≤ done → s ≤ s0 + 3 * ls.len
sweep_ticks f row w c ls done s0 s h g sw ge =
    let o : done ≤ ls.len = sw.swept.order in
    let e : done ≡ ls.len = omega arith in
    let t : s ≤ s0 + 2 * ls.len + fulls_before ls ls.len = subst (λ d. s ≤ s0 + 2 * d + fulls_before ls d) e sw.ticks in
    omega (arith, full_sum f row w c ls h g (subst (λ d. Swept f row w ls d) e sw.swept))

pub node_read : (f : Layout) (row : List ℕ) (w : Climber) (ls : Labels) (done : ℕ) (x : NodeId) → Swept f row w ls done → done < ls.len → x ≡ get_or ls.nodes.items done x → x.index ≡ at ls.nodes.items done
node_read f row w ls done x s lt e = let l : ls.len ≤ length ls.nodes.items = s.fits in ap (λ (n : NodeId). n.index) (get_or_read ls.nodes.items done x (omega arith) e no_id)

pub sweep_end : (f : Layout) (row : List ℕ) (w : Climber) (ls : Labels) (done : ℕ) → Swept f row w ls done → ls.len ≤ done → Swept f row w ls ls.len
sweep_end f row w ls done s ge = subst (λ d. Swept f row w ls d) (let o : done ≤ ls.len = s.order in let e : done ≡ ls.len = omega arith in e) s
