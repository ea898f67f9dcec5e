-- One part alone: what the row is.
use Rattle.std.proofs.Common.{Bool, List, Some, [], ap, arith, cond, false, inl, inr, length, refl, subst, sym, true, ℕ, ◌+◌, ◌<◌, ◌∙◌, ◌≡◌, ◌≤◌, ◌⊎◌}
use Rattle.std.proofs.lemmas.Bool.{cases_eq, cases_Bool}
use Rattle.arena_model.specs.declared.Shape.TheVariants.{P, Q}
use Rattle.arena_model.specs.Layout.{IsAtOrAbove, IsLayout, Layout, children_at, down, here, shape_at, times_child}
use Rattle.arena_model.proofs.Slots.{children_times, in_range, used_by}
use Rattle.arena_model.proofs.Paths.{above_step}
use Rattle.arena_model.proofs.Trees.{no_circle}
use Rattle.arena_model.specs.RowLeaves.{Meets}
use Rattle.full_pass.proofs.Shapes.{children_within}
use Rattle.full_pass.proofs.Closing.{has_part}
use Rattle.full_pass.specs.declared.entries.Entries.{Entries}
use Rattle.full_pass.specs.Entries.{chain_at, first, hits, next}
use Rattle.full_pass.specs.Tallies.{chained}
use Rattle.full_pass.proofs.Chained.{chained_length}
use Rattle.full_pass.specs.Answer.{AreLeaves, IsFilledPart, IsGroup, IsRowKept, one_node, one_run}
use Rattle.full_pass.specs.Passing.{Chains, HasPart, InFirst, InMore, InRing, InRun, Pass, marks, runs, total}
use Rattle.full_pass.proofs.Sums.{total_one, total_two}
use Rattle.full_pass.proofs.Marks.{OneRun, marks_some, marks_two, one_run_of, true_false}
use Rattle.column_order.specs.Orders.{occurs}

-- two nodes with a part are one
one_part : (f : Layout) (row : List ℕ) (l : ℕ → Bool) (h : ℕ → ℕ) (n : ℕ) → IsLayout f → Pass f row l h [] n → n ≤ 1 →
    (m m' : ℕ) → HasPart f l [] m → HasPart f l [] m' → m ≡ m'
one_part f row l h n layout p le m m' a b = elim (cases_eq m m') [
  | inl e ↦ e
  | inr ne ↦
      let ra = has_part f row l h [] n layout p m a in
      let rb = has_part f row l h [] n layout p m' b in
      let a1 : 1 ≤ p.parts m = ra.0 in let b1 : 1 ≤ p.parts m' = rb.0 in
      let s : length {A = ℕ} [] + total p.parts (length f.slots) ≤ n = p.sum in
      let t : p.parts m + p.parts m' ≤ total p.parts (length f.slots) = total_two p.parts m m' (length f.slots) ne ra.1 rb.1 in
      absurd (omega arith)
]

-- a node with a part, at or below a, above x by a labelled child
pub record Topmost (f : Layout) (l : ℕ → Bool) (a x : ℕ) : Type 0 where
  pub m : ℕ
  pub above : IsAtOrAbove f.slots a m
  pub part : HasPart f l [] m
  pub leads : IsAtOrAbove f.slots part.child x

topmost : (f : Layout) (l : ℕ → Bool) (a x : ℕ) → IsAtOrAbove f.slots a x → l x ≡ true → (l a ≡ true) ⊎ Topmost f l a x
topmost f l _ _ (here a) t = inl t
topmost f l _ _ (down a k x o way) t = elim (topmost f l k x way t) [
  | inl lk ↦ elim (cases_Bool (l a)) [
    | inl la ↦ inl la
    | inr la ↦ inr (record { m = a; above = here a; part = record { not_full = la; not_waiting = refl; child = k; is_child = o; labelled = lk }; leads = way })
  ]
  | inr u ↦ inr (record { m = u.m; above = down a k u.m o u.above; part = u.part; leads = u.leads })
]

-- where nothing waits, each leaf of the row is labelled
pub row_labelled : (f : Layout) (row : List ℕ) (l : ℕ → Bool) (h : ℕ → ℕ) (n x : ℕ) → Pass f row l h [] n → 1 ≤ occurs row x → l x ≡ true
row_labelled f row l h n x p o = elim (p.labels.leaves x o) [ inl t ↦ t | inr w ↦ absurd (omega arith) ]

-- and below a labelled child of a node with a part
pub row_topmost : (f : Layout) (row : List ℕ) (l : ℕ → Bool) (h : ℕ → ℕ) (n x : ℕ) → AreLeaves f row → Pass f row l h [] n → 1 ≤ occurs row x → Topmost f l f.root x
row_topmost f row l h n x r p o = elim (topmost f l f.root x (r.below x o) (row_labelled f row l h n x p o)) [
  | inl root ↦ absurd (true_false (l f.root) root p.labels.root)
  | inr u ↦ u
]

-- no node at or below a child of p has a part
abbrev pub NoneBelow : Layout → (ℕ → Bool) → ℕ → Type 0
NoneBelow f l p = (m k : ℕ) → HasPart f l [] m → 1 ≤ occurs (children_at f p) k → IsAtOrAbove f.slots k m → ⊥

-- so it is where only p and a node above it have parts
pub none_below_part : (f : Layout) (l : ℕ → Bool) (p : ℕ) → IsLayout f → ((m : ℕ) → HasPart f l [] m → (m ≡ p) ⊎ (1 ≤ occurs (children_at f m) p)) → NoneBelow f l p
none_below_part f l p layout only = λ m k part o way. no_circle f.slots p k (layout.grounds p) o (elim (only m part) [
  | inl e ↦ subst (λ z. IsAtOrAbove f.slots k z) e way
  | inr c ↦ above_step f.slots k m p way c
])

-- then a child of p is labelled where a leaf of the row is at or below it
met_labelled : (f : Layout) (row : List ℕ) (l : ℕ → Bool) (h : ℕ → ℕ) (n p k : ℕ) → IsLayout f → Pass f row l h [] n →
    NoneBelow f l p → 1 ≤ occurs (children_at f p) k → Meets f row k → l k ≡ true
met_labelled f row l h n p k layout pass none o met = elim (topmost f l k met.0 met.2 (row_labelled f row l h n met.0 pass met.1)) [
  | inl t ↦ t
  | inr u ↦ absurd (none u.m k u.part o u.above)
]

-- x is below a labelled child of m
record Under (f : Layout) (l : ℕ → Bool) (m x : ℕ) : Type 0 where
  k : ℕ
  is_child : 1 ≤ occurs (children_at f m) k
  labelled : l k ≡ true
  leads : IsAtOrAbove f.slots k x

under : (f : Layout) (row : List ℕ) (l : ℕ → Bool) (h : ℕ → ℕ) (n m : ℕ) → IsLayout f → AreLeaves f row → Pass f row l h [] n → n ≤ 1 →
    HasPart f l [] m → (x : ℕ) → 1 ≤ occurs row x → Under f l m x
under f row l h n m layout r p le part x o =
    let u = row_topmost f row l h n x r p o in
    let e : u.m ≡ m = one_part f row l h n layout p le u.m m u.part part in
    record { k = u.part.child; is_child = subst (λ z. 1 ≤ occurs (children_at f z) u.part.child) e u.part.is_child; labelled = u.part.labelled; leads = u.leads }

pub end_run : (f : Layout) (row : List ℕ) (l : ℕ → Bool) (h : ℕ → ℕ) (n : ℕ) → IsLayout f → AreLeaves f row → Pass f row l h [] n → n ≤ 1 →
    InRun f l [] → IsRowKept f row
end_run f row l h n layout r p le run =
    let q : ℕ = run.q in
    let s : length {A = ℕ} [] + total p.parts (length f.slots) ≤ n = p.sum in
    let one : p.parts q ≤ total p.parts (length f.slots) = total_one p.parts q (length f.slots) (in_range f q (used_by f q Q run.is_q)) in
    let few : runs l false (children_at f q) ≤ p.parts q = p.q_parts q run.is_q run.part.not_full run.part.not_waiting in
    let w : OneRun l (children_at f q) = one_run_of l (children_at f q) (omega arith) in
    one_run q w.us w.rs w.vs run.is_q w.is (record {
      filled = λ k o. p.labels.filled k (w.inside k o);
      covers = λ x o. let u = under f row l h n q layout r p le run.part x o in (u.k, w.all u.k u.is_child u.labelled, u.leads);
    })

pub end_first : (f : Layout) (row : List ℕ) (l : ℕ → Bool) (h : ℕ → ℕ) (n : ℕ) → IsLayout f → AreLeaves f row → Pass f row l h [] n → n ≤ 1 →
    InFirst f l [] → IsRowKept f row
end_first f row l h n layout r p le first =
    let part : HasPart f l [] first.p = first.ring.part in
    one_node part.child (p.labels.filled part.child part.labelled) (λ x o.
    let u = under f row l h n first.p layout r p le part x o in
    elim (cases_eq u.k part.child) [
      | inl e ↦ subst (λ z. IsAtOrAbove f.slots z x) e u.leads
      | inr ne ↦ absurd (
          let two : 2 ≤ marks l (children_at f first.p) = marks_two l (children_at f first.p) u.k part.child u.labelled part.labelled ne u.is_child part.is_child in
          let one : marks l (children_at f first.p) ≡ 1 = first.one in omega arith)
    ])

-- the members are the labelled children of p
pub record AreMarked (f : Layout) (l : ℕ → Bool) (h : ℕ → ℕ) (p : ℕ) (members : List ℕ) : Type 0 where
  pub long : length members ≡ h p
  pub are : (k : ℕ) → occurs members k ≡ cond (l k) (occurs (children_at f p) k) 0

-- so are those of its chain
pub chain_marked : (f : Layout) (l : ℕ → Bool) (h first next : ℕ → ℕ) (p : ℕ) → shape_at f p ≡ Some P → Chains f l h first next → AreMarked f l h p (chained (h p) next (first p))
chain_marked f l h first next p sp chains = record { long = chained_length (h p) next (first p); are = λ k. chains p k sp }

pub marked_member : (f : Layout) (l : ℕ → Bool) (h : ℕ → ℕ) (p k : ℕ) (members : List ℕ) → AreMarked f l h p members → l k ≡ true → 1 ≤ occurs (children_at f p) k → 1 ≤ occurs members k
marked_member f l h p k members marked t o = subst (λ z. 1 ≤ z) (sym (marked.are k ∙ ap (λ b. cond b (occurs (children_at f p) k) 0) t)) o

member_marked : (f : Layout) (l : ℕ → Bool) (h : ℕ → ℕ) (p k : ℕ) (members : List ℕ) → AreMarked f l h p members → 1 ≤ occurs members k → (l k ≡ true) × (1 ≤ occurs (children_at f p) k)
member_marked f l h p k members marked o = chosen (l k) (occurs (children_at f p) k) (subst (λ z. 1 ≤ z) (marked.are k) o)
  where
    chosen : (b : Bool) (n : ℕ) → 1 ≤ cond {A = ℕ} b n 0 → (b ≡ true) × (1 ≤ n)
    chosen true n o = (refl, o)
    chosen false n o = absurd (omega arith)

members_once : (f : Layout) (l : ℕ → Bool) (h : ℕ → ℕ) (p k : ℕ) (members : List ℕ) → IsLayout f → AreMarked f l h p members → occurs members k ≤ 1
members_once f l h p k members layout marked =
    let a : occurs members k ≤ occurs (children_at f p) k = subst (λ z. z ≤ occurs (children_at f p) k) (sym (marked.are k)) (at_most (l k) (occurs (children_at f p) k)) in
    let b : occurs (children_at f p) k ≤ times_child f.slots k = children_times f p k in
    let c : times_child f.slots k ≤ 1 = layout.once k in omega arith
  where
    at_most : (b : Bool) (n : ℕ) → cond {A = ℕ} b n 0 ≤ n
    at_most true n = omega arith
    at_most false n = omega arith

-- they are a filled part of p where no node below it has a part
pub filled_part : (f : Layout) (row : List ℕ) (l : ℕ → Bool) (h : ℕ → ℕ) (n p : ℕ) (members : List ℕ) → IsLayout f → Pass f row l h [] n →
    InRing f l [] p → marks l (children_at f p) < length (children_at f p) → AreMarked f l h p members →
    NoneBelow f l p → IsFilledPart f row p members
filled_part f row l h n p members layout pass ring few marked none =
    let count : h p ≡ marks l (children_at f p) = pass.counts p ring.is_p in
    let long : length members ≡ h p = marked.long in
    record {
      is_p = ring.is_p;
      once = λ k. members_once f l h p k members layout marked;
      child = λ k o. (member_marked f l h p k members marked o).1;
      some = let t : 1 ≤ marks l (children_at f p) = marks_some l (children_at f p) ring.part.child ring.part.labelled ring.part.is_child in omega arith;
      not_all = omega arith;
      filled = λ k o. pass.labels.filled k (member_marked f l h p k members marked o).0;
      others = λ k o met. marked_member f l h p k members marked (met_labelled f row l h n p k layout pass none o met) o;
    }

-- the chain of the P-node p has its labelled children
pub end_more : (f : Layout) (row : List ℕ) (l : ℕ → Bool) (h : ℕ → ℕ) (n p : ℕ) (members : List ℕ) → IsLayout f → AreLeaves f row → Pass f row l h [] n → n ≤ 1 →
    InMore f l [] p → AreMarked f l h p members → IsGroup f row p members
end_more f row l h n p members layout r pass le more marked =
    let count : h p ≡ marks l (children_at f p) = pass.counts p more.ring.is_p in
    let long : length members ≡ h p = marked.long in
    let filled : IsFilledPart f row p members = filled_part f row l h n p members layout pass more.ring more.not_all marked
    (none_below_part f l p layout (λ m part. inl (one_part f row l h n layout pass le m p part more.ring.part))) in
    record {
      is_p = filled.is_p;
      once = filled.once;
      child = filled.child;
      below = record {
        filled = filled.filled;
        covers = λ x o. let u = under f row l h n p layout r pass le more.ring.part x o in
            (u.k, marked_member f l h p u.k members marked u.labelled u.is_child, u.leads);
      };
      others = filled.others;
      two = let t : 2 ≤ marks l (children_at f p) = more.two in omega arith;
      not_all = filled.not_all;
    }

-- not all children of a P-node are no more than there are nodes
pub chain_few : (f : Layout) (w : Entries) (p : ℕ) → IsLayout f → length (chain_at w p) < length (children_at f p) → hits w p ≤ length f.slots
chain_few f w p layout not_all =
    let a : length (chain_at w p) ≡ hits w p = chained_length (hits w p) (next w) (first w p) in
    let c : length (children_at f p) ≤ length f.slots = children_within f p layout in
    omega arith

-- each child has a place
pub child_within : (f : Layout) (p k : ℕ) → IsLayout f → 1 ≤ occurs (children_at f p) k → k < length f.slots
child_within f p k layout o =
    let b : occurs (children_at f p) k ≤ times_child f.slots k = children_times f p k in
    in_range f k (layout.used k (omega arith))
