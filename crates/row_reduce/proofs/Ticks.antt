-- The labelled nodes have no more labelled children than there are labelled nodes.
use Rattle.std.proofs.Common.{◌≡◌, ◌≢◌, ◌⊎◌, inl, inr, ℕ, ◌+◌, ◌*◌, ◌≤◌, List, [], ◌∷◌, ◌++◌, length, sum_by, refl, sym, subst, arith}
use Rattle.std.proofs.lemmas.Bool.{cases_eq, cases_lt}
use Rattle.std.proofs.lemmas.List.{length-append}
use Rattle.std.proofs.lemmas.List.Sums.{sum_by-cons}
use Rattle.column_order.specs.Orders.{occurs}
use Rattle.column_order.proofs.Lists.{occurs-append}
use Rattle.arena_model.specs.Layout.{Layout, children_at, times_child, IsLayout, IsAtOrAbove}
use Rattle.arena_model.proofs.Lists.{occurs_here, occurs_same, occurs_other, shorter}
use Rattle.arena_model.proofs.Slots.{children_times}
use Rattle.arena_model.proofs.Paths.{one_parent}
use Rattle.pq_arena.specs.RowNodes.{column_leaves}
use Rattle.bubble_pass.specs.Fair.{AtMost}
use Rattle.bubble_pass.specs.declared.labels.Label.{Label as Mark}
use Rattle.bubble_pass.specs.declared.labels.Label.TheVariants.{Empty, Partial, Full}
use Rattle.bubble_pass.specs.Marks.{Marks, label_at, fulls_at, partials_at}
use Rattle.bubble_pass.specs.Pass.{IsRightAt}
use Rattle.bubble_pass.specs.Sweep.{full_one, partial_one, IsRight}
use Rattle.row_reduce.specs.Ground.{IsGround}
use Rattle.templates_q.specs.Span.{labelled_in}
use Rattle.row_reduce.specs.Decided.{labelled_at}
use Rattle.row_reduce.proofs.Answering.{meets_row}
use Rattle.row_reduce.proofs.Grounds.{labelled_below}
use Rattle.template_model.proofs.Replaced.{below_used}

-- k before ks where it is labelled
keep : Mark → ℕ → List ℕ → List ℕ
keep Empty k ks = ks
keep Partial k ks = k ∷ ks
keep Full k ks = k ∷ ks

-- the labelled ones of the nodes
labelled_of : Marks → List ℕ → List ℕ
labelled_of v [] = []
labelled_of v (k ∷ ks) = keep (label_at v k) k (labelled_of v ks)

keep_length : (m : Mark) (k : ℕ) (ks : List ℕ) → length (keep m k ks) ≡ full_one m + partial_one m + length ks
unfolding keep
keep_length Empty k ks = omega arith
keep_length Partial k ks = omega arith
keep_length Full k ks = omega arith

keep_less : (m : Mark) (k : ℕ) (ks js : List ℕ) (z : ℕ) → occurs ks z ≤ occurs js z → occurs (keep m k ks) z ≤ occurs (k ∷ js) z
unfolding keep
keep_less Empty k ks js z l = omega arith
keep_less Partial k ks js z l = omega arith
keep_less Full k ks js z l = omega arith

keep_labelled : (m : Mark) (k : ℕ) (ks : List ℕ) (z : ℕ) → 1 ≤ occurs (keep m k ks) z → ((z ≡ k) × (m ≢ Empty)) ⊎ (1 ≤ occurs ks z)
unfolding keep
keep_labelled Empty k ks z o = inr o
keep_labelled Partial k ks z o = elim (cases_eq z k) [ inl e ↦ inl (e, λ q. absurd (cc)) | inr ne ↦ inr (subst (λ w. 1 ≤ w) (occurs_other k z ks ne) o) ]
keep_labelled Full k ks z o = elim (cases_eq z k) [ inl e ↦ inl (e, λ q. absurd (cc)) | inr ne ↦ inr (subst (λ w. 1 ≤ w) (occurs_other k z ks ne) o) ]

labelled_length : (v : Marks) (ks : List ℕ) → length (labelled_of v ks) ≡ sum_by (λ k. full_one (label_at v k)) ks + sum_by (λ k. partial_one (label_at v k)) ks
unfolding labelled_of
labelled_length v [] = refl
labelled_length v (k ∷ ks) =
    omega (arith, keep_length (label_at v k) k (labelled_of v ks), labelled_length v ks, sum_by-cons (λ k. full_one (label_at v k)) k ks, sum_by-cons (λ k. partial_one (label_at v k)) k ks)

labelled_less : (v : Marks) (ks : List ℕ) (z : ℕ) → occurs (labelled_of v ks) z ≤ occurs ks z
unfolding labelled_of
labelled_less v [] z = omega arith
labelled_less v (k ∷ ks) z = keep_less (label_at v k) k (labelled_of v ks) ks z (labelled_less v ks z)

labelled_has : (v : Marks) (ks : List ℕ) (z : ℕ) → 1 ≤ occurs (labelled_of v ks) z → label_at v z ≢ Empty
unfolding labelled_of
labelled_has v [] z o = absurd (omega arith)
labelled_has v (k ∷ ks) z o = elim (keep_labelled (label_at v k) k (labelled_of v ks) z o) [
  | inl e ↦ subst (λ w. label_at v w ≢ Empty) (sym e.0) e.1
  | inr o' ↦ labelled_has v ks z o'
]

-- the labelled children of the nodes, one after another
all_labelled : Layout → Marks → List ℕ → List ℕ
all_labelled f v [] = []
all_labelled f v (n ∷ ns) = labelled_of v (children_at f n) ++ all_labelled f v ns

all_has : (f : Layout) (v : Marks) (ns : List ℕ) (z : ℕ) → 1 ≤ occurs (all_labelled f v ns) z → (n : ℕ) × (1 ≤ occurs ns n) × (1 ≤ occurs (labelled_of v (children_at f n)) z)
unfolding all_labelled
all_has f v [] z o = absurd (omega arith)
all_has f v (n ∷ ns) z o = elim (cases_lt 0 (occurs (labelled_of v (children_at f n)) z)) [
  | inl l ↦ (n, occurs_here n ns, l)
  | inr l ↦ let r = all_has f v ns z (omega (arith, occurs-append (labelled_of v (children_at f n)) (all_labelled f v ns) z)) in
      let i : 1 ≤ occurs ns r.0 = r.1 in (r.0, omega arith, r.2)
]

all_once : (f : Layout) (v : Marks) (ns : List ℕ) → IsLayout f → ((x : ℕ) → occurs ns x ≤ 1) → (z : ℕ) → occurs (all_labelled f v ns) z ≤ 1
unfolding all_labelled
all_once f v [] h once z = omega arith
all_once f v (n ∷ ns) h once z =
    let r : occurs (all_labelled f v ns) z ≤ 1 = all_once f v ns h (λ x. let o : occurs (n ∷ ns) x ≤ 1 = once x in omega arith) z in
    let a : occurs (children_at f n) z ≤ times_child f.slots z = children_times f n z in
    let b : times_child f.slots z ≤ 1 = h.once z in
    let l : occurs (labelled_of v (children_at f n)) z ≤ occurs (children_at f n) z = labelled_less v (children_at f n) z in
    elim (cases_lt 0 (occurs (labelled_of v (children_at f n)) z)) [
      | inr none ↦ omega (arith, occurs-append (labelled_of v (children_at f n)) (all_labelled f v ns) z)
      | inl one ↦ elim (cases_lt 0 (occurs (all_labelled f v ns) z)) [
        | inr none ↦ omega (arith, occurs-append (labelled_of v (children_at f n)) (all_labelled f v ns) z)
        | inl two ↦ absurd (
            let m = all_has f v ns z two in
            let i : 1 ≤ occurs ns m.0 = m.1 in
            let lm : occurs (labelled_of v (children_at f m.0)) z ≤ occurs (children_at f m.0) z = labelled_less v (children_at f m.0) z in
            let im : 1 ≤ occurs (labelled_of v (children_at f m.0)) z = m.2 in
            let e : n ≡ m.0 = one_parent f n m.0 z h (omega arith) (omega arith) in
            let o : occurs (n ∷ ns) n ≤ 1 = once n in
            let i' : 1 ≤ occurs ns n = subst (λ w. 1 ≤ occurs ns w) (sym e) i in
            omega (arith, occurs_same n ns))
      ]
    ]

all_length : (f : Layout) (v : Marks) (ns : List ℕ) → ((n : ℕ) → 1 ≤ occurs ns n → IsRightAt f v n) → length (all_labelled f v ns) ≡ sum_by (λ n. labelled_at v n) ns
unfolding all_labelled
all_length f v [] right = refl
all_length f v (n ∷ ns) right =
    let r : IsRightAt f v n = right n (occurs_here n ns) in
    let a : fulls_at v n ≡ sum_by (λ k. full_one (label_at v k)) (children_at f n) = r.full in
    let b : partials_at v n ≡ sum_by (λ k. partial_one (label_at v k)) (children_at f n) = r.partial in
    omega (arith, length-append (labelled_of v (children_at f n)) (all_labelled f v ns), labelled_length v (children_at f n), all_length f v ns (λ x o. right x (omega arith)), sum_by-cons (λ n. labelled_at v n) n ns)

-- each of the labelled children is a labelled node, so they are no more
all_few : (f : Layout) (v : Marks) (row : List ℕ) (q : ℕ) (ns : List ℕ) → IsGround f v row q → ((x : ℕ) → occurs ns x ≤ 1) → length (all_labelled f v ns) ≤ length v.nodes
all_few f v row q ns s once = shorter (all_labelled f v ns) v.nodes (λ z. elim (cases_lt 0 (occurs (all_labelled f v ns) z)) [
  | inr none ↦ omega arith
  | inl some ↦
      let m = all_has f v ns z some in
      let i : 1 ≤ occurs v.nodes z = s.marked.all z (labelled_has v (children_at f m.0) z m.2) in
      omega (arith, all_once f v ns s.layout once z)
])

-- the labelled children of all labelled nodes are no more than these
pub children_few : {f : Layout} {v : Marks} {row : List ℕ} {q : ℕ} → IsGround f v row q → sum_by (λ n. labelled_at v n) v.nodes ≤ length v.nodes
children_few {f = f} {v = v} {row = row} {q = q} s =
    let l : length (all_labelled f v v.nodes) ≡ sum_by (λ n. labelled_at v n) v.nodes = all_length f v v.nodes (λ n o. s.marked.chains n (s.marked.listed n o)) in
    omega (arith, all_few f v row q v.nodes s s.marked.once)

with_first : (f : Layout) (v : Marks) (n : ℕ) (ns : List ℕ) → length (all_labelled f v (n ∷ ns)) ≡ length (labelled_of v (children_at f n)) + length (all_labelled f v ns)
unfolding all_labelled
with_first f v n ns = length-append (labelled_of v (children_at f n)) (all_labelled f v ns)

-- so it is with those of q, where q has no label
pub children_few_inside : {f : Layout} {v : Marks} {row : List ℕ} {q : ℕ} → IsGround f v row q → label_at v q ≡ Empty →
    labelled_in v (children_at f q) + sum_by (λ n. labelled_at v n) v.nodes ≤ length v.nodes
children_few_inside {f = f} {v = v} {row = row} {q = q} s e =
    let l : length (all_labelled f v v.nodes) ≡ sum_by (λ n. labelled_at v n) v.nodes = all_length f v v.nodes (λ n o. s.marked.chains n (s.marked.listed n o)) in
    let all : length (all_labelled f v (q ∷ v.nodes)) ≡ length (labelled_of v (children_at f q)) + length (all_labelled f v v.nodes) = with_first f v q v.nodes in
    let few : length (all_labelled f v (q ∷ v.nodes)) ≤ length v.nodes = all_few f v row q (q ∷ v.nodes) s (λ x. elim (cases_eq x q) [
      | inl i ↦ let none : occurs v.nodes q ≡ 0 = elim (cases_lt 0 (occurs v.nodes q)) [ inl o ↦ absurd (s.marked.listed q o e) | inr o ↦ omega arith ] in
          subst (λ z. occurs (q ∷ v.nodes) z ≤ 1) (sym i) (omega (arith, occurs_same q v.nodes))
      | inr ne ↦ let o : occurs v.nodes x ≤ 1 = s.marked.once x in omega (arith, occurs_other q x v.nodes ne)
    ]) in
    omega (arith, labelled_length v (children_at f q))

-- where each label is right, the labelled nodes are no more than the nodes at and below q that meet the row
pub nodes_few : {f : Layout} {v : Marks} {row : List ℕ} {q : ℕ} (a : ℕ) → IsGround f v row q → ((n : ℕ) → label_at v n ≢ Empty → IsRight f (column_leaves row) n (label_at v n)) → AtMost f (column_leaves row) q a → length v.nodes ≤ a
nodes_few {f = f} {v = v} {row = row} {q = q} a s right most = most v.nodes s.marked.once (λ x o.
    let some : label_at v x ≢ Empty = s.marked.listed x o in
    let l : IsAtOrAbove f.slots q x = labelled_below s x some in
    let m = meets_row f (column_leaves row) x (label_at v x) s.layout s.two (below_used f q x s.layout s.used l) (right x some) some in
    ((m.0, m.2, m.1), l))

asked : (v : Marks) (ns : List ℕ) → sum_by (λ x. 7 * (labelled_at v x + 1)) ns ≡ 7 * (sum_by (λ n. labelled_at v n) ns + length ns)
asked v [] = refl
asked v (n ∷ ns) = omega (arith, asked v ns, sum_by-cons (λ x. 7 * (labelled_at v x + 1)) n ns, sum_by-cons (λ n. labelled_at v n) n ns)

done : (v : Marks) (ns : List ℕ) → sum_by (λ x. 2 * labelled_at v x + 15) ns ≡ 2 * sum_by (λ n. labelled_at v n) ns + 15 * length ns
done v [] = refl
done v (n ∷ ns) = omega (arith, done v ns, sum_by-cons (λ x. 2 * labelled_at v x + 15) n ns, sum_by-cons (λ n. labelled_at v n) n ns)

-- so is the work on them: a look, at most six patterns, and a template
pub work_few : {f : Layout} {v : Marks} {row : List ℕ} {q : ℕ} → IsGround f v row q →
    sum_by (λ x. 7 * (labelled_at v x + 1)) v.nodes + sum_by (λ x. 2 * labelled_at v x + 15) v.nodes ≤ 31 * length v.nodes
work_few {v = v} s = omega (arith, asked v v.nodes, done v v.nodes, children_few s)

-- where q has no label, with the work at q
pub work_few_inside : {f : Layout} {v : Marks} {row : List ℕ} {q : ℕ} → IsGround f v row q → label_at v q ≡ Empty →
    sum_by (λ x. 7 * (labelled_at v x + 1)) v.nodes + sum_by (λ x. 2 * labelled_at v x + 15) v.nodes + 4 * labelled_in v (children_at f q) ≤ 31 * length v.nodes
work_few_inside {v = v} s e = omega (arith, asked v v.nodes, done v v.nodes, children_few_inside s e)

-- so is the work of choosing alone
pub decide_few : {f : Layout} {v : Marks} {row : List ℕ} {q : ℕ} → IsGround f v row q → (s0 s1 : ℕ) → s1 ≤ s0 + sum_by (λ x. 7 * (labelled_at v x + 1)) v.nodes → s1 ≤ s0 + 31 * length v.nodes
decide_few {v = v} s s0 s1 a = let few : sum_by (λ x. 7 * (labelled_at v x + 1)) v.nodes + sum_by (λ x. 2 * labelled_at v x + 15) v.nodes ≤ 31 * length v.nodes = work_few s in omega arith

-- with the question at q
pub asked_few : {f : Layout} {v : Marks} {row : List ℕ} {q : ℕ} → IsGround f v row q → label_at v q ≡ Empty → (s0 s1 s2 : ℕ) → s1 ≤ s0 + sum_by (λ x. 7 * (labelled_at v x + 1)) v.nodes →
    s2 ≤ s1 + 2 * labelled_in v (children_at f q) → s2 ≤ s0 + 31 * length v.nodes + 6
asked_few {f = f} {v = v} {q = q} s e s0 s1 s2 a b =
    let few : sum_by (λ x. 7 * (labelled_at v x + 1)) v.nodes + sum_by (λ x. 2 * labelled_at v x + 15) v.nodes + 4 * labelled_in v (children_at f q) ≤ 31 * length v.nodes = work_few_inside s e in
    omega arith
