-- The chain of a node lists its full and its partial children.
use Rattle.std.proofs.Common.{◌≡◌, ◌≢◌, inl, inr, ℕ, ◌+◌, ◌*◌, ◌≤◌, ◌<◌, List, [], ◌∷◌, ◌++◌, length, Option, Some, None, refl, sym, ap, subst, ◌∙◌, arith, length-append}
use Rattle.std.proofs.lemmas.Bool.{cases_lt}
use Rattle.column_order.specs.Orders.{occurs}
use Rattle.column_order.proofs.Lists.{occurs-append}
use Rattle.arena_model.specs.Layout.{Layout, children_at, times_child, IsLayout}
use Rattle.arena_model.proofs.Lists.{occurs_here, occurs_other, few_once}
use Rattle.arena_model.proofs.Slots.{children_times, in_range}
use Rattle.pq_arena.specs.declared.node.NodeId.{NodeId}
use Rattle.bubble_pass.specs.declared.labels.Label.{Label as Mark}
use Rattle.bubble_pass.specs.declared.labels.Label.TheVariants.{Empty}
use Rattle.pq_arena.specs.RowNodes.{indices}
use Rattle.bubble_pass.specs.Marks.{Marks, label_at, fulls_at, partials_at, size_of, first_of, next_of, IsFollowed}
use Rattle.bubble_pass.specs.Pass.{IsRightAt}
use Rattle.template_model.specs.Standing.{IsReady}
use Rattle.templates_p.specs.Sorts.{full_nodes, empty_nodes, partial_nodes}
use Rattle.templates_p.specs.Steps.{HasChildWith, Searching}
use Rattle.templates_p.proofs.Framing.{same_length}
use Rattle.templates_p.proofs.Sorting.{all_sorted, fulls_length, partials_length, sorted_label, fulls, partials, sorted_none, empties, not_full_empty, not_empty_partial}

pub child_once : (f : Layout) (n k : ℕ) → IsLayout f → occurs (children_at f n) k ≤ 1
child_once f n k h = let a : occurs (children_at f n) k ≤ times_child f.slots k = children_times f n k in let b : times_child f.slots k ≤ 1 = h.once k in omega arith

pub in_room : (f : Layout) (w : Marks) (n k : ℕ) → IsLayout f → IsReady f w n → 1 ≤ occurs (children_at f n) k → k < size_of w
in_room f w n k h r o = let l : k < length f.slots = in_range f k (h.used k (let a : occurs (children_at f n) k ≤ times_child f.slots k = children_times f n k in omega arith)) in
    let e : size_of w ≡ length f.slots = r.room in omega arith

-- the chain has each full and each partial child once
pub chain_times : (f : Layout) (w : Marks) (n k : ℕ) → IsLayout f → (r : IsRightAt f w n) →
    occurs (indices r.chain) k ≡ occurs (full_nodes w (children_at f n)) k + occurs (partial_nodes w (children_at f n)) k
chain_times f w n k h r =
    let ks : List ℕ = children_at f n in
    let one : occurs (indices r.chain) k ≤ 1 = r.once k in
    let once : occurs ks k ≤ 1 = child_once f n k h in
    let all : occurs ks k ≡ occurs (full_nodes w ks) k + occurs (empty_nodes w ks) k + occurs (partial_nodes w ks) k = all_sorted w ks k in
    elim (cases_lt 0 (occurs (indices r.chain) k)) [
      | inl l ↦
          let c : 1 ≤ occurs ks k = r.child k l in
          let z : occurs (empty_nodes w ks) k ≡ 0 = sorted_none empties w ks k (r.labelled k l) in omega arith
      | inr l ↦
          let out : (label_at w k ≡ Empty → ⊥) → occurs ks k ≡ 0 = (λ ne. elim (cases_lt 0 (occurs ks k)) [
            | inl c ↦ absurd (let q : 1 ≤ occurs (indices r.chain) k = r.all k c ne in omega arith)
            | inr c ↦ omega arith
          ]) in
          let a : occurs (full_nodes w ks) k ≡ 0 = elim (cases_lt 0 (occurs (full_nodes w ks) k)) [
            | inl c ↦ let q : occurs ks k ≡ 0 = out (λ e. not_full_empty (label_at w k) (sorted_label fulls w ks k c) e) in omega arith
            | inr c ↦ omega arith
          ] in
          let b : occurs (partial_nodes w ks) k ≡ 0 = elim (cases_lt 0 (occurs (partial_nodes w ks) k)) [
            | inl c ↦ let q : occurs ks k ≡ 0 = out (λ e. not_empty_partial (label_at w k) e (sorted_label partials w ks k c)) in omega arith
            | inr c ↦ omega arith
          ] in omega arith
    ]

indices_length : (xs : List NodeId) → length (indices xs) ≡ length xs
indices_length [] = refl
indices_length (x ∷ xs) = omega (arith, indices_length xs)

pub chain_length : (f : Layout) (w : Marks) (n : ℕ) → IsLayout f → (r : IsRightAt f w n) → length r.chain ≡ fulls_at w n + partials_at w n
chain_length f w n h r =
    let ks : List ℕ = children_at f n in
    let a : length (full_nodes w ks ++ partial_nodes w ks) ≡ length (indices r.chain) = same_length (indices r.chain) (full_nodes w ks ++ partial_nodes w ks)
    (λ k. chain_times f w n k h r ∙ sym (occurs-append (full_nodes w ks) (partial_nodes w ks) k)) in
    let b : fulls_at w n ≡ length (full_nodes w ks) = r.full ∙ sym (fulls_length w ks) in
    let c : partials_at w n ≡ length (partial_nodes w ks) = r.partial ∙ sym (partials_length w ks) in
    omega (arith, length-append (full_nodes w ks) (partial_nodes w ks), indices_length r.chain)

-- there are no more of them than nodes
pub chain_few : (f : Layout) (w : Marks) (n : ℕ) → IsLayout f → (r : IsRightAt f w n) → fulls_at w n + partials_at w n ≤ 65540
chain_few f w n h r =
    let a : length (indices r.chain) ≤ length f.slots = few_once (indices r.chain) (length f.slots) r.once
    (λ x o. in_range f x (h.used x (let c : 1 ≤ occurs (children_at f n) x = r.child x o in let b : occurs (children_at f n) x ≤ times_child f.slots x = children_times f n x in omega arith))) in
    let b : length f.slots ≡ 2 * f.columns + 4 = h.size in let c : f.columns ≤ 32768 = h.few in
    omega (arith, chain_length f w n h r, indices_length r.chain)

pub search_start : (f : Layout) (w : Marks) (n : ℕ) (label : Mark) (skip left : ℕ) (next : Option NodeId) → IsLayout f → HasChildWith f w n label skip →
    left ≡ fulls_at w n + partials_at w n → next ≡ first_of w n → Searching f w n label skip left next
search_start f w n label skip left next h c e q =
    let r : IsRightAt f w n = c.ready.right in
    record {
      rest = r.chain;
      followed = subst (λ o. IsFollowed w o r.chain) (sym q) r.is;
      count = e ∙ sym (chain_length f w n h r);
      child = r.child;
      k = c.k;
      ahead = r.all c.k c.child (λ z. c.marked (sym c.labelled ∙ z));
      labelled = c.labelled;
      other = c.other;
    }

-- what the next of the chain is
pub data IsAhead (w : Marks) (next : Option NodeId) (rest : List NodeId) : Type 0 where
  ahead : (x : NodeId) (xs : List NodeId) → rest ≡ x ∷ xs → next ≡ Some x → IsFollowed w (next_of w x) xs → IsAhead w next rest

pub ahead_of : (w : Marks) (next : Option NodeId) (rest : List NodeId) → IsFollowed w next rest → 1 ≤ length rest → IsAhead w next rest
ahead_of w next [] i l = absurd (omega arith)
ahead_of w next (x ∷ xs) i l = ahead x xs refl i.0 i.1

pub never_none : (w : Marks) (rest : List NodeId) → IsFollowed w None rest → 1 ≤ length rest → ⊥
never_none w [] i l = omega arith
never_none w (x ∷ xs) i l = let e : None ≡ Some x = i.0 in cc

pub some_same : (x y : NodeId) → Some x ≡ Some y → x ≡ y
some_same x y e = cc

-- the child that is next, and what is known where it is not the one
pub searched_child : (f : Layout) (w : Marks) (n : ℕ) (label : Mark) (skip left : ℕ) (next : Option NodeId) (x : NodeId) →
    Searching f w n label skip left next → 1 ≤ left → next ≡ Some x → 1 ≤ occurs (children_at f n) x.index
searched_child f w n label skip left next x s l e = elim (ahead_of w next s.rest s.followed (let c : left ≡ length s.rest = s.count in omega arith)) [
  | ahead y ys q p i ↦ s.child x.index (subst (λ rs. 1 ≤ occurs (indices rs) x.index) (sym q)
      (subst (λ z. 1 ≤ occurs (indices (y ∷ ys)) z) (ap (λ t. t.index) (some_same y x (sym p ∙ e))) (occurs_here y.index (indices ys))))
]

pub search_on : (f : Layout) (w : Marks) (n : ℕ) (label : Mark) (skip left left' : ℕ) (next next' : Option NodeId) (x : NodeId) →
    Searching f w n label skip left next → 1 ≤ left → next ≡ Some x → left' + 1 ≡ left → next' ≡ next_of w x →
    ((label_at w x.index ≡ label) → (x.index ≢ skip) → ⊥) → Searching f w n label skip left' next'
search_on f w n label skip left left' next next' x s l e m q unlike = elim (ahead_of w next s.rest s.followed (let c : left ≡ length s.rest = s.count in omega arith)) [
  | ahead y ys r p i ↦
      let same : y ≡ x = some_same y x (sym p ∙ e) in
      let o : 1 ≤ occurs (y.index ∷ indices ys) s.k = subst (λ rs. 1 ≤ occurs (indices rs) s.k) r s.ahead in
      let ne : s.k ≢ y.index = (λ z. unlike (ap (label_at w) (ap (λ t. t.index) (sym same) ∙ sym z) ∙ s.labelled) (λ y'. s.other (z ∙ ap (λ t. t.index) same ∙ y'))) in
      record {
        rest = ys;
        followed = subst (λ o'. IsFollowed w o' ys) (ap (next_of w) same ∙ sym q) i;
        count = let c : left ≡ length s.rest = s.count in let d : length s.rest ≡ length (y ∷ ys) = ap length r in omega arith;
        child = λ k ok. s.child k (subst (λ rs. 1 ≤ occurs (indices rs) k) (sym r) (omega arith));
        k = s.k;
        ahead = subst (λ z. 1 ≤ z) (occurs_other y.index s.k (indices ys) ne) o;
        labelled = s.labelled;
        other = s.other;
      }
]

pub searching_some : (f : Layout) (w : Marks) (n : ℕ) (label : Mark) (skip left : ℕ) (next : Option NodeId) → Searching f w n label skip left next → 1 ≤ left → next ≡ None → ⊥
searching_some f w n label skip left next s l e = never_none w s.rest (subst (λ o. IsFollowed w o s.rest) e s.followed) (let c : left ≡ length s.rest = s.count in omega arith)

pub searching_on : (f : Layout) (w : Marks) (n : ℕ) (label : Mark) (skip left : ℕ) (next : Option NodeId) → Searching f w n label skip left next → left ≡ 0 → ⊥
searching_on f w n label skip left next s e = none s.rest s.ahead (let c : left ≡ length s.rest = s.count in omega arith)
  where
    none : (rs : List NodeId) → 1 ≤ occurs (indices rs) s.k → length rs ≡ 0 → ⊥
    none [] o z = omega arith
    none (r ∷ rs) o z = omega arith
