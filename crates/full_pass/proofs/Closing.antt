-- A node all of whose children are labelled waits itself.
use Rattle.std.proofs.Common.{Bool, List, Some, arith, false, inl, inr, length, subst, sym, true, ℕ, ◌+◌, ◌<◌, ◌∷◌, ◌≡◌, ◌≢◌, ◌≤◌}
use Rattle.std.proofs.lemmas.Bool.{cases_eq}
use Rattle.column_order.specs.Orders.{occurs}
use Rattle.arena_model.specs.declared.Shape.TheVariants.{Leaf}
use Rattle.arena_model.specs.Layout.{IsInUse, IsLayout, Layout, children_at, shape_at}
use Rattle.arena_model.proofs.Lists.{occurs_here, occurs_other, occurs_same}
use Rattle.arena_model.proofs.Slots.{in_range, parent_used}
use Rattle.arena_model.proofs.Outlines.{first_step}
use Rattle.full_pass.specs.Answer.{IsFullNode}
use Rattle.full_pass.specs.Passing.{HasPart, Labelling, Pass, runs, total}
use Rattle.full_pass.proofs.Shapes.{has_children, leaf_children}
use Rattle.full_pass.proofs.Sums.{changed, changed_off, total_changed}
use Rattle.full_pass.proofs.Marks.{marks_some, runs_some}

-- a node with a part has at least one
pub has_part : (f : Layout) (row : List ℕ) (l : ℕ → Bool) (h : ℕ → ℕ) (waiting : List ℕ) (n : ℕ) → IsLayout f →
    (p : Pass f row l h waiting n) (m : ℕ) → HasPart f l waiting m → (1 ≤ p.parts m) × (m < length f.slots)
has_part f row l h waiting n layout p m part = (
  elim (has_children (shape_at f m) (children_at f m) part.child (layout.children_fit m) part.is_child) [
    | inl sh ↦ p.p_parts m sh part.not_full part.not_waiting (marks_some l (children_at f m) part.child part.labelled part.is_child)
    | inr sh ↦ let a : runs l false (children_at f m) ≤ p.parts m = p.q_parts m sh part.not_full part.not_waiting in
        let b : 1 ≤ runs l false (children_at f m) = runs_some l (children_at f m) part.child part.labelled part.is_child in omega arith
  ],
  in_range f m (parent_used f m part.child part.is_child layout),
)

-- the leaves below a node with a child are those below its children
inner_full : (f : Layout) (row : List ℕ) (m k : ℕ) → IsLayout f → 1 ≤ occurs (children_at f m) k → ((j : ℕ) → 1 ≤ occurs (children_at f m) j → IsFullNode f row j) → IsFullNode f row m
inner_full f row m k layout o all = λ x leaf way. elim (first_step f.slots m x way) [
  | inl e ↦ absurd (leaf_children (shape_at f m) (children_at f m) leaf.0 k (subst (λ z. shape_at f z ≡ Some (Leaf leaf.0)) e leaf.1) (layout.children_fit m) o)
  | inr s ↦ all s.0 s.1 x leaf s.2
]

-- such a node may wait, as no other node does
labels_closed : (f : Layout) (row : List ℕ) (l : ℕ → Bool) (m : ℕ) (waiting : List ℕ) → IsLayout f → Labelling f row l waiting → HasPart f l waiting m →
    ((k : ℕ) → 1 ≤ occurs (children_at f m) k → l k ≡ true) → Labelling f row l (m ∷ waiting)
labels_closed f row l m waiting layout was part all = record {
  leaves = λ y oy. elim (was.leaves y oy) [ inl a ↦ inl a | inr w ↦ inr (omega arith) ];
  filled = was.filled;
  fill = λ y w. elim (cases_eq y m) [
    | inl e ↦ subst (λ z. IsFullNode f row z) (sym e) (inner_full f row m part.child layout part.is_child (λ j o. was.filled j (all j o)))
    | inr ne ↦ was.fill y (old y ne w)
  ];
  once = λ y. elim (cases_eq y m) [
    | inl e ↦ subst (λ z. occurs (m ∷ waiting) z ≤ 1) (sym e) (let r : occurs waiting m ≡ 0 = part.not_waiting in omega (arith, occurs_same m waiting))
    | inr ne ↦ subst (λ z. z ≤ 1) (sym (occurs_other m y waiting ne)) (was.once y)
  ];
  fresh = λ y w. elim (cases_eq y m) [
    | inl e ↦ subst (λ z. l z ≡ false) (sym e) part.not_full
    | inr ne ↦ was.fresh y (old y ne w)
  ];
  used = λ y w. elim (cases_eq y m) [
    | inl e ↦ subst (λ z. IsInUse f z) (sym e) (parent_used f m part.child part.is_child layout)
    | inr ne ↦ was.used y (old y ne w)
  ];
  filled_children = was.filled_children;
  fill_children = λ n k w o. elim (cases_eq n m) [
    | inl e ↦ all k (subst (λ z. 1 ≤ occurs (children_at f z) k) e o)
    | inr ne ↦ was.fill_children n k (old n ne w) o
  ];
  root = was.root;
  past = was.past;
}
  where
    old : (y : ℕ) → y ≢ m → 1 ≤ occurs (m ∷ waiting) y → 1 ≤ occurs waiting y
    old y ne w = subst (λ z. 1 ≤ z) (occurs_other m y waiting ne) w

-- it waits in place of its part
pub close : (f : Layout) (row : List ℕ) (l : ℕ → Bool) (h : ℕ → ℕ) (m : ℕ) (waiting : List ℕ) (n : ℕ) → IsLayout f → Pass f row l h waiting n → HasPart f l waiting m →
    ((k : ℕ) → 1 ≤ occurs (children_at f m) k → l k ≡ true) → Pass f row l h (m ∷ waiting) n
close f row l h m waiting n layout pass part all =
    let hp = has_part f row l h waiting n layout pass m part in
    let one : 1 ≤ pass.parts m = hp.0 in
    let t : total (changed pass.parts m 0) (length f.slots) + pass.parts m ≡ total pass.parts (length f.slots) + 0 = total_changed pass.parts m 0 (length f.slots) hp.1 in
    let s : length waiting + total pass.parts (length f.slots) ≤ n = pass.sum in
    let rest : (y : ℕ) → occurs (m ∷ waiting) y ≡ 0 → y ≢ m = (λ y w e.
    let i : 1 ≤ occurs (m ∷ waiting) y = subst (λ z. 1 ≤ occurs (m ∷ waiting) z) (sym e) (occurs_here m waiting) in omega arith) in
    let less : (y : ℕ) → occurs (m ∷ waiting) y ≡ 0 → occurs waiting y ≡ 0 = (λ y w. omega arith) in
    record {
      labels = labels_closed f row l m waiting layout pass.labels part all;
      counts = pass.counts;
      parts = changed pass.parts m 0;
      p_parts = λ y sy ny wy my. subst (λ z. 1 ≤ z) (sym (changed_off pass.parts m 0 y (rest y wy))) (pass.p_parts y sy ny (less y wy) my);
      q_parts = λ y sy ny wy. subst (λ z. runs l false (children_at f y) ≤ z) (sym (changed_off pass.parts m 0 y (rest y wy))) (pass.q_parts y sy ny (less y wy));
      sum = omega arith;
    }
