-- What the marks of a node tell of those of its children.
use Rattle.std.proofs.Common.{◌≡◌, ◌≢◌, inl, inr, ℕ, ◌≤◌, List, [], ◌∷◌, map, Some, refl, sym, ap, subst, ◌∙◌, arith}
use Rattle.std.proofs.lemmas.Bool.{cases_eq}
use Rattle.column_order.specs.Orders.{occurs}
use Rattle.pq_tree.specs.Outline.{Outline, Forest, no_tree}
use Rattle.pq_tree.specs.Forests.{forest}
use Rattle.tree_theory.specs.Templates.{Partial, Label, empty_label, full_label, partial_label, IsSorted, none_sorted, to_empty, to_full, to_partial, AreAllFull}
use Rattle.arena_model.specs.declared.Shape.TheVariants.{Leaf}
use Rattle.arena_model.specs.Layout.{Layout, shape_at, children_at, IsInUse, IsLayout, IsAtOrAbove, down}
use Rattle.arena_model.specs.NamedTree.{HasTwoEach}
use Rattle.arena_model.proofs.Lists.{occurs_here, occurs_other}
use Rattle.arena_model.proofs.Outlines.{first_step}
use Rattle.bubble_pass.specs.declared.labels.Label.{Label as Mark}
use Rattle.bubble_pass.specs.declared.labels.Label.TheVariants.{Empty, Partial as Partly, Full}
use Rattle.bubble_pass.specs.Sweep.{IsRight}
use Rattle.template_model.specs.Standing.{mark_of}
use Rattle.arena_model.proofs.Slots.{child_used}
use Rattle.row_reduce.proofs.Leaves.{LeafBelow, leaf_below}

-- each of the labels has this mark
abbrev pub AreMarked : Mark → List Label → Type 0
AreMarked m [] = Unit {0}
AreMarked m (p ∷ ps) = (mark_of p ≡ m) × AreMarked m ps

-- the labels ps have the marks of the nodes ks
pub marked_as : (lab : ℕ → Mark) (m : Mark) (ks : List ℕ) (ps : List Label) → map mark_of ps ≡ map lab ks → ((k : ℕ) → 1 ≤ occurs ks k → lab k ≡ m) → AreMarked m ps
marked_as lab m ks [] e all = tt
marked_as lab m [] (p ∷ ps) e all = absurd (cc)
marked_as lab m (k ∷ ks) (p ∷ ps) e all =
    let a : mark_of p ≡ lab k = cc in
    let b : map mark_of ps ≡ map lab ks = cc in
    (a ∙ all k (occurs_here k ks), marked_as lab m ks ps b (λ x o. all x (omega arith)))

pub marked_at : (lab : ℕ → Mark) (m : Mark) (ks : List ℕ) (ps : List Label) → map mark_of ps ≡ map lab ks → AreMarked m ps → (k : ℕ) → 1 ≤ occurs ks k → lab k ≡ m
marked_at lab m [] ps e all k o = absurd (omega arith)
marked_at lab m (j ∷ ks) [] e all k o = absurd (cc)
marked_at lab m (j ∷ ks) (p ∷ ps) e all k o =
    let a : mark_of p ≡ lab j = cc in
    let b : map mark_of ps ≡ map lab ks = cc in
    elim (cases_eq k j) [
      | inl q ↦ ap lab q ∙ sym a ∙ all.0
      | inr ne ↦ marked_at lab m ks ps b all.1 k (subst (λ z. 1 ≤ z) (occurs_other j k ks ne) o)
    ]

-- all labels are full
pub all_full : (F : ℕ → Outline) (lab : ℕ → Mark) (ks : List ℕ) (ps : List Label) → map mark_of ps ≡ map lab ks → AreMarked Full ps → AreAllFull (forest (map F ks)) ps
all_full F lab [] [] e all = none_sorted
all_full F lab [] (p ∷ ps) e all = absurd (cc)
all_full F lab (k ∷ ks) [] e all = absurd (cc)
all_full F lab (k ∷ ks) (empty_label ∷ ps) e all = absurd (let z : Empty ≡ Full = all.0 in cc)
all_full F lab (k ∷ ks) (full_label ∷ ps) e all = to_full (all_full F lab ks ps (let b : map mark_of ps ≡ map lab ks = cc in b) all.1)
all_full F lab (k ∷ ks) (partial_label h ∷ ps) e all = absurd (let z : Partly ≡ Full = all.0 in cc)

pub full_marks : {ts es fs : Forest} {ps : List Label} {hs : List Partial} → IsSorted ts ps es fs hs → es ≡ no_tree → hs ≡ [] → AreMarked Full ps
full_marks none_sorted a b = tt
full_marks (to_empty s) a b = absurd (cc)
full_marks (to_full s) a b = (refl, full_marks s a b)
full_marks (to_partial s) a b = absurd (cc)

pub empty_marks : {ts es fs : Forest} {ps : List Label} {hs : List Partial} → IsSorted ts ps es fs hs → fs ≡ no_tree → hs ≡ [] → AreMarked Empty ps
empty_marks none_sorted a b = tt
empty_marks (to_empty s) a b = (refl, empty_marks s a b)
empty_marks (to_full s) a b = absurd (cc)
empty_marks (to_partial s) a b = absurd (cc)

-- where all labels are full there is neither an empty tree nor a partial one
pub none_empty : {ts es fs : Forest} {ps : List Label} {hs : List Partial} → IsSorted ts ps es fs hs → AreMarked Full ps → (es ≡ no_tree) × (hs ≡ [])
none_empty none_sorted all = (refl, refl)
none_empty (to_empty s) all = absurd (let z : Empty ≡ Full = all.0 in cc)
none_empty (to_full s) all = none_empty s all.1
none_empty (to_partial s) all = absurd (let z : Partly ≡ Full = all.0 in cc)

-- what is asked of the marks at a node and at its children
pub record AreRight (f : Layout) (row : List ℕ) (lab : ℕ → Mark) (n : ℕ) : Type 0 where
  pub used : IsInUse f n
  pub own : IsRight f row n (lab n)
  pub of_children : (k : ℕ) → 1 ≤ occurs (children_at f n) k → IsRight f row k (lab k)

pub full_children : (f : Layout) (row : List ℕ) (lab : ℕ → Mark) (n : ℕ) → IsLayout f → HasTwoEach f → AreRight f row lab n → lab n ≡ Full →
    (k : ℕ) → 1 ≤ occurs (children_at f n) k → lab k ≡ Full
full_children f row lab n h two r full k o = by (lab k) refl
  where
    at : IsRight f row n Full
    at = subst (λ z. IsRight f row n z) full r.own

    by : (m : Mark) → lab k ≡ m → lab k ≡ Full
    by Empty e =
        let l : LeafBelow f k = leaf_below f k h two (child_used f n k h o) in
        let miss : IsRight f row k Empty = subst (λ z. IsRight f row k z) e (r.of_children k o) in
        absurd (miss l.x l.below (at l.x l.column (down n k l.x o l.below) l.leaf))
    by Partly e =
        let cut : IsRight f row k Partly = subst (λ z. IsRight f row k z) e (r.of_children k o) in
        let out = cut.1 in
        let z : occurs row out.0 ≡ 0 = out.4 in
        let y : 1 ≤ occurs row out.0 = at out.0 out.1 (down n k out.0 o out.2) out.3 in
        absurd (omega arith)
    by Full e = e

-- a partial node has a child that isn't full
pub not_all_full : (f : Layout) (row : List ℕ) (lab : ℕ → Mark) (n : ℕ) → AreRight f row lab n → ((a : ℕ) → shape_at f n ≡ Some (Leaf a) → ⊥) → lab n ≡ Partly →
    ((k : ℕ) → 1 ≤ occurs (children_at f n) k → lab k ≡ Full) → ⊥
not_all_full f row lab n r inner cut all =
    let c : IsRight f row n Partly = subst (λ z. IsRight f row n z) cut r.own in
    let out = c.1 in
    let z : occurs row out.0 ≡ 0 = out.4 in
    elim (first_step f.slots n out.0 out.2) [
      | inl e ↦ inner out.1 (subst (λ z. shape_at f z ≡ Some (Leaf out.1)) e out.3)
      | inr s ↦
          let full : IsRight f row s.0 Full = subst (λ z. IsRight f row s.0 z) (all s.0 s.1) (r.of_children s.0 s.1) in
          let y : 1 ≤ occurs row out.0 = full out.0 out.1 s.2 out.3 in
          absurd (omega arith)
    ]

-- a labelled node that is no leaf has a child that isn't empty
pub not_all_empty : (f : Layout) (row : List ℕ) (lab : ℕ → Mark) (n : ℕ) → IsLayout f → HasTwoEach f → AreRight f row lab n → ((a : ℕ) → shape_at f n ≡ Some (Leaf a) → ⊥) →
    ((x : ℕ) → 1 ≤ occurs row x → (a : ℕ) × (shape_at f x ≡ Some (Leaf a))) → lab n ≢ Empty → ((k : ℕ) → 1 ≤ occurs (children_at f n) k → lab k ≡ Empty) → ⊥
not_all_empty f row lab n h two r inner leaves some all = by (lab n) refl
  where
    met : (x : ℕ) → IsAtOrAbove f.slots n x → 1 ≤ occurs row x → ⊥
    met x l o = elim (first_step f.slots n x l) [
      | inl e ↦ let a = leaves x o in inner a.0 (subst (λ z. shape_at f z ≡ Some (Leaf a.0)) e a.1)
      | inr s ↦ let miss : IsRight f row s.0 Empty = subst (λ z. IsRight f row s.0 z) (all s.0 s.1) (r.of_children s.0 s.1) in miss x s.2 o
    ]

    by : (m : Mark) → lab n ≡ m → ⊥
    by Empty e = some e
    by Partly e = let c : IsRight f row n Partly = subst (λ z. IsRight f row n z) e r.own in met c.0.0 c.0.1 c.0.2
    by Full e =
        let c : IsRight f row n Full = subst (λ z. IsRight f row n z) e r.own in
        let l : LeafBelow f n = leaf_below f n h two r.used in
        met l.x l.below (c l.x l.column l.below l.leaf)
