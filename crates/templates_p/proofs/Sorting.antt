-- The children of a node sorted by their labels.
use Rattle.std.proofs.Common.{◌≡◌, ◌≢◌, ◌⊎◌, inl, inr, ℕ, ◌+◌, ◌≤◌, List, [], ◌∷◌, map, sum_by, length, refl, sym, ap, subst, ◌∙◌, arith}
use Rattle.std.proofs.lemmas.Bool.{cases_eq, cases_lt}
use Rattle.std.proofs.lemmas.List.Sums.{sum_by-cons}
use Rattle.column_order.specs.Orders.{occurs}
use Rattle.pq_tree.specs.Outline.{Outline, Forest, tree_and}
use Rattle.pq_tree.specs.Proper.{forest, count}
use Rattle.arena_model.specs.Layout.{Layout}
use Rattle.arena_model.proofs.Lists.{occurs_other}
use Rattle.bubble_pass.specs.declared.labels.Label.{Label as Mark}
use Rattle.bubble_pass.specs.declared.labels.Label.TheVariants.{Empty, Partial as Partly, Full}
use Rattle.bubble_pass.specs.Marks.{Marks, label_at}
use Rattle.bubble_pass.specs.Sweep.{full_one, partial_one}
use Rattle.tree_theory.specs.Templates.{Partial, Label, empty_label, full_label, partial_label, IsSorted, none_sorted, to_empty, to_full, to_partial}
use Rattle.template_model.specs.Standing.{mark_of, IsShapeAt, AreShapesAt}
use Rattle.templates_p.specs.Sorts.{full_then, empty_then, partial_then, full_nodes, empty_nodes, partial_nodes}

-- what the partial ones of the labels become
abbrev pub held : List Label → List Partial
held [] = []
held (empty_label ∷ ps) = held ps
held (full_label ∷ ps) = held ps
held (partial_label h ∷ ps) = h ∷ held ps

pub sorted_unique : {ts es fs es' fs' : Forest} {ps : List Label} {hs hs' : List Partial} → IsSorted ts ps es fs hs → IsSorted ts ps es' fs' hs' →
    (es ≡ es') × (fs ≡ fs') × (hs ≡ hs')
sorted_unique none_sorted none_sorted = (refl, refl, refl)
sorted_unique (to_empty {t = t} s) (to_empty u) = let w = sorted_unique s u in (ap (tree_and t) w.0, w.1, w.2)
sorted_unique (to_full {t = t} s) (to_full u) = let w = sorted_unique s u in (w.0, ap (tree_and t) w.1, w.2)
sorted_unique (to_partial {h = h} s) (to_partial u) = let w = sorted_unique s u in (w.0, w.1, ap (λ hs. h ∷ hs) w.2)

cons_head : {A : Type 0} (x y : A) (xs ys : List A) → x ∷ xs ≡ y ∷ ys → x ≡ y
cons_head x y xs ys e = cc

cons_tail : {A : Type 0} (x y : A) (xs ys : List A) → x ∷ xs ≡ y ∷ ys → xs ≡ ys
cons_tail x y xs ys e = cc

-- what holds of each label and its mark
by_mark : (M : Label → Mark → Type 0) → M empty_label Empty → M full_label Full → ((h : Partial) → M (partial_label h) Partly) → (x : Label) (l : Mark) → mark_of x ≡ l → M x l
by_mark M e f p x l k = subst (M x) k (of x)
  where
    of : (y : Label) → M y (mark_of y)
    of empty_label = e
    of full_label = f
    of (partial_label h) = p h

sort_step : (o : ℕ → Outline) (k : ℕ) (E F : List ℕ) (T : Forest) (x : Label) (ps : List Label) (hs : List Partial) (l : Mark) → mark_of x ≡ l →
    IsSorted T ps (forest (map o E)) (forest (map o F)) (held ps) →
    IsSorted (tree_and (o k) T) (x ∷ ps) (forest (map o (empty_then l k E))) (forest (map o (full_then l k F))) (held (x ∷ ps))
sort_step o k E F T x ps hs l e s =
    by_mark (λ x l. IsSorted (tree_and (o k) T) (x ∷ ps) (forest (map o (empty_then l k E))) (forest (map o (full_then l k F))) (held (x ∷ ps)))
    (to_empty s) (to_full s) (λ h. to_partial s) x l e

-- the children sort into the empty ones, the full ones and what the partial ones become
pub sort : (o : ℕ → Outline) (w : Marks) (ks : List ℕ) (ps : List Label) → map mark_of ps ≡ map (label_at w) ks →
    IsSorted (forest (map o ks)) ps (forest (map o (empty_nodes w ks))) (forest (map o (full_nodes w ks))) (held ps)
sort o w [] [] e = none_sorted
sort o w [] (x ∷ ps) e = absurd (cc)
sort o w (k ∷ ks) [] e = absurd (cc)
sort o w (k ∷ ks) (x ∷ ps) e =
    sort_step o k (empty_nodes w ks) (full_nodes w ks) (forest (map o ks)) x ps (held ps) (label_at w k)
    (cons_head (mark_of x) (label_at w k) (map mark_of ps) (map (label_at w) ks) e)
    (sort o w ks ps (cons_tail (mark_of x) (label_at w k) (map mark_of ps) (map (label_at w) ks) e))

pub count_map : (o : ℕ → Outline) (xs : List ℕ) → count (forest (map o xs)) ≡ length xs
count_map o [] = refl
count_map o (x ∷ xs) = omega (arith, count_map o xs)

held_step : (k : ℕ) (ks : List ℕ) (x : Label) (ps : List Label) (l : Mark) → mark_of x ≡ l → length (held ps) ≡ length ks → length (held (x ∷ ps)) ≡ length (partial_then l k ks)
held_step k ks x ps l e h = by_mark (λ x l. length (held (x ∷ ps)) ≡ length (partial_then l k ks)) h h (λ p. omega arith) x l e

pub held_length : (w : Marks) (ks : List ℕ) (ps : List Label) → map mark_of ps ≡ map (label_at w) ks → length (held ps) ≡ length (partial_nodes w ks)
held_length w [] [] e = refl
held_length w [] (x ∷ ps) e = absurd (cc)
held_length w (k ∷ ks) [] e = absurd (cc)
held_length w (k ∷ ks) (x ∷ ps) e =
    held_step k (partial_nodes w ks) x ps (label_at w k) (cons_head (mark_of x) (label_at w k) (map mark_of ps) (map (label_at w) ks) e)
    (held_length w ks ps (cons_tail (mark_of x) (label_at w k) (map mark_of ps) (map (label_at w) ks) e))

-- each of the nodes stands as its Q-shape
abbrev pub AreShapes : Layout → Marks → List ℕ → List Partial → Type 0
AreShapes f w [] [] = Unit {0}
AreShapes f w [] (h ∷ hs) = ⊥
AreShapes f w (k ∷ ks) [] = ⊥
AreShapes f w (k ∷ ks) (h ∷ hs) = IsShapeAt f w k h × AreShapes f w ks hs

shape_step : (f : Layout) (w : Marks) (k : ℕ) (ks js : List ℕ) (x : Label) (ps : List Label) (l : Mark) → mark_of x ≡ l →
    AreShapesAt f w (k ∷ js) (x ∷ ps) → (AreShapesAt f w js ps → AreShapes f w ks (held ps)) → AreShapes f w (partial_then l k ks) (held (x ∷ ps))
shape_step f w k ks js x ps l e s h =
    by_mark (λ x l. AreShapesAt f w (k ∷ js) (x ∷ ps) → AreShapes f w (partial_then l k ks) (held (x ∷ ps))) h h (λ p s. (s.0, h s.1)) x l e s

pub held_shapes : (f : Layout) (w : Marks) (ks : List ℕ) (ps : List Label) → map mark_of ps ≡ map (label_at w) ks → AreShapesAt f w ks ps →
    AreShapes f w (partial_nodes w ks) (held ps)
held_shapes f w [] [] e s = tt
held_shapes f w [] (x ∷ ps) e s = absurd s
held_shapes f w (k ∷ ks) [] e s = absurd s
held_shapes f w (k ∷ ks) (x ∷ ps) e s =
    shape_step f w k (partial_nodes w ks) ks x ps (label_at w k) (cons_head (mark_of x) (label_at w k) (map mark_of ps) (map (label_at w) ks) e) s
    (held_shapes f w ks ps (cons_tail (mark_of x) (label_at w k) (map mark_of ps) (map (label_at w) ks) e))

full_step : (k : ℕ) (ks : List ℕ) (l : Mark) → length (full_then l k ks) ≡ full_one l + length ks
full_step k ks Empty = omega arith
full_step k ks Partly = omega arith
full_step k ks Full = omega arith

partial_step : (k : ℕ) (ks : List ℕ) (l : Mark) → length (partial_then l k ks) ≡ partial_one l + length ks
partial_step k ks Empty = omega arith
partial_step k ks Partly = omega arith
partial_step k ks Full = omega arith

pub fulls_length : (w : Marks) (ks : List ℕ) → length (full_nodes w ks) ≡ sum_by (λ k. full_one (label_at w k)) ks
fulls_length w [] = refl
fulls_length w (k ∷ ks) = omega (arith, full_step k (full_nodes w ks) (label_at w k), fulls_length w ks, sum_by-cons (λ k. full_one (label_at w k)) k ks)

pub partials_length : (w : Marks) (ks : List ℕ) → length (partial_nodes w ks) ≡ sum_by (λ k. partial_one (label_at w k)) ks
partials_length w [] = refl
partials_length w (k ∷ ks) = omega (arith, partial_step k (partial_nodes w ks) (label_at w k), partials_length w ks, sum_by-cons (λ k. partial_one (label_at w k)) k ks)

all_step : (k x : ℕ) (F E H : List ℕ) (l : Mark) →
    occurs (full_then l k F) x + occurs (empty_then l k E) x + occurs (partial_then l k H) x ≡ occurs (k ∷ []) x + (occurs F x + occurs E x + occurs H x)
all_step k x F E H Empty = omega arith
all_step k x F E H Partly = omega arith
all_step k x F E H Full = omega arith

-- each child is full, empty or partial
pub all_sorted : (w : Marks) (ks : List ℕ) (x : ℕ) → occurs ks x ≡ occurs (full_nodes w ks) x + occurs (empty_nodes w ks) x + occurs (partial_nodes w ks) x
all_sorted w [] x = refl
all_sorted w (k ∷ ks) x = omega (arith, all_sorted w ks x, all_step k x (full_nodes w ks) (empty_nodes w ks) (partial_nodes w ks) (label_at w k))

count_step : (k : ℕ) (F E H : List ℕ) (l : Mark) →
    length (full_then l k F) + length (empty_then l k E) + length (partial_then l k H) ≡ 1 + (length F + length E + length H)
count_step k F E H Empty = omega arith
count_step k F E H Partly = omega arith
count_step k F E H Full = omega arith

pub all_counted : (w : Marks) (ks : List ℕ) → length ks ≡ length (full_nodes w ks) + length (empty_nodes w ks) + length (partial_nodes w ks)
all_counted w [] = refl
all_counted w (k ∷ ks) = omega (arith, all_counted w ks, count_step k (full_nodes w ks) (empty_nodes w ks) (partial_nodes w ks) (label_at w k))

-- the nodes that `sorted` picks of some are those with the mark l
pub record AreMarked (l : Mark) (sorted : Marks → List ℕ → List ℕ) : Type 0 where
  none : (w : Marks) → sorted w [] ≡ []
  cases : (w : Marks) (k : ℕ) (ks : List ℕ) → ((label_at w k ≡ l) × (sorted w (k ∷ ks) ≡ k ∷ sorted w ks)) ⊎ ((label_at w k ≢ l) × (sorted w (k ∷ ks) ≡ sorted w ks))

full_cases : (l : Mark) (k : ℕ) (ks : List ℕ) → ((l ≡ Full) × (full_then l k ks ≡ k ∷ ks)) ⊎ ((l ≢ Full) × (full_then l k ks ≡ ks))
full_cases Empty k ks = inr (λ e. cc, refl)
full_cases Partly k ks = inr (λ e. cc, refl)
full_cases Full k ks = inl (refl, refl)

pub fulls : AreMarked Full full_nodes
fulls = record { none = λ w. refl; cases = λ w k ks. full_cases (label_at w k) k (full_nodes w ks) }

empty_cases : (l : Mark) (k : ℕ) (ks : List ℕ) → ((l ≡ Empty) × (empty_then l k ks ≡ k ∷ ks)) ⊎ ((l ≢ Empty) × (empty_then l k ks ≡ ks))
empty_cases Empty k ks = inl (refl, refl)
empty_cases Partly k ks = inr (λ e. cc, refl)
empty_cases Full k ks = inr (λ e. cc, refl)

pub empties : AreMarked Empty empty_nodes
empties = record { none = λ w. refl; cases = λ w k ks. empty_cases (label_at w k) k (empty_nodes w ks) }

partial_cases : (l : Mark) (k : ℕ) (ks : List ℕ) → ((l ≡ Partly) × (partial_then l k ks ≡ k ∷ ks)) ⊎ ((l ≢ Partly) × (partial_then l k ks ≡ ks))
partial_cases Empty k ks = inr (λ e. cc, refl)
partial_cases Partly k ks = inl (refl, refl)
partial_cases Full k ks = inr (λ e. cc, refl)

pub partials : AreMarked Partly partial_nodes
partials = record { none = λ w. refl; cases = λ w k ks. partial_cases (label_at w k) k (partial_nodes w ks) }

-- the mark of such a node, and how often it is among these and among all
module _ {l : Mark} {sorted : Marks → List ℕ → List ℕ} (s : AreMarked l sorted) (w : Marks) where
  pub sorted_label : (ks : List ℕ) (x : ℕ) → 1 ≤ occurs (sorted w ks) x → label_at w x ≡ l
  sorted_label [] x o = absurd (let z : 1 ≤ occurs [] x = subst (λ z. 1 ≤ occurs z x) (s.none w) o in omega arith)
  sorted_label (k ∷ ks) x o = elim (s.cases w k ks) [
    | inl e ↦ elim (cases_eq x k) [
      | inl q ↦ ap (label_at w) q ∙ e.0
      | inr ne ↦ sorted_label ks x (subst (λ z. 1 ≤ z) (ap (λ z. occurs z x) e.1 ∙ occurs_other k x (sorted w ks) ne) o)
    ]
    | inr e ↦ sorted_label ks x (subst (λ z. 1 ≤ occurs z x) e.1 o)
  ]

  pub sorted_none : (ks : List ℕ) (x : ℕ) → (label_at w x ≡ l → ⊥) → occurs (sorted w ks) x ≡ 0
  sorted_none ks x ne = elim (cases_lt 0 (occurs (sorted w ks) x)) [ inl o ↦ absurd (ne (sorted_label ks x o)) | inr o ↦ omega arith ]

  pub sorted_times : (ks : List ℕ) (x : ℕ) → label_at w x ≡ l → occurs (sorted w ks) x ≡ occurs ks x
  sorted_times [] x e = ap (λ z. occurs z x) (s.none w)
  sorted_times (k ∷ ks) x e = elim (s.cases w k ks) [
    | inl q ↦ (let z : occurs (sorted w (k ∷ ks)) x ≡ occurs (k ∷ sorted w ks) x = ap (λ z. occurs z x) q.1 in omega (arith, sorted_times ks x e))
    | inr q ↦
        ap (λ z. occurs z x) q.1 ∙ sorted_times ks x e ∙ sym (occurs_other k x ks (λ z. q.0 (ap (label_at w) (sym z) ∙ e)))
  ]

pub apart_marks : (a b : Mark) (l : Mark) → l ≡ a → l ≡ b → a ≡ b
apart_marks a b l e q = sym e ∙ q

pub not_full_empty : (l : Mark) → l ≡ Full → l ≡ Empty → ⊥
not_full_empty l e q = let z : Full ≡ Empty = sym e ∙ q in cc

pub not_full_partial : (l : Mark) → l ≡ Full → l ≡ Partly → ⊥
not_full_partial l e q = let z : Full ≡ Partly = sym e ∙ q in cc

pub not_empty_partial : (l : Mark) → l ≡ Empty → l ≡ Partly → ⊥
not_empty_partial l e q = let z : Empty ≡ Partly = sym e ∙ q in cc
