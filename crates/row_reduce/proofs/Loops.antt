-- The loops over the labelled nodes.
use Rattle.std.proofs.Common.{◌≡◌, ◌≢◌, inl, inr, ℕ, zero, suc, ◌+◌, ◌≤◌, ◌<◌, Bool, List, [], ◌∷◌, map, length, take, set, get_or, sum_by, Option, None, refl, sym, ap, subst, ◌∙◌, arith}
use Rattle.std.proofs.lemmas.Bool.{cases_eq}
use Rattle.std.proofs.lemmas.List.{get_or-set_same, get_or-set_other}
use Rattle.std.proofs.lemmas.List.Sums.{sum_by-cons}
use Rattle.arena_model.specs.ChildLists.{none}
use Rattle.arena_model.specs.Layout.{Layout, children_at, IsLayout}
use Rattle.pq_arena.specs.declared.node.NodeId.{NodeId}
use Rattle.pq_arena.specs.RowNodes.{indices}
use Rattle.bubble_pass.specs.declared.labels.Label.{Label as Mark}
use Rattle.bubble_pass.specs.Marks.{Marks, label_at, fulls_at, partials_at}
use Rattle.bubble_pass.specs.Pass.{IsRightAt, node_in}
use Rattle.bubble_pass.specs.Sweep.{full_one, partial_one}
use Rattle.row_reduce.specs.declared.template.Template.{Template}
use Rattle.row_reduce.specs.declared.template.Template.TheVariants.{L1}
use Rattle.row_reduce.specs.Fits.{IsFit, IsChoice}
use Rattle.row_reduce.specs.Applying.{AreApplied}
use Rattle.row_reduce.specs.Decided.{is_top, template_in, labelled_at, AreDecided, IsStopped, AreChosen}
use Rattle.row_reduce.proofs.Answering.{ChildrenNow}
use Rattle.row_reduce.proofs.Grounds.{taken_at, node_stands, node_labelled}
use Rattle.row_reduce.proofs.Applied.{AtStep, AtPlace, now_at}

index_at : (xs : List NodeId) (i : ℕ) (d : NodeId) → i < length xs → (get_or xs i d).index ≡ get_or (indices xs) i none
index_at [] i d l = absurd (omega arith)
index_at (x ∷ xs) zero d l = refl
index_at (x ∷ xs) (suc i) d l = index_at xs i d (omega arith)

pub indices_long : (xs : List NodeId) → length (indices xs) ≡ length xs
indices_long [] = refl
indices_long (x ∷ xs) = omega (arith, indices_long xs)

-- the node at a place of the slice
pub node_at : (xs : List NodeId) (v : Marks) (i : ℕ) (d : NodeId) → indices xs ≡ v.nodes → i < length v.nodes → (get_or xs i d).index ≡ node_in v i
node_at xs v i d e l = index_at xs i d (let a : length (indices xs) ≡ length v.nodes = ap length e in omega (arith, indices_long xs)) ∙ ap (λ z. get_or z i none) e

pub decided_more : (f : Layout) (v : Marks) (top : Option NodeId) (ts : List Template) (i : ℕ) (t : Template) (node : ℕ) (root : Bool) → AreDecided f v top ts i → i < length ts →
    node ≡ node_in v i → root ≡ is_top top node → IsFit f v node root t → AreDecided f v top (set ts i t) (i + 1)
decided_more f v top ts i t node root d l e b fit = record {
  fits = λ j lj. elim (cases_eq j i) [
    | inl q ↦ subst (λ z. IsFit f v (node_in v z) (is_top top (node_in v z)) (template_in (set ts i t) z)) (sym q)
        (subst (λ z. IsFit f v (node_in v i) (is_top top (node_in v i)) z) (sym (get_or-set_same ts i t L1 l))
        (subst (λ z. IsFit f v z (is_top top z) t) e (subst (λ z. IsFit f v node z t) b fit)))
    | inr ne ↦ subst (λ z. IsFit f v (node_in v j) (is_top top (node_in v j)) z) (sym (get_or-set_other ts i j t L1 ne)) (d.fits j (omega arith))
  ];
}

pub stopped_at : (f : Layout) (v : Marks) (top : Option NodeId) (ts : List Template) (i node : ℕ) (root : Bool) → AreDecided f v top ts i → i < length v.nodes →
    node ≡ node_in v i → root ≡ is_top top node → IsChoice f v node root None → IsStopped f v top
stopped_at f v top ts i node root d l e b none = record {
  i = i;
  some = l;
  none = subst (λ z. IsChoice f v z (is_top top z) None) e (subst (λ z. IsChoice f v node z None) b none);
  before = λ j lj. (template_in ts j, d.fits j lj);
}

sum_taken : (F : ℕ → ℕ) (xs : List ℕ) (i : ℕ) → i < length xs → sum_by F (take (suc i) xs) ≡ sum_by F (take i xs) + F (get_or xs i none)
sum_taken F [] i l = absurd (omega arith)
sum_taken F (x ∷ xs) zero l = omega (arith, sum_by-cons F x [])
sum_taken F (x ∷ xs) (suc i) l = omega (arith, sum_taken F xs i (omega arith), sum_by-cons F x (take (suc i) xs), sum_by-cons F x (take i xs))

pub sum_part : (F : ℕ → ℕ) (xs : List ℕ) (i : ℕ) → sum_by F (take i xs) ≤ sum_by F xs
sum_part F [] zero = omega arith
sum_part F [] (suc i) = omega arith
sum_part F (x ∷ xs) zero = omega arith
sum_part F (x ∷ xs) (suc i) = omega (arith, sum_part F xs i, sum_by-cons F x xs, sum_by-cons F x (take i xs))

pub sum_step : (F : ℕ → ℕ) (xs : List ℕ) (i node s0 s s' : ℕ) → i < length xs → node ≡ get_or xs i none → s ≤ s0 + sum_by F (take i xs) → s' ≤ s + F node → s' ≤ s0 + sum_by F (take (i + 1) xs)
sum_step F xs i node s0 s s' l e a b =
    let k : i + 1 ≡ suc i = omega arith in
    let n : F node ≡ F (get_or xs i none) = ap F e in
    subst (λ z. s' ≤ s0 + sum_by F (take z xs)) (sym k) (omega (arith, sum_taken F xs i l))

pub sum_stop : (F : ℕ → ℕ) (xs : List ℕ) (i node s0 s s' : ℕ) → i < length xs → node ≡ get_or xs i none → s ≤ s0 + sum_by F (take i xs) → s' ≤ s + F node → s' ≤ s0 + sum_by F xs
sum_stop F xs i node s0 s s' l e a b = let r : s' ≤ s0 + sum_by F (take (i + 1) xs) = sum_step F xs i node s0 s s' l e a b in omega (arith, sum_part F xs (i + 1))

-- the templates of the first of the chosen nodes are applied
pub at_step : (f g : Layout) (v w : Marks) (row : List ℕ) (q : ℕ) (ts : List Template) (count i : ℕ) (place : ℕ → ℕ) → AreChosen f v row q ts count → i ≤ count → IsLayout g →
    AreApplied f v row (take i v.nodes) place g w → AtStep f v row q i place g w
at_step f g v w row q ts count i place c l h a = record {
  ground = c.ground;
  g_layout = h;
  applied = a;
  below = λ y o. let t = taken_at v.nodes i y o in let lt : t.0 < i = t.1 in subst (λ z. z ≢ q) t.3 (c.below t.0 (omega arith));
}

-- the next of the chosen nodes
pub at_place : (f g : Layout) (v w : Marks) (row : List ℕ) (q : ℕ) (ts : List Template) (count i : ℕ) (place : ℕ → ℕ) → AreChosen f v row q ts count → i < count → IsLayout g →
    AreApplied f v row (take i v.nodes) place g w → AtPlace f v row q i place g w
at_place f g v w row q ts count i place c l h a = record {
  step = at_step f g v w row q ts count i place c (omega arith) h a;
  some = let few : count ≤ length v.nodes = c.few in omega arith;
  not_top = c.below i l;
}

pub sum_marks : (F : Mark → ℕ) (lab : ℕ → Mark) (ks : List ℕ) → sum_by (λ k. F (lab k)) ks ≡ sum_by F (map lab ks)
sum_marks F lab [] = refl
sum_marks F lab (k ∷ ks) = omega (arith, sum_marks F lab ks, sum_by-cons (λ k. F (lab k)) k ks, sum_by-cons F (lab k) (map lab ks))

-- the numbers of labelled children stay until the node is treated
pub counts_kept : (f g : Layout) (v w : Marks) (row : List ℕ) (n : ℕ) (place : ℕ → ℕ) → IsRightAt f v n → IsRightAt g w n → children_at g n ≡ map place (children_at f n) →
    ChildrenNow f v row g w (children_at f n) (map place (children_at f n)) → labelled_at w n ≡ labelled_at v n
counts_kept f g v w row n place a b e c =
    let same : map (label_at w) (children_at g n) ≡ map (label_at v) (children_at f n) = ap (λ z. map (label_at w) z) e ∙ sym c.marked_now ∙ c.marked in
    let fulls : fulls_at w n ≡ fulls_at v n = b.full ∙ sum_marks full_one (label_at w) (children_at g n) ∙ ap (sum_by full_one) same ∙ sym (sum_marks full_one (label_at v) (children_at f n)) ∙ sym a.full in
    let parts : partials_at w n ≡ partials_at v n = b.partial ∙ sum_marks partial_one (label_at w) (children_at g n) ∙ ap (sum_by partial_one) same ∙ sym (sum_marks partial_one (label_at v) (children_at f n)) ∙ sym a.partial in
    omega arith

pub counts_at : {f g : Layout} {v w : Marks} {row : List ℕ} {q i : ℕ} {place : ℕ → ℕ} → AtPlace f v row q i place g w → labelled_at w (node_in v i) ≡ labelled_at v (node_in v i)
counts_at {f = f} {g = g} {v = v} {w = w} {row = row} {i = i} {place = place} p =
    let standing = node_stands p.step.ground i p.some p.not_top in
    let chain : IsRightAt f v (node_in v i) = p.step.ground.marked.chains (node_in v i) (node_labelled p.step.ground i p.some) in
    counts_kept f g v w row (node_in v i) place chain (p.step.applied.chains (node_in v i) standing chain) (p.step.applied.children (node_in v i) standing) (now_at p)
