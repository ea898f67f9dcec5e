-- A template that stands at a node gives its tree a label; where none does, the tree is refused.
use Rattle.std.proofs.Common.{◌≡◌, ◌≢◌, inl, inr, ℕ, ◌≤◌, Bool, true, false, List, [], ◌∷◌, map, Option, Some, None, IsTrue, refl, sym, ap, subst, ◌∙◌, arith}
use Rattle.column_order.specs.Orders.{occurs}
use Rattle.row_model.specs.Rows.{IsRow}
use Rattle.pq_tree.specs.Outline.{Outline, Forest, leaf, p_node, q_node, no_tree, tree_and}
use Rattle.pq_tree.specs.Forests.{forest}
use Rattle.pq_tree.proofs.Turnings.{are_equivalent_refl}
use Rattle.tree_theory.specs.Templates.{Partial, Label, empty_label, full_label, partial_label, IsP3, IsP5, IsQ2, AreAllFull, AreAllEmpty}
use Rattle.tree_theory.specs.Chosen.{IsLabelOfP, IsLabelOfQ, p_empty, by_p1, by_p3, by_p5, q_empty, by_q1, by_q2, IsRootOfP, IsRootOfQ, root_p1, root_p2, root_p4, root_p6, root_q1, root_q2, root_q3}
use Rattle.tree_theory.specs.Reduced.{IsLabel, AreLabels, IsTurned}
use Rattle.tree_theory.specs.Refused.{IsUnfit, IsUnfitRoot}
use Rattle.arena_model.specs.declared.Shape.{Shape}
use Rattle.arena_model.specs.declared.Shape.TheVariants.{Leaf, P, Q}
use Rattle.arena_model.specs.Layout.{Layout, shape_at, children_at, IsLayout, MayHaveChildren, IsInUse, IsAtOrAbove}
use Rattle.arena_model.specs.NamedTree.{outline_below, HasTwoEach}
use Rattle.arena_model.proofs.Lists.{occurs_here}
use Rattle.arena_model.proofs.Outlines.{below_children, first_step}
use Rattle.pq_arena.specs.RowNodes.{column_leaves}
use Rattle.bubble_pass.specs.declared.labels.Label.{Label as Mark}
use Rattle.bubble_pass.specs.declared.labels.Label.TheVariants.{Empty, Partial as Partly, Full}
use Rattle.bubble_pass.specs.Marks.{Marks, label_at}
use Rattle.bubble_pass.specs.Sweep.{IsRight}
use Rattle.template_model.specs.Standing.{mark_of, child_trees, AreMarkedAs}
use Rattle.row_reduce.specs.declared.template.Template.{Template}
use Rattle.row_reduce.specs.declared.template.Template.TheVariants.{L1, P1, P2, P3, P4, P5, P6, Q1, Q2, Q3}
use Rattle.row_reduce.specs.Fits.{TemplateFits, IsChoice}
use Rattle.row_reduce.specs.Deciding.{IsLabelled}
use Rattle.row_reduce.proofs.Leaves.{full_leaf, empty_is}
use Rattle.row_reduce.proofs.Marking.{AreMarked, AreRight, marked_as, marked_at, all_full, full_marks, empty_marks, none_empty, full_children, not_all_full, not_all_empty}

-- labels of the children of a labelled node
pub record AtNode (f : Layout) (v : Marks) (row : List ℕ) (n : ℕ) (ps : List Label) : Type 0 where
  pub layout : IsLayout f
  pub two : HasTwoEach f
  pub is_row : IsRow f.columns row
  pub leaves : (x : ℕ) → 1 ≤ occurs (column_leaves row) x → (a : ℕ) × (shape_at f x ≡ Some (Leaf a))
  pub right : AreRight f (column_leaves row) (label_at v) n
  pub some : label_at v n ≢ Empty
  pub labels : AreLabels row (child_trees f n) ps
  pub marked : AreMarkedAs f v n ps

pub turned_same : (h : Partial) → IsTurned (partial_label h) (partial_label h)
turned_same h = (h, are_equivalent_refl h.e, are_equivalent_refl h.f, refl)

p_inner : (f : Layout) (n : ℕ) → shape_at f n ≡ Some P → (a : ℕ) → shape_at f n ≡ Some (Leaf a) → ⊥
p_inner f n s a e = absurd (let z : Some P ≡ Some (Leaf a) = sym s ∙ e in cc)

q_inner : (f : Layout) (n : ℕ) → shape_at f n ≡ Some Q → (a : ℕ) → shape_at f n ≡ Some (Leaf a) → ⊥
q_inner f n s a e = absurd (let z : Some Q ≡ Some (Leaf a) = sym s ∙ e in cc)

pub below_p : (f : Layout) (n : ℕ) → IsLayout f → shape_at f n ≡ Some P → outline_below f n ≡ p_node (child_trees f n)
below_p f n h s = below_children f n P h s

pub below_q : (f : Layout) (n : ℕ) → IsLayout f → shape_at f n ≡ Some Q → outline_below f n ≡ q_node (child_trees f n)
below_q f n h s = below_children f n Q h s

pub below_leaf : (f : Layout) (n a : ℕ) → IsLayout f → shape_at f n ≡ Some (Leaf a) → outline_below f n ≡ leaf a
below_leaf f n a h s = below_children f n (Leaf a) h s

-- the mark of a node whose children are all full is full
pub full_mark : {f : Layout} {v : Marks} {row : List ℕ} {n : ℕ} {ps : List Label} → AtNode f v row n ps → ((a : ℕ) → shape_at f n ≡ Some (Leaf a) → ⊥) →
    AreAllFull (child_trees f n) ps → label_at v n ≡ Full
full_mark {f = f} {v = v} {row = row} {n = n} {ps = ps} c inner s = by (label_at v n) refl
  where
    by : (m : Mark) → label_at v n ≡ m → label_at v n ≡ Full
    by Empty e = absurd (c.some e)
    by Partly e = absurd (not_all_full f (column_leaves row) (label_at v) n c.right inner e (marked_at (label_at v) Full (children_at f n) ps c.marked (full_marks s refl refl)))
    by Full e = e

-- the mark of a node whose children are not all full is partial
pub partial_mark : {f : Layout} {v : Marks} {row : List ℕ} {n : ℕ} {ps : List Label} → AtNode f v row n ps → (AreMarked Full ps → ⊥) → label_at v n ≡ Partly
partial_mark {f = f} {v = v} {row = row} {n = n} {ps = ps} c other = by (label_at v n) refl
  where
    by : (m : Mark) → label_at v n ≡ m → label_at v n ≡ Partly
    by Empty e = absurd (c.some e)
    by Partly e = e
    by Full e = absurd (other (marked_as (label_at v) Full (children_at f n) ps c.marked (full_children f (column_leaves row) (label_at v) n c.layout c.two c.right e)))

pub not_full_p3 : (root : Bool) (ts : Forest) (ps : List Label) (x : Partial) → IsP3 root ts ps x → AreMarked Full ps → ⊥
not_full_p3 root ts ps x p all = let e : tree_and p.e p.es ≡ no_tree = (none_empty p.pattern all).0 in cc

pub not_full_p5 : (root : Bool) (ts : Forest) (ps : List Label) (x : Partial) → IsP5 root ts ps x → AreMarked Full ps → ⊥
not_full_p5 root ts ps x p all = let e : p.h ∷ [] ≡ [] = (none_empty p.pattern all).1 in cc

pub not_full_q2 : (f : Layout) (v : Marks) (n : ℕ) (ps : List Label) (x : Partial) → AreMarkedAs f v n ps → IsQ2 (child_trees f n) ps x → AreMarked Full ps → ⊥
not_full_q2 f v n ps x m q all = q.not_full (all_full (outline_below f) (label_at v) (children_at f n) ps m all)

not_true : IsTrue false → ⊥
not_true e = cc

pub labelled : (t : Template) {f : Layout} {v : Marks} {row : List ℕ} {n : ℕ} {ps : List Label} → AtNode f v row n ps → TemplateFits t f v n false ps → IsLabelled f v row n
labelled L1 {f = f} {v = v} {row = row} {n = n} c fit = record {
  label = full_label;
  is = subst (λ z. IsLabel row z full_label) (sym (below_leaf f n fit.0.0 c.layout fit.0.1))
      (inl (full_leaf f row n fit.0.0 c.layout c.is_row fit.0.1 (subst (λ z. IsRight f (column_leaves row) n z) fit.1 c.right.own), refl));
  marked = sym fit.1;
}
labelled P1 {f = f} {row = row} {n = n} {ps = ps} c fit = record {
  label = full_label;
  is = subst (λ z. IsLabel row z full_label) (sym (below_p f n c.layout fit.0)) (ps, full_label, c.labels, by_p1 fit.1, refl);
  marked = sym (full_mark c (p_inner f n fit.0) fit.1);
}
labelled P2 c fit = absurd (not_true fit.1.1.at)
labelled P3 {f = f} {row = row} {n = n} {ps = ps} c fit = record {
  label = partial_label fit.1.0;
  is = subst (λ z. IsLabel row z (partial_label fit.1.0)) (sym (below_p f n c.layout fit.0)) (ps, partial_label fit.1.0, c.labels, by_p3 fit.1.0 fit.1.1, turned_same fit.1.0);
  marked = sym (partial_mark c (not_full_p3 false (child_trees f n) ps fit.1.0 fit.1.1));
}
labelled P4 c fit = absurd (not_true fit.1.1.at)
labelled P5 {f = f} {row = row} {n = n} {ps = ps} c fit = record {
  label = partial_label fit.1.0;
  is = subst (λ z. IsLabel row z (partial_label fit.1.0)) (sym (below_p f n c.layout fit.0)) (ps, partial_label fit.1.0, c.labels, by_p5 fit.1.0 fit.1.1, turned_same fit.1.0);
  marked = sym (partial_mark c (not_full_p5 false (child_trees f n) ps fit.1.0 fit.1.1));
}
labelled P6 c fit = absurd (not_true fit.1.1.at)
labelled Q1 {f = f} {row = row} {n = n} {ps = ps} c fit = record {
  label = full_label;
  is = subst (λ z. IsLabel row z full_label) (sym (below_q f n c.layout fit.0)) (ps, full_label, c.labels, by_q1 fit.1, refl);
  marked = sym (full_mark c (q_inner f n fit.0) fit.1);
}
labelled Q2 {f = f} {v = v} {row = row} {n = n} {ps = ps} c fit = record {
  label = partial_label fit.1.0;
  is = subst (λ z. IsLabel row z (partial_label fit.1.0)) (sym (below_q f n c.layout fit.0)) (ps, partial_label fit.1.0, c.labels, by_q2 fit.1.0 fit.1.1, turned_same fit.1.0);
  marked = sym (partial_mark c (not_full_q2 f v n ps fit.1.0 c.marked fit.1.1));
}
labelled Q3 c fit = absurd (not_true fit.1.1.at)

-- a labelled leaf is full
pub leaf_fits : {f : Layout} {v : Marks} {row : List ℕ} {n : ℕ} {ps : List Label} → AtNode f v row n ps → (a : ℕ) → shape_at f n ≡ Some (Leaf a) → label_at v n ≡ Full
leaf_fits {f = f} {v = v} {row = row} {n = n} c a s = by (label_at v n) refl
  where
    bare : children_at f n ≡ []
    bare = subst (λ z. MayHaveChildren z (children_at f n)) s (c.layout.children_fit n)

    itself : (x : ℕ) → IsAtOrAbove f.slots n x → x ≡ n
    itself x l = elim (first_step f.slots n x l) [
      | inl e ↦ e
      | inr k ↦ absurd (let z : 1 ≤ occurs [] k.0 = subst (λ z. 1 ≤ occurs z k.0) bare k.1 in omega arith)
    ]

    by : (m : Mark) → label_at v n ≡ m → label_at v n ≡ Full
    by Empty e = absurd (c.some e)
    by Full e = e
    by Partly e =
        let cut : IsRight f (column_leaves row) n Partly = subst (λ z. IsRight f (column_leaves row) n z) e c.right.own in
        let i = cut.0 in let o = cut.1 in
        let same : o.0 ≡ i.0 = itself o.0 o.2 ∙ sym (itself i.0 i.1) in
        let z : occurs (column_leaves row) o.0 ≡ 0 = o.4 in
        let y : 1 ≤ occurs (column_leaves row) o.0 = subst (λ z. 1 ≤ occurs (column_leaves row) z) (sym same) i.2 in
        absurd (omega arith)

-- a labelled node has a labelled child
not_empty : {f : Layout} {v : Marks} {row : List ℕ} {n : ℕ} {ps : List Label} → AtNode f v row n ps → ((a : ℕ) → shape_at f n ≡ Some (Leaf a) → ⊥) → AreAllEmpty (child_trees f n) ps → ⊥
not_empty {f = f} {v = v} {row = row} {n = n} {ps = ps} c inner e =
    not_all_empty f (column_leaves row) (label_at v) n c.layout c.two c.right inner c.leaves c.some (marked_at (label_at v) Empty (children_at f n) ps c.marked (empty_marks e refl refl))

no_label_p : {f : Layout} {v : Marks} {row : List ℕ} {n : ℕ} {ps : List Label} → AtNode f v row n ps → IsChoice f v n false None → shape_at f n ≡ Some P →
    (x : Label) → IsLabelOfP (child_trees f n) ps x → ⊥
no_label_p {f = f} {n = n} c none s _ (p_empty e) = not_empty c (p_inner f n s) e
no_label_p {ps = ps} c none s _ (by_p1 x) = none P1 ps c.marked (s, x)
no_label_p {ps = ps} c none s _ (by_p3 h x) = none P3 ps c.marked (s, (h, x))
no_label_p {ps = ps} c none s _ (by_p5 h x) = none P5 ps c.marked (s, (h, x))

no_label_q : {f : Layout} {v : Marks} {row : List ℕ} {n : ℕ} {ps : List Label} → AtNode f v row n ps → IsChoice f v n false None → shape_at f n ≡ Some Q →
    (x : Label) → IsLabelOfQ (child_trees f n) ps x → ⊥
no_label_q {f = f} {n = n} c none s _ (q_empty e) = not_empty c (q_inner f n s) e
no_label_q {ps = ps} c none s _ (by_q1 x) = none Q1 ps c.marked (s, x)
no_label_q {ps = ps} c none s _ (by_q2 h x) = none Q2 ps c.marked (s, (h, x))

-- what holds of the tree of a labelled node where no template stands: it is no leaf
by_shape : {f : Layout} {v : Marks} {row : List ℕ} {n : ℕ} {ps : List Label} {root : Bool} → AtNode f v row n ps → IsChoice f v n root None → (R : Outline → Type 0) →
    (shape_at f n ≡ Some P → R (p_node (child_trees f n))) → (shape_at f n ≡ Some Q → R (q_node (child_trees f n))) → R (outline_below f n)
by_shape {f = f} {n = n} {ps = ps} c none R of_p of_q = by (shape_at f n) refl
  where
    by : (o : Option Shape) → shape_at f n ≡ o → R (outline_below f n)
    by None e = absurd (c.right.used e)
    by (Some (Leaf a)) e = absurd (none L1 ps c.marked ((a, e), leaf_fits c a e))
    by (Some P) e = subst R (sym (below_p f n c.layout e)) (of_p e)
    by (Some Q) e = subst R (sym (below_q f n c.layout e)) (of_q e)

-- where no template stands at a labelled node below the root, its tree is unfit
pub unfit : {f : Layout} {v : Marks} {row : List ℕ} {n : ℕ} {ps : List Label} → AtNode f v row n ps → IsChoice f v n false None → IsUnfit row (outline_below f n)
unfit {row = row} {ps = ps} c none = by_shape c none (IsUnfit row) (λ e. (ps, c.labels, no_label_p c none e)) (λ e. (ps, c.labels, no_label_q c none e))

no_root_p : {f : Layout} {v : Marks} {n : ℕ} (ps : List Label) → AreMarkedAs f v n ps → IsChoice f v n true None → shape_at f n ≡ Some P →
    (u : Outline) → IsRootOfP (child_trees f n) ps u → ⊥
no_root_p ps m none s _ (root_p1 x) = none P1 ps m (s, x)
no_root_p ps m none s _ (root_p2 u x) = none P2 ps m (s, (u, x))
no_root_p ps m none s _ (root_p4 u x) = none P4 ps m (s, (u, x))
no_root_p ps m none s _ (root_p6 u x) = none P6 ps m (s, (u, x))

no_root_q : {f : Layout} {v : Marks} {n : ℕ} (ps : List Label) → AreMarkedAs f v n ps → IsChoice f v n true None → shape_at f n ≡ Some Q →
    (u : Outline) → IsRootOfQ (child_trees f n) ps u → ⊥
no_root_q ps m none s _ (root_q1 x) = none Q1 ps m (s, x)
no_root_q ps m none s _ (root_q2 h u x i) = none Q2 ps m (s, (h, x))
no_root_q ps m none s _ (root_q3 u x) = none Q3 ps m (s, (u, x))

-- where none stands at the root, the root is unfit
pub unfit_root : {f : Layout} {v : Marks} {row : List ℕ} {n : ℕ} {ps : List Label} → AtNode f v row n ps → IsChoice f v n true None → IsUnfitRoot row (outline_below f n)
unfit_root {row = row} {ps = ps} c none =
    by_shape c none (IsUnfitRoot row) (λ e. (ps, c.labels, no_root_p ps c.marked none e)) (λ e. (ps, c.labels, no_root_q ps c.marked none e))

-- labels of the children, from one of each
pub record Labels (f : Layout) (v : Marks) (row ks : List ℕ) : Type 0 where
  pub ps : List Label
  pub labels : AreLabels row (forest (map (outline_below f) ks)) ps
  pub marked : map mark_of ps ≡ map (label_at v) ks

pub labels_built : (f : Layout) (v : Marks) (row ks : List ℕ) → ((k : ℕ) → 1 ≤ occurs ks k → IsLabelled f v row k) → Labels f v row ks
labels_built f v row [] of = record { ps = []; labels = tt; marked = refl }
labels_built f v row (k ∷ ks) of =
    let l : IsLabelled f v row k = of k (occurs_here k ks) in
    let r : Labels f v row ks = labels_built f v row ks (λ x o. of x (omega arith)) in
    record {
      ps = l.label ∷ r.ps;
      labels = (l.is, r.labels);
      marked = ap (λ z. z ∷ map mark_of r.ps) l.marked ∙ ap (λ z. label_at v k ∷ z) r.marked;
    }

-- a node that the row misses has its label
pub missed : (f : Layout) (v : Marks) (row : List ℕ) (k : ℕ) → IsLayout f → IsRow f.columns row → IsInUse f k → IsRight f (column_leaves row) k (label_at v k) → label_at v k ≡ Empty → IsLabelled f v row k
missed f v row k h r used right e = record {
  label = empty_label;
  is = empty_is f row k h r used (subst (λ z. IsRight f (column_leaves row) k z) e right);
  marked = sym e;
}
