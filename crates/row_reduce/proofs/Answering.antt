-- What a template makes of a node whose labelled children have given their answers.
use Rattle.std.proofs.Common.{◌≡◌, ◌≢◌, inl, inr, ℕ, ◌≤◌, true, false, List, [], ◌∷◌, map, Some, IsTrue, refl, sym, ap, subst, ◌∙◌, arith}
use Rattle.std.specs.Prelude.{IsFalse}
use Rattle.std.proofs.lemmas.Bool.{cases_lt}
use Rattle.column_order.specs.Orders.{occurs}
use Rattle.pq_tree.specs.Outline.{Outline, Forest, p_node, q_node, tree_and}
use Rattle.pq_tree.specs.Forests.{forest}
use Rattle.tree_theory.specs.Templates.{Partial, Label, empty_label, full_label, partial_label, AreAllFull}
use Rattle.tree_theory.specs.Chosen.{IsLabelOfP, IsLabelOfQ, by_p1, by_p3, by_p5, by_q1, by_q2}
use Rattle.tree_theory.specs.Reduced.{IsLabel, AreLabels, IsTurned}
use Rattle.arena_model.specs.declared.Shape.TheVariants.{Leaf, P, Q}
use Rattle.arena_model.specs.Layout.{Slot, Layout, slot, shape_at, children_at, IsLayout, IsInUse, IsAtOrAbove}
use Rattle.arena_model.specs.NamedTree.{IsAt, outline_below, HasTwoEach}
use Rattle.arena_model.proofs.Lists.{occurs_here}
use Rattle.arena_model.proofs.Paths.{above_step, one_path}
use Rattle.arena_model.proofs.Trees.{TreeAt, tree_at, at_same, reached, name_used}
use Rattle.arena_model.proofs.Outlines.{below_named}
use Rattle.pq_arena.specs.RowNodes.{column_leaves}
use Rattle.bubble_pass.specs.declared.labels.Label.{Label as Mark}
use Rattle.bubble_pass.specs.declared.labels.Label.TheVariants.{Empty, Partial as Partly, Full}
use Rattle.bubble_pass.specs.Marks.{Marks, label_at}
use Rattle.bubble_pass.specs.Sweep.{IsRight}
use Rattle.template_model.specs.Standing.{mark_of, child_trees, AreShapesAt, IsShapeAt}
use Rattle.template_model.specs.Treated.{IsTreated, StandsForPartial}
use Rattle.row_reduce.specs.declared.template.Template.{Template}
use Rattle.row_reduce.specs.declared.template.Template.TheVariants.{L1, P1, P2, P3, P4, P5, P6, Q1, Q2, Q3}
use Rattle.row_reduce.specs.Fits.{TemplateFits}
use Rattle.row_reduce.specs.Becomes.{IsSame, IsMade}
use Rattle.row_reduce.specs.Applying.{IsStanding, IsAnswered, AreApplied}
use Rattle.row_reduce.proofs.Agree.{Agree, agree_same, p3_moved, p5_moved, q2_moved}
use Rattle.row_reduce.proofs.Labelling.{AtNode, below_p, below_q, below_leaf, full_mark, partial_mark, not_full_p3, not_full_p5, not_full_q2}
use Rattle.row_reduce.proofs.Leaves.{LeafBelow, leaf_below, full_leaf}

-- node b of the arena g in the place of the child k
pub record ChildNow (f : Layout) (v : Marks) (row : List ℕ) (g : Layout) (w : Marks) (k b : ℕ) : Type 0 where
  pub label : Label
  pub is : IsLabel row (outline_below f k) label
  pub marked : mark_of label ≡ label_at v k
  pub kept : label_at w b ≡ label_at v k
  pub shape : (h : Partial) → label ≡ partial_label h → IsShapeAt g w b h
  pub full : label ≡ full_label → outline_below g b ≡ outline_below f k
  pub empty : label ≡ empty_label → outline_below g b ≡ outline_below f k

-- what stands in the place of the children ks, by their labels
pub record ChildrenNow (f : Layout) (v : Marks) (row : List ℕ) (g : Layout) (w : Marks) (ks bs : List ℕ) : Type 0 where
  pub ps : List Label
  pub labels : AreLabels row (forest (map (outline_below f) ks)) ps
  pub marked : map mark_of ps ≡ map (label_at v) ks
  pub marked_now : map mark_of ps ≡ map (label_at w) bs
  pub shapes : AreShapesAt g w bs ps
  pub agree : Agree (forest (map (outline_below f) ks)) (forest (map (outline_below g) bs)) ps

more_shapes : (g : Layout) (w : Marks) (b : ℕ) (bs : List ℕ) (p : Label) (ps : List Label) → ((h : Partial) → p ≡ partial_label h → IsShapeAt g w b h) → AreShapesAt g w bs ps → AreShapesAt g w (b ∷ bs) (p ∷ ps)
more_shapes g w b bs empty_label ps shape rest = rest
more_shapes g w b bs full_label ps shape rest = rest
more_shapes g w b bs (partial_label h) ps shape rest = (shape h refl, rest)

more_agree : (t u : Outline) (ts us : Forest) (p : Label) (ps : List Label) → (p ≡ full_label → u ≡ t) → (p ≡ empty_label → u ≡ t) → Agree ts us ps → Agree (tree_and t ts) (tree_and u us) (p ∷ ps)
more_agree t u ts us empty_label ps full empty rest = (sym (empty refl), rest)
more_agree t u ts us full_label ps full empty rest = (sym (full refl), rest)
more_agree t u ts us (partial_label h) ps full empty rest = rest

pub children_built : (f : Layout) (v : Marks) (row : List ℕ) (g : Layout) (w : Marks) (place : ℕ → ℕ) (ks : List ℕ) → ((k : ℕ) → 1 ≤ occurs ks k → ChildNow f v row g w k (place k)) →
    ChildrenNow f v row g w ks (map place ks)
children_built f v row g w place [] of = record { ps = []; labels = tt; marked = refl; marked_now = refl; shapes = tt; agree = refl }
children_built f v row g w place (k ∷ ks) of =
    let c : ChildNow f v row g w k (place k) = of k (occurs_here k ks) in
    let r : ChildrenNow f v row g w ks (map place ks) = children_built f v row g w place ks (λ x o. of x (omega arith)) in
    record {
      ps = c.label ∷ r.ps;
      labels = (c.is, r.labels);
      marked = ap (λ z. z ∷ map mark_of r.ps) c.marked ∙ ap (λ z. label_at v k ∷ z) r.marked;
      marked_now = ap (λ z. z ∷ map mark_of r.ps) (c.marked ∙ sym c.kept) ∙ ap (λ z. label_at w (place k) ∷ z) r.marked_now;
      shapes = more_shapes g w (place k) (map place ks) c.label r.ps c.shape r.shapes;
      agree = more_agree (outline_below f k) (outline_below g (place k)) (forest (map (outline_below f) ks)) (forest (map (outline_below g) (map place ks))) c.label r.ps c.full c.empty r.agree;
    }

pub map_fixed : (place : ℕ → ℕ) (ks : List ℕ) → ((k : ℕ) → 1 ≤ occurs ks k → place k ≡ k) → map place ks ≡ ks
map_fixed place [] e = refl
map_fixed place (k ∷ ks) e = ap (λ z. z ∷ map place ks) (e k (occurs_here k ks)) ∙ ap (λ z. k ∷ z) (map_fixed place ks (λ x o. e x (omega arith)))

none_of : (ds : List ℕ) (k : ℕ) → (1 ≤ occurs ds k → ⊥) → occurs ds k ≡ 0
none_of ds k lacks = elim (cases_lt 0 (occurs ds k)) [ inl l ↦ absurd (lacks l) | inr l ↦ omega arith ]

-- a tree of which no node is done stays
pub tree_stays : (f g : Layout) (v w : Marks) (row ds : List ℕ) (place : ℕ → ℕ) (k : ℕ) → IsLayout f → IsLayout g → AreApplied f v row ds place g w → IsStanding f ds k →
    ((y : ℕ) → 1 ≤ occurs ds y → IsAtOrAbove f.slots k y → ⊥) → outline_below g k ≡ outline_below f k
tree_stays f g v w row ds place k h hg a standing clear =
    let t : TreeAt f k = tree_at f k h standing.used in
    let i : IsAt g.slots t.it = at_same f.slots g.slots t.it (λ x o. same x (name_used f t.it x t.is o) (subst (λ z. IsAtOrAbove f.slots z x) t.named (reached f.slots t.it x t.is o))) t.is in
    ap (outline_below g) (sym t.named) ∙ below_named g t.it hg i ∙ sym (below_named f t.it h t.is) ∙ ap (outline_below f) t.named
  where
    stands : (x : ℕ) → IsInUse f x → IsAtOrAbove f.slots k x → IsStanding f ds x
    stands x used l = record {
      used = used;
      clear = λ y oy ly. elim (one_path f k y x h l ly) [ inl p ↦ clear y oy p | inr p ↦ standing.clear y oy p ];
    }

    same : (x : ℕ) → IsInUse f x → IsAtOrAbove f.slots k x → slot g.slots x ≡ slot f.slots x
    same x used l =
        let s : IsStanding f ds x = stands x used l in
        let c : children_at g x ≡ children_at f x = a.children x s ∙ map_fixed place (children_at f x) (λ j o. a.fixed j (none_of ds j (λ d. clear j d (above_step f.slots k x j l o)))) in
        ap (λ z. let c : Slot = record { shape = z; children = children_at g x } in c) (a.shapes x s)
        ∙ ap (λ z. let c : Slot = record { shape = shape_at f x; children = z } in c) c

-- a labelled node is above a leaf of the row
pub meets_row : (f : Layout) (row : List ℕ) (y : ℕ) (m : Mark) → IsLayout f → HasTwoEach f → IsInUse f y → IsRight f row y m → m ≢ Empty → (x : ℕ) × IsAtOrAbove f.slots y x × (1 ≤ occurs row x)
meets_row f row y Empty h two used r some = absurd (some refl)
meets_row f row y Partly h two used r some = r.0
meets_row f row y Full h two used r some = let l : LeafBelow f y = leaf_below f y h two used in (l.x, l.below, r l.x l.column l.below l.leaf)

-- the state in which a template is applied at n, which is marked so that its labels are right
pub record AtAnswer (f g h : Layout) (v w u : Marks) (row ds : List ℕ) (place : ℕ → ℕ) (n a : ℕ) (c : ChildrenNow f v row g w (children_at f n) (map place (children_at f n))) : Type 0 where
  pub at : AtNode f v row n c.ps
  pub g_layout : IsLayout g
  pub before : AreApplied f v row ds place g w
  pub standing : IsStanding f ds n
  pub treated : IsTreated g h w u n a

pub agree_at : {f g h : Layout} {v w u : Marks} {row ds : List ℕ} {place : ℕ → ℕ} {n a : ℕ} {c : ChildrenNow f v row g w (children_at f n) (map place (children_at f n))} →
    AtAnswer f g h v w u row ds place n a c → Agree (child_trees f n) (child_trees g n) c.ps
agree_at {f = f} {g = g} {n = n} {c = c} s = subst (λ z. Agree (child_trees f n) (forest (map (outline_below g) z)) c.ps) (sym (s.before.children n s.standing)) c.agree

full_answer : {f g h : Layout} {v w u : Marks} {row ds : List ℕ} {place : ℕ → ℕ} {n a : ℕ} {c : ChildrenNow f v row g w (children_at f n) (map place (children_at f n))} →
    AtAnswer f g h v w u row ds place n a c → IsLabel row (outline_below f n) full_label → label_at v n ≡ Full → IsSame g h w u n a → outline_below g n ≡ outline_below f n → IsAnswered f v row h u n a
full_answer {f = f} {g = g} {h = h} {n = n} {a = a} s is mark made same = record {
  used = s.treated.arena.used;
  kept = s.treated.marks.label ∙ s.before.labels n s.standing;
  label = full_label;
  is = is;
  marked = sym mark;
  shape = λ h e. absurd (cc);
  same = λ e. ap (λ z. outline_below z a) made.0 ∙ ap (outline_below g) made.2 ∙ same;
}

partial_answer : {f g h : Layout} {v w u : Marks} {row ds : List ℕ} {place : ℕ → ℕ} {n a : ℕ} {c : ChildrenNow f v row g w (children_at f n) (map place (children_at f n))} →
    AtAnswer f g h v w u row ds place n a c → (x : Partial) → ((y : Label) → IsTurned (partial_label x) y → IsLabel row (outline_below f n) y) → label_at v n ≡ Partly → StandsForPartial h u a x → IsAnswered f v row h u n a
partial_answer {h = h} {u = u} {n = n} {a = a} s x is mark made = record {
  used = s.treated.arena.used;
  kept = s.treated.marks.label ∙ s.before.labels n s.standing;
  label = partial_label made.shape;
  is = is (partial_label made.shape) made.turned;
  marked = sym mark;
  shape = λ e q. subst (λ z. IsShapeAt h u a z) (let z : made.shape ≡ e = cc in z) made.is;
  same = λ e. absurd (cc);
}

same_p : {f g h : Layout} {v w u : Marks} {row ds : List ℕ} {place : ℕ → ℕ} {n a : ℕ} {c : ChildrenNow f v row g w (children_at f n) (map place (children_at f n))} →
    AtAnswer f g h v w u row ds place n a c → shape_at f n ≡ Some P → AreAllFull (child_trees f n) c.ps → outline_below g n ≡ outline_below f n
same_p {f = f} {g = g} {n = n} s e full =
    below_p g n s.g_layout (s.before.shapes n s.standing ∙ e) ∙ ap p_node (sym (agree_same full refl (child_trees g n) (agree_at s))) ∙ sym (below_p f n s.at.layout e)

same_q : {f g h : Layout} {v w u : Marks} {row ds : List ℕ} {place : ℕ → ℕ} {n a : ℕ} {c : ChildrenNow f v row g w (children_at f n) (map place (children_at f n))} →
    AtAnswer f g h v w u row ds place n a c → shape_at f n ≡ Some Q → AreAllFull (child_trees f n) c.ps → outline_below g n ≡ outline_below f n
same_q {f = f} {g = g} {n = n} s e full =
    below_q g n s.g_layout (s.before.shapes n s.standing ∙ e) ∙ ap q_node (sym (agree_same full refl (child_trees g n) (agree_at s))) ∙ sym (below_q f n s.at.layout e)

same_leaf : {f g h : Layout} {v w u : Marks} {row ds : List ℕ} {place : ℕ → ℕ} {n a : ℕ} {c : ChildrenNow f v row g w (children_at f n) (map place (children_at f n))} →
    AtAnswer f g h v w u row ds place n a c → (b : ℕ) → shape_at f n ≡ Some (Leaf b) → outline_below g n ≡ outline_below f n
same_leaf {f = f} {g = g} {n = n} s b e = below_leaf g n b s.g_layout (s.before.shapes n s.standing ∙ e) ∙ sym (below_leaf f n b s.at.layout e)

not_false : IsFalse true → ⊥
not_false e = cc

not_true : IsTrue false → ⊥
not_true e = cc

p_label : (f : Layout) (row : List ℕ) (n : ℕ) (ps : List Label) (x : Partial) → IsLayout f → shape_at f n ≡ Some P → AreLabels row (child_trees f n) ps →
    IsLabelOfP (child_trees f n) ps (partial_label x) → (y : Label) → IsTurned (partial_label x) y → IsLabel row (outline_below f n) y
p_label f row n ps x h e labels of y t = subst (λ z. IsLabel row z y) (sym (below_p f n h e)) (ps, partial_label x, labels, of, t)

q_label : (f : Layout) (row : List ℕ) (n : ℕ) (ps : List Label) (x : Partial) → IsLayout f → shape_at f n ≡ Some Q → AreLabels row (child_trees f n) ps →
    IsLabelOfQ (child_trees f n) ps (partial_label x) → (y : Label) → IsTurned (partial_label x) y → IsLabel row (outline_below f n) y
q_label f row n ps x h e labels of y t = subst (λ z. IsLabel row z y) (sym (below_q f n h e)) (ps, partial_label x, labels, of, t)

-- the answer of a template below the pertinent root
pub answered : (t : Template) {f g h : Layout} {v w u : Marks} {row ds : List ℕ} {place : ℕ → ℕ} {n a : ℕ} {c : ChildrenNow f v row g w (children_at f n) (map place (children_at f n))} →
    AtAnswer f g h v w u row ds place n a c → TemplateFits t f v n false c.ps → IsMade t g h w u n a c.ps → IsAnswered f v row h u n a
answered L1 {f = f} {row = row} {n = n} s fit made =
    full_answer s (subst (λ z. IsLabel row z full_label) (sym (below_leaf f n fit.0.0 s.at.layout fit.0.1))
    (inl (full_leaf f row n fit.0.0 s.at.layout s.at.is_row fit.0.1 (subst (λ z. IsRight f (column_leaves row) n z) fit.1 s.at.right.own), refl))) fit.1 made (same_leaf s fit.0.0 fit.0.1)
answered P1 {f = f} {row = row} {n = n} {c = c} s fit made =
    full_answer s (subst (λ z. IsLabel row z full_label) (sym (below_p f n s.at.layout fit.0)) (c.ps, full_label, c.labels, by_p1 fit.1, refl))
    (full_mark s.at (λ b e. absurd (let z : Some P ≡ Some (Leaf b) = sym fit.0 ∙ e in cc)) fit.1) made (same_p s fit.0 fit.1)
answered P2 s fit made = absurd (not_true fit.1.1.at)
answered P3 {f = f} {g = g} {v = v} {row = row} {n = n} {c = c} s fit made =
    let mark : label_at v n ≡ Partly = partial_mark s.at (not_full_p3 false (child_trees f n) c.ps fit.1.0 fit.1.1) in
    partial_answer s fit.1.0 (p_label f row n c.ps fit.1.0 s.at.layout fit.0 c.labels (by_p3 fit.1.0 fit.1.1)) mark
    (made fit.1.0 (p3_moved false (child_trees f n) (child_trees g n) c.ps fit.1.0 (agree_at s) fit.1.1))
answered P4 s fit made = absurd (not_true fit.1.1.at)
answered P5 {f = f} {g = g} {v = v} {row = row} {n = n} {c = c} s fit made =
    let mark : label_at v n ≡ Partly = partial_mark s.at (not_full_p5 false (child_trees f n) c.ps fit.1.0 fit.1.1) in
    partial_answer s fit.1.0 (p_label f row n c.ps fit.1.0 s.at.layout fit.0 c.labels (by_p5 fit.1.0 fit.1.1)) mark
    (made fit.1.0 (p5_moved false (child_trees f n) (child_trees g n) c.ps fit.1.0 (agree_at s) fit.1.1))
answered P6 s fit made = absurd (not_true fit.1.1.at)
answered Q1 {f = f} {row = row} {n = n} {c = c} s fit made =
    full_answer s (subst (λ z. IsLabel row z full_label) (sym (below_q f n s.at.layout fit.0)) (c.ps, full_label, c.labels, by_q1 fit.1, refl))
    (full_mark s.at (λ b e. absurd (let z : Some Q ≡ Some (Leaf b) = sym fit.0 ∙ e in cc)) fit.1) made (same_q s fit.0 fit.1)
answered Q2 {f = f} {g = g} {v = v} {row = row} {n = n} {c = c} s fit made =
    let mark : label_at v n ≡ Partly = partial_mark s.at (not_full_q2 f v n c.ps fit.1.0 c.marked fit.1.1) in
    partial_answer s fit.1.0 (q_label f row n c.ps fit.1.0 s.at.layout fit.0 c.labels (by_q2 fit.1.0 fit.1.1)) mark
    (made fit.1.0 (q2_moved (child_trees f n) (child_trees g n) c.ps fit.1.0 (agree_at s) fit.1.1))
answered Q3 s fit made = absurd (not_true fit.1.1.at)
