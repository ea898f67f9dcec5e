-- What a template makes of the pertinent root.
use Rattle.std.proofs.Common.{◌≡◌, ◌⊎◌, inl, inr, ℕ, true, List, [], ◌∷◌, ◌++◌, map, Some, IsTrue, refl, sym, ap, subst, ◌∙◌}
use Rattle.std.specs.Prelude.{IsFalse}
use Rattle.std.proofs.lemmas.List.{map-append}
use Rattle.column_order.specs.Orders.{has}
use Rattle.pq_tree.specs.Outline.{Outline, Forest, leaf, p_node, q_node, no_tree, tree_and}
use Rattle.pq_tree.specs.Forests.{forest, trees, join, back}
use Rattle.pq_tree.specs.Equivalent.{IsEquivalent, AreEquivalent}
use Rattle.pq_tree.proofs.Forests.{forest-trees, forest_append, forest_reverse, map-reverse}
use Rattle.pq_tree.proofs.Turnings.{equivalent_refl}
use Rattle.tree_theory.specs.Templates.{Partial, Label, partial_label, line}
use Rattle.tree_theory.specs.Chosen.{IsRootOfP, IsRootOfQ, root_p1, root_p2, root_p4, root_p6, root_q1, root_q2, root_q3}
use Rattle.tree_theory.specs.Reduced.{AreLabels, IsTurned, IsRootMade}
use Rattle.arena_model.specs.declared.Shape.TheVariants.{Leaf, P, Q}
use Rattle.arena_model.specs.Layout.{Layout, shape_at, IsLayout}
use Rattle.arena_model.specs.NamedTree.{outline_below}
use Rattle.bubble_pass.specs.Marks.{Marks}
use Rattle.template_model.specs.Standing.{child_trees, IsShapeAt}
use Rattle.template_model.specs.Treated.{StandsForTree, StandsForPartial}
use Rattle.row_reduce.specs.declared.template.Template.{Template}
use Rattle.row_reduce.specs.declared.template.Template.TheVariants.{L1, P1, P2, P3, P4, P5, P6, Q1, Q2, Q3}
use Rattle.row_reduce.specs.Fits.{TemplateFits}
use Rattle.row_reduce.specs.Becomes.{IsMade, IsSame}
use Rattle.row_reduce.proofs.Agree.{Agree, agree_sym, agree_same, p2_moved, p4_moved, p6_moved, q2_moved, q3_moved}
use Rattle.row_reduce.proofs.Labelling.{below_p, below_q, below_leaf}

equivalent_join : (xs ys : Forest) (us vs : List Outline) → AreEquivalent xs us → AreEquivalent ys vs → AreEquivalent (join xs ys) (us ++ vs)
equivalent_join no_tree ys [] vs a b = b
equivalent_join no_tree ys (u ∷ us) vs a b = absurd a
equivalent_join (tree_and x xs) ys [] vs a b = absurd a
equivalent_join (tree_and x xs) ys (u ∷ us) vs a b = (a.0, equivalent_join xs ys us vs a.1 b)

-- the tree at a Q-shape
shape_tree : (g : Layout) (w : Marks) (a : ℕ) (h : Partial) → IsLayout g → IsShapeAt g w a h → (outline_below g a ≡ q_node (line h)) ⊎ (outline_below g a ≡ q_node (back (line h)))
shape_tree g w a h hl i = elim i.children [
  | inl e ↦ inl (below_q g a hl i.is_q ∙ ap (λ z. q_node (forest (map (outline_below g) z))) e ∙ ap q_node whole)
  | inr e ↦ inr (below_q g a hl i.is_q ∙ ap (λ z. q_node (forest (map (outline_below g) z))) e
      ∙ ap (λ z. q_node (forest z)) (map-reverse (outline_below g) (i.es ++ i.fs)) ∙ ap q_node (forest_reverse (map (outline_below g) (i.es ++ i.fs))) ∙ ap (λ z. q_node (back z)) whole)
]
  where
    whole : forest (map (outline_below g) (i.es ++ i.fs)) ≡ line h
    whole = ap forest (map-append (outline_below g) i.es i.fs) ∙ forest_append (map (outline_below g) i.es) (map (outline_below g) i.fs)
        ∙ ap (λ z. join z (forest (map (outline_below g) i.fs))) (sym i.empty_trees) ∙ ap (join h.e) (sym i.full_trees)

-- the Q-node of a partial, its trees turned, is the Q-node of the partial, turned
turned_line : (x h : Partial) (u : Outline) → IsTurned (partial_label x) (partial_label h) → (u ≡ q_node (line h)) ⊎ (u ≡ q_node (back (line h))) → IsEquivalent (q_node (line x)) u
turned_line x h u t s =
    let k : Partial = t.0 in
    let e : h ≡ k = (let z : partial_label h ≡ partial_label k = t.3 in cc) in
    let us : List Outline = trees k.e ++ trees k.f in
    let all : line h ≡ forest us = ap line e ∙ ap (λ z. join z k.f) (sym (forest-trees k.e)) ∙ ap (join (forest (trees k.e))) (sym (forest-trees k.f)) ∙ sym (forest_append (trees k.e) (trees k.f)) in (
      us,
      equivalent_join x.e x.f (trees k.e) (trees k.f) t.1 t.2,
      elim s [
        | inl q ↦ inl (q ∙ ap q_node all)
        | inr q ↦ inr (q ∙ ap (λ z. q_node (back z)) all ∙ ap q_node (sym (forest_reverse us)))
      ],
    )

-- what stands at a in the place of the pertinent root q
pub record RootMade (f : Layout) (row : List ℕ) (q : ℕ) (h : Layout) (a : ℕ) : Type 0 where
  pub tree : Outline
  pub made : IsRootMade row (outline_below f q) tree
  pub stands : IsEquivalent tree (outline_below h a)

-- the root and what has come in the place of its children
pub record AtRoot (f g h : Layout) (v w u : Marks) (row : List ℕ) (q a : ℕ) (ps : List Label) : Type 0 where
  pub f_layout : IsLayout f
  pub g_layout : IsLayout g
  pub h_layout : IsLayout h
  pub shape : shape_at g q ≡ shape_at f q
  pub labels : AreLabels row (child_trees f q) ps
  pub agree : Agree (child_trees f q) (child_trees g q) ps

same_tree : {f g h : Layout} {v w u : Marks} {row : List ℕ} {q a : ℕ} {ps : List Label} → AtRoot f g h v w u row q a ps → IsSame g h w u q a → outline_below g q ≡ outline_below f q → IsEquivalent (outline_below f q) (outline_below h a)
same_tree {f = f} {g = g} {h = h} {q = q} {a = a} s made e =
    let all : outline_below h a ≡ outline_below f q = ap (λ z. outline_below z a) made.0 ∙ ap (outline_below g) made.2 ∙ e in
    subst (λ z. IsEquivalent (outline_below f q) z) (sym all) (equivalent_refl (outline_below f q))

not_false : IsFalse true → ⊥
not_false e = cc

p_made : {f g h : Layout} {v w u : Marks} {row : List ℕ} {q a : ℕ} {ps : List Label} → AtRoot f g h v w u row q a ps → shape_at f q ≡ Some P → (x : Outline) → IsRootOfP (child_trees f q) ps x → StandsForTree h a x → RootMade f row q h a
p_made {f = f} {row = row} {q = q} {ps = ps} s e x by st = record {
  tree = x;
  made = subst (λ z. IsRootMade row z x) (sym (below_p f q s.f_layout e)) (ps, s.labels, by);
  stands = st;
}

q_made : {f g h : Layout} {v w u : Marks} {row : List ℕ} {q a : ℕ} {ps : List Label} → AtRoot f g h v w u row q a ps → shape_at f q ≡ Some Q → (x : Outline) → IsRootOfQ (child_trees f q) ps x → IsEquivalent x (outline_below h a) → RootMade f row q h a
q_made {f = f} {row = row} {q = q} {ps = ps} s e x by st = record {
  tree = x;
  made = subst (λ z. IsRootMade row z x) (sym (below_q f q s.f_layout e)) (ps, s.labels, by);
  stands = st;
}

-- the column of a leaf is in the row
abbrev pub IsLeafIn : List ℕ → Layout → ℕ → Type 0
IsLeafIn row f q = (b : ℕ) → shape_at f q ≡ Some (Leaf b) → IsTrue (has row b)

pub root_made : (t : Template) {f g h : Layout} {v w u : Marks} {row : List ℕ} {q a : ℕ} {ps : List Label} → AtRoot f g h v w u row q a ps → IsLeafIn row f q → TemplateFits t f v q true ps → IsMade t g h w u q a ps → RootMade f row q h a
root_made L1 {f = f} {g = g} {h = h} {row = row} {q = q} {a = a} s m fit made = record {
  tree = leaf fit.0.0;
  made = subst (λ z. IsRootMade row z (leaf fit.0.0)) (sym (below_leaf f q fit.0.0 s.f_layout fit.0.1)) (m fit.0.0 fit.0.1, refl);
  stands = subst (λ z. IsEquivalent z (outline_below h a)) (below_leaf f q fit.0.0 s.f_layout fit.0.1)
      (same_tree s made (below_leaf g q fit.0.0 s.g_layout (s.shape ∙ fit.0.1) ∙ sym (below_leaf f q fit.0.0 s.f_layout fit.0.1)));
}
root_made P1 {f = f} {g = g} {h = h} {q = q} {a = a} s m fit made = p_made s fit.0 (p_node (child_trees f q)) (root_p1 fit.1)
    (subst (λ z. IsEquivalent z (outline_below h a)) (below_p f q s.f_layout fit.0)
    (same_tree s made (below_p g q s.g_layout (s.shape ∙ fit.0) ∙ ap p_node (sym (agree_same fit.1 refl (child_trees g q) s.agree)) ∙ sym (below_p f q s.f_layout fit.0))))
root_made P2 {f = f} {g = g} {q = q} {ps = ps} s m fit made = p_made s fit.0 fit.1.0 (root_p2 fit.1.0 fit.1.1) (made fit.1.0 (p2_moved true (child_trees f q) (child_trees g q) ps fit.1.0 s.agree fit.1.1))
root_made P3 s m fit made = absurd (not_false fit.1.1.below)
root_made P4 {f = f} {g = g} {q = q} {ps = ps} s m fit made = p_made s fit.0 fit.1.0 (root_p4 fit.1.0 fit.1.1) (made fit.1.0 (p4_moved true (child_trees f q) (child_trees g q) ps fit.1.0 s.agree fit.1.1))
root_made P5 s m fit made = absurd (not_false fit.1.1.below)
root_made P6 {f = f} {g = g} {q = q} {ps = ps} s m fit made = p_made s fit.0 fit.1.0 (root_p6 fit.1.0 fit.1.1) (made fit.1.0 (p6_moved true (child_trees f q) (child_trees g q) ps fit.1.0 s.agree fit.1.1))
root_made Q1 {f = f} {g = g} {h = h} {q = q} {a = a} s m fit made = q_made s fit.0 (q_node (child_trees f q)) (root_q1 fit.1)
    (subst (λ z. IsEquivalent z (outline_below h a)) (below_q f q s.f_layout fit.0)
    (same_tree s made (below_q g q s.g_layout (s.shape ∙ fit.0) ∙ ap q_node (sym (agree_same fit.1 refl (child_trees g q) s.agree)) ∙ sym (below_q f q s.f_layout fit.0))))
root_made Q2 {f = f} {g = g} {h = h} {u = u} {q = q} {a = a} {ps = ps} s m fit made =
    let r : StandsForPartial h u a fit.1.0 = made fit.1.0 (q2_moved (child_trees f q) (child_trees g q) ps fit.1.0 s.agree fit.1.1) in
    q_made s fit.0 (q_node (line fit.1.0)) (root_q2 fit.1.0 (q_node (line fit.1.0)) fit.1.1 (inl refl))
    (turned_line fit.1.0 r.shape (outline_below h a) r.turned (shape_tree h u a r.shape s.h_layout r.is))
root_made Q3 {f = f} {g = g} {q = q} {ps = ps} s m fit made =
    q_made s fit.0 made.0 (root_q3 made.0 (q3_moved true (child_trees g q) (child_trees f q) ps made.0 (agree_sym (child_trees f q) (child_trees g q) ps s.agree) made.1)) made.2
