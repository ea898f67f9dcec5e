-- The tree in which the pertinent root has been replaced.
use Rattle.std.proofs.Common.{◌≡◌, ◌≢◌, inl, inr, ℕ, ◌+◌, ◌≤◌, cond, eqb, true, false, Bool, List, [], ◌∷◌, ◌++◌, map, Some, None, Option, refl, sym, ap, subst, ◌∙◌, arith, eq-eqb, eqb-true}
use Rattle.std.proofs.lemmas.Bool.{cases_eq, cases_lt, ne_eqb}
use Rattle.std.proofs.lemmas.List.{map-append}
use Rattle.column_order.specs.Orders.{occurs}
use Rattle.column_order.proofs.Lists.{occurs-append}
use Rattle.pq_tree.specs.Outline.{Outline, Forest, p_node, q_node, tree_and}
use Rattle.pq_tree.specs.Forests.{forest, join}
use Rattle.pq_tree.proofs.Forests.{forest_append}
use Rattle.tree_theory.specs.Reduced.{IsReplaced, replaced_here, replaced_under_p, replaced_under_q}
use Rattle.arena_model.specs.ChildLists.{with_replaced}
use Rattle.arena_model.specs.declared.Shape.{Shape}
use Rattle.arena_model.specs.declared.Shape.TheVariants.{Leaf, P, Q}
use Rattle.arena_model.specs.Layout.{Slot, Layout, slot, shape_at, children_at, times_child, IsInUse, IsLayout, IsAtOrAbove, here, down, MayHaveChildren}
use Rattle.arena_model.specs.NamedTree.{IsAt, outline_below, outline_at}
use Rattle.arena_model.proofs.Lists.{occurs_here, occurs_same, SplitAt, split_at, replaced_split, replaced_none}
use Rattle.arena_model.proofs.Slots.{child_used, children_times}
use Rattle.arena_model.proofs.Paths.{above_step, one_path}
use Rattle.arena_model.proofs.Trees.{TreeAt, tree_at, at_same, reached, name_used, no_circle}
use Rattle.arena_model.proofs.Outlines.{below_named, below_children, apart_children}
use Rattle.template_model.specs.Treated.{IsOutside}
use Rattle.template_model.proofs.Replaced.{outside_child, above_outside}

-- a stands in h where q stands in f, and the nodes that are not at or below q are as they were but for that
pub record IsExchanged (f h : Layout) (q a : ℕ) : Type 0 where
  pub f_layout : IsLayout f
  pub h_layout : IsLayout h
  pub used : IsInUse f q
  pub root : h.root ≡ cond (eqb f.root q) a f.root
  pub outside : (m : ℕ) → IsOutside f q m → (shape_at h m ≡ shape_at f m) × (children_at h m ≡ with_replaced (children_at f m) q a)

-- q in the place of q
pub same_root : (b : Bool) (a q : ℕ) → eqb a q ≡ b → cond b q a ≡ a
same_root true a q e = sym (eqb-true a q e)
same_root false a q e = refl

slot_kept : {f h : Layout} {q a : ℕ} → IsExchanged f h q a → (m : ℕ) → IsOutside f q m → occurs (children_at f m) q ≡ 0 → slot h.slots m ≡ slot f.slots m
slot_kept {f = f} {h = h} {q = q} {a = a} r m out lacks =
    let s = r.outside m out in
    let k : children_at h m ≡ children_at f m = s.1 ∙ replaced_none (children_at f m) q a lacks in
    ap (λ z. let c : Slot = record { shape = z; children = children_at h m } in c) s.0
    ∙ ap (λ z. let c : Slot = record { shape = shape_at f m; children = z } in c) k

-- the tree at a node that is neither above q nor at or below it stays
tree_kept : {f h : Layout} {q a : ℕ} → IsExchanged f h q a → (m : ℕ) → IsOutside f q m → (IsAtOrAbove f.slots m q → ⊥) → outline_below h m ≡ outline_below f m
tree_kept {f = f} {h = h} {q = q} r m out apart =
    let t : TreeAt f m = tree_at f m r.f_layout out.0 in
    let i : IsAt h.slots t.it = at_same f.slots h.slots t.it (λ x o.
    let l : IsAtOrAbove f.slots m x = subst (λ z. IsAtOrAbove f.slots z x) t.named (reached f.slots t.it x t.is o) in
    slot_kept r x (name_used f t.it x t.is o, λ lq. elim (one_path f m q x r.f_layout l lq) [ inl p ↦ apart p | inr p ↦ out.1 p ])
    (elim (cases_lt 0 (occurs (children_at f x) q)) [
      | inl o' ↦ absurd (apart (above_step f.slots m x q l o'))
      | inr o' ↦ omega arith
    ])) t.is in
    ap (outline_below h) (sym t.named) ∙ below_named h t.it r.h_layout i ∙ sym (below_named f t.it r.f_layout t.is) ∙ ap (outline_below f) t.named

trees_same : (F G : ℕ → Outline) (ks : List ℕ) → ((k : ℕ) → 1 ≤ occurs ks k → F k ≡ G k) → forest (map F ks) ≡ forest (map G ks)
trees_same F G [] e = refl
trees_same F G (k ∷ ks) e = ap (λ z. tree_and z (forest (map F ks))) (e k (occurs_here k ks)) ∙ ap (tree_and (G k)) (trees_same F G ks (λ x o. e x (omega arith)))

split_forest : (F : ℕ → Outline) (us : List ℕ) (k : ℕ) (vs : List ℕ) → forest (map F (us ++ k ∷ vs)) ≡ join (forest (map F us)) (tree_and (F k) (forest (map F vs)))
split_forest F us k vs = ap forest (map-append F us (k ∷ vs)) ∙ forest_append (map F us) (map F (k ∷ vs))

-- the tree at a node p over us, k and vs, before and after
under : {f h : Layout} {q a : ℕ} (r : IsExchanged f h q a) (p k b : ℕ) (us vs : List ℕ) → IsOutside f q p → children_at f p ≡ us ++ k ∷ vs → children_at h p ≡ us ++ b ∷ vs →
    ((j : ℕ) → 1 ≤ occurs us j + occurs vs j → outline_below h j ≡ outline_below f j) →
    IsReplaced (outline_below f q) (outline_below h a) (outline_below f k) (outline_below h b) →
    IsReplaced (outline_below f q) (outline_below h a) (outline_below f p) (outline_below h p)
under {f = f} {h = h} {q = q} {a = a} r p k b us vs out old new same i = at (shape_at f p) refl
  where
    F : Forest
    F = join (forest (map (outline_below f) us)) (tree_and (outline_below f k) (forest (map (outline_below f) vs)))

    G : Forest
    G = join (forest (map (outline_below f) us)) (tree_and (outline_below h b) (forest (map (outline_below f) vs)))

    old_trees : forest (map (outline_below f) (children_at f p)) ≡ F
    old_trees = ap (λ z. forest (map (outline_below f) z)) old ∙ split_forest (outline_below f) us k vs

    new_trees : forest (map (outline_below h) (children_at h p)) ≡ G
    new_trees = ap (λ z. forest (map (outline_below h) z)) new ∙ split_forest (outline_below h) us b vs
        ∙ ap (λ z. join z (tree_and (outline_below h b) (forest (map (outline_below h) vs)))) (trees_same (outline_below h) (outline_below f) us (λ j o. same j (omega arith)))
        ∙ ap (λ z. join (forest (map (outline_below f) us)) (tree_and (outline_below h b) z)) (trees_same (outline_below h) (outline_below f) vs (λ j o. same j (omega arith)))

    some : 1 ≤ occurs (children_at f p) k
    some = subst (λ z. 1 ≤ occurs z k) (sym old) (omega (arith, occurs-append us (k ∷ vs) k, occurs_here k vs))

    at : (o : Option Shape) → shape_at f p ≡ o → IsReplaced (outline_below f q) (outline_below h a) (outline_below f p) (outline_below h p)
    at None e = absurd (out.0 e)
    at (Some (Leaf c)) e = absurd (let z : 1 ≤ occurs [] k = subst (λ v. 1 ≤ occurs v k) (subst (λ v. MayHaveChildren v (children_at f p)) e (r.f_layout.children_fit p)) some in omega arith)
    at (Some P) e =
        subst (λ z. IsReplaced (outline_below f q) (outline_below h a) z (outline_below h p)) (sym (below_children f p P r.f_layout e ∙ ap p_node old_trees))
        (subst (λ z. IsReplaced (outline_below f q) (outline_below h a) (p_node F) z) (sym (below_children h p P r.h_layout ((r.outside p out).0 ∙ e) ∙ ap p_node new_trees))
        (replaced_under_p (forest (map (outline_below f) us)) (forest (map (outline_below f) vs)) i))
    at (Some Q) e =
        subst (λ z. IsReplaced (outline_below f q) (outline_below h a) z (outline_below h p)) (sym (below_children f p Q r.f_layout e ∙ ap q_node old_trees))
        (subst (λ z. IsReplaced (outline_below f q) (outline_below h a) (q_node F) z) (sym (below_children h p Q r.h_layout ((r.outside p out).0 ∙ e) ∙ ap q_node new_trees))
        (replaced_under_q (forest (map (outline_below f) us)) (forest (map (outline_below f) vs)) i))

once_in : (f : Layout) (p x : ℕ) → IsLayout f → occurs (children_at f p) x ≤ 1
once_in f p x h = let a : occurs (children_at f p) x ≤ times_child f.slots x = children_times f p x in let b : times_child f.slots x ≤ 1 = h.once x in omega arith

-- the tree at a node above q has its new part
above_replaced : {f h : Layout} {q a : ℕ} (r : IsExchanged f h q a) (p k : ℕ) → IsInUse f p → 1 ≤ occurs (children_at f p) k → IsAtOrAbove f.slots k q →
    (k ≢ q → IsReplaced (outline_below f q) (outline_below h a) (outline_below f k) (outline_below h k)) →
    IsReplaced (outline_below f q) (outline_below h a) (outline_below f p) (outline_below h p)
above_replaced {f = f} {h = h} {q = q} {a = a} r p k used o l ih = elim (cases_eq k q) [
  | inl e ↦
      let old : children_at f p ≡ us ++ q ∷ vs = s.is ∙ ap (λ z. us ++ z ∷ vs) e in
      let new : children_at h p ≡ us ++ a ∷ vs = (r.outside p out).1 ∙ ap (λ z. with_replaced z q a) old ∙ replaced_split us vs q a (subst (λ z. occurs z q ≤ 1) old (once_in f p q r.f_layout)) in
      under r p q a us vs out old new (λ j oj. sibling j oj (λ z. other j oj (z ∙ sym e))) replaced_here
  | inr ne ↦
      let lacks : occurs (children_at f p) q ≡ 0 = elim (cases_lt 0 (occurs (children_at f p) q)) [
        | inl oq ↦ absurd (apart_children f p k q r.f_layout o oq l ne)
        | inr oq ↦ omega arith
      ] in
      let new : children_at h p ≡ us ++ k ∷ vs = (r.outside p out).1 ∙ replaced_none (children_at f p) q a lacks ∙ s.is in
      under r p k k us vs out s.is new (λ j oj. sibling j oj (λ z. let w : 1 ≤ occurs (children_at f p) q = subst (λ y. 1 ≤ occurs (children_at f p) y) z (child j oj) in absurd (omega arith))) (ih ne)
]
  where
    s : SplitAt (children_at f p) k
    s = split_at (children_at f p) k o

    us : List ℕ
    us = s.us

    vs : List ℕ
    vs = s.vs

    out : IsOutside f q p
    out = above_outside f q p r.f_layout used (down p k q o l) (λ e. no_circle f.slots p k (r.f_layout.grounds p) o (subst (λ z. IsAtOrAbove f.slots k z) (sym e) l))

    count : (j : ℕ) → occurs (children_at f p) j ≡ occurs us j + occurs (k ∷ vs) j
    count j = ap (λ z. occurs z j) s.is ∙ occurs-append us (k ∷ vs) j

    child : (j : ℕ) → 1 ≤ occurs us j + occurs vs j → 1 ≤ occurs (children_at f p) j
    child j oj = omega (arith, count j)

    other : (j : ℕ) → 1 ≤ occurs us j + occurs vs j → j ≢ k
    other j oj e =
        let b : occurs (children_at f p) k ≤ 1 = once_in f p k r.f_layout in
        let oj' : 1 ≤ occurs us k + occurs vs k = subst (λ z. 1 ≤ occurs us z + occurs vs z) e oj in
        absurd (omega (arith, count k, occurs_same k vs))

    sibling : (j : ℕ) → 1 ≤ occurs us j + occurs vs j → j ≢ q → outline_below h j ≡ outline_below f j
    sibling j oj ne = tree_kept r j (outside_child f q p j r.f_layout out (child j oj) ne) (λ lj. elim (one_path f j k q r.f_layout lj l) [
      | inl z ↦ apart_children f p j k r.f_layout (child j oj) o z (other j oj)
      | inr z ↦ apart_children f p k j r.f_layout o (child j oj) z (λ e. other j oj (sym e))
    ])

pub replaced_along : {f h : Layout} {q a : ℕ} (r : IsExchanged f h q a) (p : ℕ) → IsInUse f p → IsAtOrAbove f.slots p q → p ≢ q → IsReplaced (outline_below f q) (outline_below h a) (outline_below f p) (outline_below h p)
replaced_along {f = f} {h = h} {q = q} {a = a} r p used l ne = walk p q l refl used ne
  where
    walk : (p x : ℕ) → IsAtOrAbove f.slots p x → x ≡ q → IsInUse f p → p ≢ q → IsReplaced (outline_below f q) (outline_below h a) (outline_below f p) (outline_below h p)
    walk _ _ (here n) e used ne = absurd (ne e)
    walk _ _ (down p k x o l) e used ne =
        above_replaced r p k used o (subst (λ z. IsAtOrAbove f.slots k z) e l) (λ nk. walk k x l e (child_used f p k r.f_layout o) nk)

-- the whole tree has its new part
pub replaced_whole : {f h : Layout} {q a : ℕ} → IsExchanged f h q a → IsAtOrAbove f.slots f.root q → IsReplaced (outline_below f q) (outline_below h a) (outline_at f) (outline_at h)
replaced_whole {f = f} {h = h} {q = q} {a = a} r l = elim (cases_eq f.root q) [
  | inl e ↦
      let root : h.root ≡ a = r.root ∙ ap (λ b. cond b a f.root) (eq-eqb f.root q e) in
      subst (λ z. IsReplaced (outline_below f q) (outline_below h a) z (outline_at h)) (ap (outline_below f) (sym e))
      (subst (λ z. IsReplaced (outline_below f q) (outline_below h a) (outline_below f q) z) (ap (outline_below h) (sym root)) replaced_here)
  | inr ne ↦
      let root : h.root ≡ f.root = r.root ∙ ap (λ b. cond b a f.root) (ne_eqb f.root q ne) in
      subst (λ z. IsReplaced (outline_below f q) (outline_below h a) (outline_at f) z) (ap (outline_below h) (sym root)) (replaced_along r f.root r.f_layout.root_used l ne)
]
