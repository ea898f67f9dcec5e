-- A Q-node where two nodes have taken the place of a P-node: its tree is what Q2 or Q3 makes of it, up to turning.
use Rattle.std.proofs.Common.{◌≡◌, ◌≢◌, ℕ, ◌+◌, ◌≤◌, List, [], ◌∷◌, ◌++◌, map, length, Some, None, inl, inr, refl, sym, ap, subst, ◌∙◌, arith}
use Rattle.std.proofs.lemmas.List.{append_assoc, map-append}
use Rattle.column_order.specs.Orders.{occurs}
use Rattle.pq_tree.specs.Outline.{Outline, Forest, q_node, no_tree, tree_and}
use Rattle.pq_tree.specs.Forests.{forest, join, back}
use Rattle.pq_tree.specs.Equivalent.{IsEquivalent, AreEquivalent}
use Rattle.pq_tree.proofs.Forests.{join_assoc, back-join}
use Rattle.pq_tree.proofs.Turnings.{equivalent_refl}
use Rattle.tree_theory.specs.Templates.{star, p3, q3}
use Rattle.arena_model.specs.declared.Shape.TheVariants.{Q}
use Rattle.arena_model.specs.ChildLists.{head_or, last_or, none}
use Rattle.arena_model.specs.Layout.{Slot, Layout, shape_at, children_at, IsLayout, IsAtOrAbove}
use Rattle.arena_model.specs.NamedTree.{IsAt, outline_below}
use Rattle.arena_model.proofs.Lists.{occurs_here}
use Rattle.arena_model.proofs.Outlines.{below_named}
use Rattle.arena_model.proofs.Slots.{child_used}
use Rattle.arena_model.proofs.Trees.{TreeAt, tree_at, at_same, reached}
use Rattle.templates_p.specs.Dividing.{CanDivide, IsDivided}
use Rattle.row_reduce.proofs.Blocks.{trees_at}
use Rattle.row_reduce.proofs.Labelling.{below_q}

-- the same node, told by another list
pub relisted : {f h : Layout} {q n : ℕ} {ms : List ℕ} {l k : ℕ → ℕ → List ℕ} → ((r g : ℕ) → l r g ≡ k r g) → IsDivided f h q n ms l → IsDivided f h q n ms k
relisted e d = record { rest = d.rest; group = d.group; replaced = d.replaced; is_q = d.is_q; children = d.children ∙ e d.rest d.group; trees = d.trees; kept = d.kept }

-- a list by its first and by its last
first_and : (ks : List ℕ) → 1 ≤ length ks → (ws : List ℕ) × (ks ≡ head_or ks none ∷ ws)
first_and [] l = absurd (omega arith)
first_and (k ∷ ks) l = (ks, refl)

and_last : (ks : List ℕ) → 1 ≤ length ks → (ws : List ℕ) × (ks ≡ ws ++ (last_or ks none ∷ []))
and_last [] l = absurd (omega arith)
and_last (k ∷ []) l = ([], refl)
and_last (k ∷ j ∷ ks) l = let r = and_last (j ∷ ks) (omega arith) in (k ∷ r.0, ap (λ w. k ∷ w) r.1)

-- the last of a run, before what is behind it
last_before : (us ks ws : List ℕ) (t : ℕ) (ys : List ℕ) → ks ≡ ws ++ (t ∷ []) → us ++ (ks ++ ys) ≡ (us ++ ws) ++ (t ∷ ys)
last_before us ks ws t ys e = ap (λ z. us ++ (z ++ ys)) e ∙ ap (λ z. us ++ z) (append_assoc ws (t ∷ []) ys) ∙ sym (append_assoc us ws (t ∷ ys))

-- the P-node n was divided, beside t, wherever it stands
pub record IsDone (f h : Layout) (n t : ℕ) (ms : List ℕ) : Type 0 where
  pub before : (q : ℕ) (us vs : List ℕ) → shape_at f q ≡ Some Q → children_at f q ≡ us ++ (n ∷ (t ∷ vs)) → IsDivided f h q n ms (λ r g. us ++ (r ∷ (g ∷ (t ∷ vs))))
  pub behind : (q : ℕ) (us vs : List ℕ) → shape_at f q ≡ Some Q → children_at f q ≡ us ++ (t ∷ (n ∷ vs)) → IsDivided f h q n ms (λ r g. us ++ (t ∷ (g ∷ (r ∷ vs))))

-- n stands before a run of children that begins with t, or behind one that ends with t
pub can_before : {f : Layout} {n t : ℕ} (q : ℕ) (us ks vs : List ℕ) → shape_at f q ≡ Some Q → 1 ≤ length ks → t ≡ head_or ks none → children_at f q ≡ us ++ (n ∷ (ks ++ vs)) → CanDivide f n t
can_before {n = n} q us ks vs is_q some at e =
    let w = first_and ks some in
    record { q = q; us = us; vs = w.0 ++ vs; is_q = is_q; place = inl (e ∙ ap (λ z. us ++ (n ∷ (z ++ vs))) (w.1 ∙ ap (λ z. z ∷ w.0) (sym at))) }

pub can_behind : {f : Layout} {n t : ℕ} (q : ℕ) (us ks vs : List ℕ) → shape_at f q ≡ Some Q → 1 ≤ length ks → t ≡ last_or ks none → children_at f q ≡ us ++ (ks ++ (n ∷ vs)) → CanDivide f n t
can_behind {n = n} {t = t} q us ks vs is_q some at e =
    let w = and_last ks some in
    record { q = q; us = us ++ w.0; vs = vs; is_q = is_q; place = inr (e ∙ last_before us ks w.0 t (n ∷ vs) (w.1 ∙ ap (λ z. w.0 ++ (z ∷ [])) (sym at))) }

-- what is there once it was divided
pub divided_before : {f h : Layout} {n t : ℕ} {ms : List ℕ} → IsDone f h n t ms → (q : ℕ) (us ks vs : List ℕ) → shape_at f q ≡ Some Q → 1 ≤ length ks → t ≡ head_or ks none →
    children_at f q ≡ us ++ (n ∷ (ks ++ vs)) → IsDivided f h q n ms (λ r g. us ++ (r ∷ (g ∷ (ks ++ vs))))
divided_before {n = n} {t = t} done q us ks vs is_q some at e =
    let w = first_and ks some in
    let k : ks ≡ t ∷ w.0 = w.1 ∙ ap (λ z. z ∷ w.0) (sym at) in
    relisted (λ r g. ap (λ z. us ++ (r ∷ (g ∷ (z ++ vs)))) (sym k)) (done.before q us (w.0 ++ vs) is_q (e ∙ ap (λ z. us ++ (n ∷ (z ++ vs))) k))

pub divided_behind : {f h : Layout} {n t : ℕ} {ms : List ℕ} → IsDone f h n t ms → (q : ℕ) (us ks vs : List ℕ) → shape_at f q ≡ Some Q → 1 ≤ length ks → t ≡ last_or ks none →
    children_at f q ≡ us ++ (ks ++ (n ∷ vs)) → IsDivided f h q n ms (λ r g. us ++ (ks ++ (g ∷ (r ∷ vs))))
divided_behind {n = n} {t = t} done q us ks vs is_q some at e =
    let w = and_last ks some in
    let k : ks ≡ w.0 ++ (t ∷ []) = w.1 ∙ ap (λ z. w.0 ++ (z ∷ [])) (sym at) in
    relisted (λ r g. sym (last_before us ks w.0 t (g ∷ (r ∷ vs)) k)) (done.behind q (us ++ w.0) vs is_q (e ∙ last_before us ks w.0 t (n ∷ vs) k))

-- nodes that keep their trees, before others
kept_before : (F G : ℕ → Outline) (ks : List ℕ) (ts : Forest) (us : List Outline) → ((k : ℕ) → 1 ≤ occurs ks k → G k ≡ F k) → AreEquivalent ts us → AreEquivalent (join (trees_at F ks) ts) (map G ks ++ us)
kept_before F G [] ts us same e = e
kept_before F G (k ∷ ks) ts us same e =
    (subst (IsEquivalent (F k)) (sym (same k (occurs_here k ks))) (equivalent_refl (F k)), kept_before F G ks ts us (λ j o. same j (omega arith)) e)

-- and none before them
all_kept : (F G : ℕ → Outline) (ks : List ℕ) → ((k : ℕ) → 1 ≤ occurs ks k → G k ≡ F k) → AreEquivalent (trees_at F ks) (map G ks)
all_kept F G [] same = tt
all_kept F G (k ∷ ks) same =
    (subst (IsEquivalent (F k)) (sym (same k (occurs_here k ks))) (equivalent_refl (F k)), all_kept F G ks (λ j o. same j (omega arith)))

-- one tree before others
one_before : (xs ts : Forest) (u : Outline) (us : List Outline) → AreEquivalent xs (u ∷ []) → AreEquivalent ts us → AreEquivalent (join xs ts) (u ∷ us)
one_before no_tree ts u us a b = absurd a
one_before (tree_and x no_tree) ts u us a b = (a.0, b)
one_before (tree_and x (tree_and y xs)) ts u us a b = absurd (a.1)

back_star : (ts : Forest) → back (star ts) ≡ star ts
back_star no_tree = refl
back_star (tree_and t no_tree) = refl
back_star (tree_and t (tree_and u us)) = refl

-- a partial turned round, before others
back_line : (es fs ts : Forest) → join (back (join (star es) (star fs))) ts ≡ join (star fs) (join (star es) ts)
back_line es fs ts =
    ap (λ xs. join xs ts) (back-join (star es) (star fs) ∙ ap (λ xs. join xs (back (star es))) (back_star fs) ∙ ap (join (star fs)) (back_star es)) ∙ join_assoc (star fs) (star es) ts

module _ (F G : ℕ → Outline) (es fs : Forest) (us ks vs : List ℕ) (r g : ℕ) (same : (k : ℕ) → 1 ≤ occurs us k + (occurs ks k + occurs vs k) → G k ≡ F k)
    (rest : AreEquivalent (star es) (G r ∷ [])) (group : AreEquivalent (star fs) (G g ∷ [])) where
  front_all : AreEquivalent (join (trees_at F us) (join (star es) (join (star fs) (join (trees_at F ks) (trees_at F vs))))) (map G us ++ (G r ∷ (G g ∷ (map G ks ++ map G vs))))
  front_all =
      kept_before F G us (join (star es) (join (star fs) (join (trees_at F ks) (trees_at F vs)))) (G r ∷ (G g ∷ (map G ks ++ map G vs))) (λ k o. same k (omega arith))
      (one_before (star es) (join (star fs) (join (trees_at F ks) (trees_at F vs))) (G r) (G g ∷ (map G ks ++ map G vs)) rest
      (one_before (star fs) (join (trees_at F ks) (trees_at F vs)) (G g) (map G ks ++ map G vs) group
      (kept_before F G ks (trees_at F vs) (map G vs) (λ k o. same k (omega arith)) (all_kept F G vs (λ k o. same k (omega arith))))))

  rear_all : AreEquivalent (join (trees_at F us) (join (trees_at F ks) (join (star fs) (join (star es) (trees_at F vs))))) (map G us ++ (map G ks ++ (G g ∷ (G r ∷ map G vs))))
  rear_all =
      kept_before F G us (join (trees_at F ks) (join (star fs) (join (star es) (trees_at F vs)))) (map G ks ++ (G g ∷ (G r ∷ map G vs))) (λ k o. same k (omega arith))
      (kept_before F G ks (join (star fs) (join (star es) (trees_at F vs))) (G g ∷ (G r ∷ map G vs)) (λ k o. same k (omega arith))
      (one_before (star fs) (join (star es) (trees_at F vs)) (G g) (G r ∷ map G vs) group
      (one_before (star es) (trees_at F vs) (G r) (map G vs) rest (all_kept F G vs (λ k o. same k (omega arith))))))

  pub front_turned : AreEquivalent (q3 (trees_at F us) (Some (p3 es fs)) (trees_at F ks) None (trees_at F vs)) (map G (us ++ (r ∷ (g ∷ (ks ++ vs)))))
  front_turned =
      subst (λ ts. AreEquivalent (join (trees_at F us) ts) (map G (us ++ (r ∷ (g ∷ (ks ++ vs)))))) (sym (join_assoc (star es) (star fs) (join (trees_at F ks) (trees_at F vs))))
      (subst (AreEquivalent (join (trees_at F us) (join (star es) (join (star fs) (join (trees_at F ks) (trees_at F vs))))))
      (sym (map-append G us (r ∷ (g ∷ (ks ++ vs))) ∙ ap (λ ws. map G us ++ (G r ∷ (G g ∷ ws))) (map-append G ks vs))) front_all)

  pub rear_turned : AreEquivalent (q3 (trees_at F us) None (trees_at F ks) (Some (p3 es fs)) (trees_at F vs)) (map G (us ++ (ks ++ (g ∷ (r ∷ vs)))))
  rear_turned =
      subst (λ ts. AreEquivalent (join (trees_at F us) (join (trees_at F ks) ts)) (map G (us ++ (ks ++ (g ∷ (r ∷ vs))))))
      (sym (back_line es fs (trees_at F vs)))
      (subst (AreEquivalent (join (trees_at F us) (join (trees_at F ks) (join (star fs) (join (star es) (trees_at F vs))))))
      (sym (map-append G us (ks ++ (g ∷ (r ∷ vs))) ∙ ap (λ ws. map G us ++ ws) (map-append G ks (g ∷ (r ∷ vs))))) rear_all)

module _ (F G : ℕ → Outline) (es fs xs ys : Forest) (us ks vs : List ℕ) (r g i j : ℕ) (same : (k : ℕ) → 1 ≤ occurs us k + (occurs ks k + occurs vs k) → G k ≡ F k)
    (rest : AreEquivalent (star es) (G r ∷ [])) (group : AreEquivalent (star fs) (G g ∷ [])) (last_rest : AreEquivalent (star xs) (G i ∷ [])) (last_group : AreEquivalent (star ys) (G j ∷ [])) where
  behind : AreEquivalent (join (trees_at F ks) (join (star ys) (join (star xs) (trees_at F vs)))) (map G ks ++ (G j ∷ (G i ∷ map G vs)))
  behind =
      kept_before F G ks (join (star ys) (join (star xs) (trees_at F vs))) (G j ∷ (G i ∷ map G vs)) (λ k o. same k (omega arith))
      (one_before (star ys) (join (star xs) (trees_at F vs)) (G j) (G i ∷ map G vs) last_group
      (one_before (star xs) (trees_at F vs) (G i) (map G vs) last_rest (all_kept F G vs (λ k o. same k (omega arith)))))

  both_all : AreEquivalent (join (trees_at F us) (join (star es) (join (star fs) (join (trees_at F ks) (join (star ys) (join (star xs) (trees_at F vs))))))) (map G us ++ (G r ∷ (G g ∷ (map G ks ++ (G j ∷ (G i ∷ map G vs))))))
  both_all =
      kept_before F G us (join (star es) (join (star fs) (join (trees_at F ks) (join (star ys) (join (star xs) (trees_at F vs)))))) (G r ∷ (G g ∷ (map G ks ++ (G j ∷ (G i ∷ map G vs))))) (λ k o. same k (omega arith))
      (one_before (star es) (join (star fs) (join (trees_at F ks) (join (star ys) (join (star xs) (trees_at F vs))))) (G r) (G g ∷ (map G ks ++ (G j ∷ (G i ∷ map G vs)))) rest
      (one_before (star fs) (join (trees_at F ks) (join (star ys) (join (star xs) (trees_at F vs)))) (G g) (map G ks ++ (G j ∷ (G i ∷ map G vs))) group behind))

  pub both_turned : AreEquivalent (q3 (trees_at F us) (Some (p3 es fs)) (trees_at F ks) (Some (p3 xs ys)) (trees_at F vs)) (map G (us ++ (r ∷ (g ∷ (ks ++ (j ∷ (i ∷ vs)))))))
  both_turned =
      subst (λ ts. AreEquivalent (join (trees_at F us) ts) (map G (us ++ (r ∷ (g ∷ (ks ++ (j ∷ (i ∷ vs)))))))) (sym (ap (λ ts. join (join (star es) (star fs)) (join (trees_at F ks) ts)) (back_line xs ys (trees_at F vs)) ∙ join_assoc (star es) (star fs) (join (trees_at F ks) (join (star ys) (join (star xs) (trees_at F vs))))))
      (subst (AreEquivalent (join (trees_at F us) (join (star es) (join (star fs) (join (trees_at F ks) (join (star ys) (join (star xs) (trees_at F vs))))))))
      (sym (map-append G us (r ∷ (g ∷ (ks ++ (j ∷ (i ∷ vs))))) ∙ ap (λ ws. map G us ++ (G r ∷ (G g ∷ ws))) (map-append G ks (j ∷ (i ∷ vs))))) both_all)

-- the tree at another child stays
pub sibling_kept : {f h : Layout} {q n : ℕ} {ms : List ℕ} {list : ℕ → ℕ → List ℕ} → IsLayout f → IsLayout h → IsDivided f h q n ms list → (k : ℕ) → 1 ≤ occurs (children_at f q) k → k ≢ n →
    outline_below h k ≡ outline_below f k
sibling_kept {f = f} {h = h} {q = q} fl hl d k o ne =
    let t : TreeAt f k = tree_at f k fl (child_used f q k fl o) in
    let i : IsAt h.slots t.it = at_same f.slots h.slots t.it (λ x ox.
    let l : IsAtOrAbove f.slots k x = subst (λ z. IsAtOrAbove f.slots z x) t.named (reached f.slots t.it x t.is ox) in
    let e = d.kept k x o ne l in
    ap (λ z. let c : Slot = record { shape = z; children = children_at h x } in c) e.0 ∙ ap (λ z. let c : Slot = record { shape = shape_at f x; children = z } in c) e.1) t.is in
    ap (outline_below h) (sym t.named) ∙ below_named h t.it hl i ∙ sym (below_named f t.it fl t.is) ∙ ap (outline_below f) t.named

-- a Q-node over turned trees is the turned Q-node
pub q_turned : (h : Layout) (q : ℕ) (ts : Forest) (ks : List ℕ) → IsLayout h → shape_at h q ≡ Some Q → children_at h q ≡ ks → AreEquivalent ts (map (outline_below h) ks) → IsEquivalent (q_node ts) (outline_below h q)
q_turned h q ts ks hl is_q e a = (map (outline_below h) ks, a, inl (below_q h q hl is_q ∙ ap (λ ws. q_node (forest (map (outline_below h) ws))) e))
