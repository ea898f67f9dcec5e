-- Ways down to a leaf, step by step.
use Rattle.std.proofs.Common.{◌≡◌, ◌∙◌, ◌+◌, ◌-◌, ◌<◌, ◌≤◌, ◌⊎◌, ℕ, List, [], ◌∷◌, ◌++◌, map, reverse, length, get_or, take, Bool, true, false, eqb, eqb-true, eq-eqb, refl, sym, ap, subst, inl, inr, arith}
use Rattle.std.proofs.lemmas.Bool.{false≢true}
use Rattle.std.proofs.lemmas.List.{reverse-append, length-map}
use Rattle.pq_tree.specs.Outline.{Outline, leaf, p_node, q_node}
use Rattle.pq_tree.specs.Proper.{outline_of, forest, trees, count, HasArities, HaveArities}
use Rattle.pq_tree.specs.declared.Tree.{Tree}
use Rattle.pq_tree.proofs.Forests.{forest-trees, trees-forest, count_forest}
use Rattle.order_list.specs.Reading.{CanBegin, tree_at}
use Rattle.order_list.specs.Next.{OneBegins}
use Rattle.order_list.specs.Ways.{Leads, IsWay}
use Rattle.order_list.proofs.Readings.{arities_at}
use Rattle.order_list.proofs.Taking.{reverse_arities}
use Rattle.order_list.proofs.Begins.{begins_leaf, begins_p, begins_q, one_more, p_begins, q_begins, outline_at}
use Rattle.order_list.proofs.Children.{p_counts, q_counts}

-- a step down from a P-node, and one from a Q-node
pub p_step : (ts : List Outline) (k : ℕ) (ks : List ℕ) (x : ℕ) → k < length ts → Leads ks (tree_at ts k) x → Leads (k ∷ ks) (p_node (forest ts)) x
p_step ts k ks x l h = subst (λ us. (k < length us) × Leads ks (tree_at us k) x) (sym (trees-forest ts)) (l, h)

pub p_stepped : (ts : List Outline) (k : ℕ) (ks : List ℕ) (x : ℕ) → Leads (k ∷ ks) (p_node (forest ts)) x → (k < length ts) × Leads ks (tree_at ts k) x
p_stepped ts k ks x h = subst (λ us. (k < length us) × Leads ks (tree_at us k) x) (trees-forest ts) h

pub q_step : (ts : List Outline) (k : ℕ) (ks : List ℕ) (x : ℕ) → (k ≡ 0) ⊎ (k + 1 ≡ length ts) → Leads ks (tree_at ts k) x → Leads (k ∷ ks) (q_node (forest ts)) x
q_step ts k ks x l h = subst (λ us. ((k ≡ 0) ⊎ (k + 1 ≡ length us)) × Leads ks (tree_at us k) x) (sym (trees-forest ts)) (l, h)

pub q_stepped : (ts : List Outline) (k : ℕ) (ks : List ℕ) (x : ℕ) → Leads (k ∷ ks) (q_node (forest ts)) x → ((k ≡ 0) ⊎ (k + 1 ≡ length ts)) × Leads ks (tree_at ts k) x
q_stepped ts k ks x h = subst (λ us. ((k ≡ 0) ⊎ (k + 1 ≡ length us)) × Leads ks (tree_at us k) x) (trees-forest ts) h

-- the last place is the first step
last_parted : (p : ℕ) (ps : List ℕ) → p ∷ ps ≡ take (length ps) (p ∷ ps) ++ get_or (p ∷ ps) (length ps) 0 ∷ []
last_parted p [] = refl
last_parted p (q ∷ qs) = ap (λ l. p ∷ l) (last_parted q qs)

last_place : (ps : List ℕ) → 1 ≤ length ps → reverse ps ≡ get_or ps (length ps - 1) 0 ∷ reverse (take (length ps - 1) ps)
last_place [] n = absurd (omega arith)
last_place (p ∷ ps) n =
    let m : length ps ≡ length (p ∷ ps) - 1 = omega arith in
    subst (λ k. reverse (p ∷ ps) ≡ get_or (p ∷ ps) k 0 ∷ reverse (take k (p ∷ ps))) m
    (ap reverse (last_parted p ps) ∙ reverse-append (take (length ps) (p ∷ ps)) (get_or (p ∷ ps) (length ps) 0 ∷ []))

-- a tree with a way to a column can begin with it
pub leads_begin : (ks : List ℕ) (t : Outline) (x : ℕ) → HasArities t → Leads ks t x → CanBegin t x
leads_begin [] (leaf a) x h w = ([], ap (λ y. y ∷ []) (sym w))
leads_begin [] (p_node ts) x h w = absurd w
leads_begin [] (q_node ts) x h w = absurd w
leads_begin (k ∷ ks) (leaf a) x h w = absurd w
leads_begin (k ∷ ks) (p_node ts) x h w =
    let us : List Outline = trees ts in
    let e : ts ≡ forest us = sym (forest-trees ts) in
    let b : CanBegin (tree_at us k) x = leads_begin ks (tree_at us k) x (arities_at us k (subst HaveArities e h.1) w.0) w.1 in
    subst (λ vs. CanBegin (p_node vs) x) (sym e) (begins_p us x (k, w.0, b))
leads_begin (k ∷ ks) (q_node ts) x h w =
    let us : List Outline = trees ts in
    let e : ts ≡ forest us = sym (forest-trees ts) in
    let n : 1 ≤ length us = omega (arith, h.0, ap count e, count_forest us) in
    let inside : k < length us = elim w.0 [ inl z ↦ omega (arith, z) | inr z ↦ omega (arith, z) ] in
    let b : CanBegin (tree_at us k) x = leads_begin ks (tree_at us k) x (arities_at us k (subst HaveArities e h.1) inside) w.1 in
    let at_end : CanBegin (tree_at us 0) x ⊎ CanBegin (tree_at us (length us - 1)) x =
    elim w.0 [
      | inl z ↦ inl (subst (λ j. CanBegin (tree_at us j) x) z b)
      | inr z ↦ inr (let m : k ≡ length us - 1 = omega (arith, z) in subst (λ j. CanBegin (tree_at us j) x) m b)
    ] in
    subst (λ vs. CanBegin (q_node vs) x) (sym e) (begins_q us x n at_end)

-- a place more at the end is a step more at the top
module _ (u v : Outline) (ts : List Outline) (k : ℕ) (ps new : List ℕ) (x : ℕ) (at : tree_at ts k ≡ v) (pushed : new ≡ ps ++ k ∷ []) (below : Leads (reverse ps) v x) where
  turned : reverse new ≡ k ∷ reverse ps
  turned = ap reverse pushed ∙ reverse-append ps (k ∷ [])

  there : Leads (reverse ps) (tree_at ts k) x
  there = subst (λ t. Leads (reverse ps) t x) (sym at) below

  pub p_pushed : u ≡ p_node (forest ts) → k < length ts → Leads (reverse new) u x
  p_pushed e l = subst (λ t. Leads (reverse new) t x) (sym e) (subst (λ l. Leads l (p_node (forest ts)) x) (sym turned) (p_step ts k (reverse ps) x l there))

  pub q_pushed : u ≡ q_node (forest ts) → (k ≡ 0) ⊎ (k + 1 ≡ length ts) → Leads (reverse new) u x
  q_pushed e l = subst (λ t. Leads (reverse new) t x) (sym e) (subst (λ l. Leads l (q_node (forest ts)) x) (sym turned) (q_step ts k (reverse ps) x l there))

-- a way to where no empty way leads has a step
some_place : (u : Outline) (ps : List ℕ) (x : ℕ) → (Leads [] u x → ⊥) → Leads (reverse ps) u x → 1 ≤ length ps
some_place u [] x none w = absurd (none w)
some_place u (p ∷ ps) x none w = omega arith

-- and the last place is the first step
module _ (ps : List ℕ) (ts : List Outline) (x : ℕ) where
  pub p_some_place : Leads (reverse ps) (p_node (forest ts)) x → 1 ≤ length ps
  p_some_place = some_place (p_node (forest ts)) ps x (λ w. w)

  pub q_some_place : Leads (reverse ps) (q_node (forest ts)) x → 1 ≤ length ps
  q_some_place = some_place (q_node (forest ts)) ps x (λ w. w)

  module _ (k : ℕ) (front : List ℕ) (is : k ≡ get_or ps (length ps - 1) 0) (cut : front ≡ take (length ps - 1) ps) where
    parts : 1 ≤ length ps → reverse ps ≡ k ∷ reverse front
    parts n = last_place ps n ∙ ap (λ j. j ∷ reverse (take (length ps - 1) ps)) (sym is) ∙ ap (λ l. k ∷ reverse l) (sym cut)

    pub p_parted : Leads (reverse ps) (p_node (forest ts)) x → (k < length ts) × Leads (reverse front) (tree_at ts k) x
    p_parted w = p_stepped ts k (reverse front) x (subst (λ l. Leads l (p_node (forest ts)) x) (parts (p_some_place w)) w)

    pub q_parted : Leads (reverse ps) (q_node (forest ts)) x → ((k ≡ 0) ⊎ (k + 1 ≡ length ts)) × Leads (reverse front) (tree_at ts k) x
    q_parted w = q_stepped ts k (reverse front) x (subst (λ l. Leads l (q_node (forest ts)) x) (parts (q_some_place w)) w)

-- a search that cannot fail finds a way
pub found_way : (u : Outline) (x : ℕ) (b : Bool) (ps : List ℕ) → CanBegin u x → IsWay u x b ps → Leads (reverse ps) u x
found_way u x true ps c w = w
found_way u x false ps c w = absurd (w.1 c)

-- the search for a way: at a leaf, and at nodes none of whose children that can come first begins with the column
pub leaf_way : (u : Outline) (a x : ℕ) (b : Bool) (ps : List ℕ) → u ≡ leaf a → b ≡ eqb a x → ps ≡ [] → IsWay u x b ps
leaf_way u a x b ps e s n =
    (elim b as (λ v. b ≡ v → IsWay u x v ps) [
      | true ↦ λ t. subst (λ l. Leads (reverse l) u x) (sym n) (subst (λ v. Leads [] v x) (sym e) (eqb-true a x (sym s ∙ t)))
      | false ↦ λ t. (n, λ c. false≢true (sym t ∙ s ∙ eq-eqb a x (sym (begins_leaf a x (subst (λ v. CanBegin v x) e c)))))
    ]) refl

module _ (u : Outline) (ts : List Tree) (x : ℕ) (h : HasArities u) where
  pub none_more : (i : ℕ) (t : Tree) → i < length ts → t ≡ get_or ts i t → (OneBegins (map outline_of ts) i x → ⊥) → (CanBegin (outline_of t) x → ⊥) → OneBegins (map outline_of ts) (i + 1) x → ⊥
  none_more i t l e not other r =
      elim (one_more (map outline_of ts) i x r) [ inl s ↦ not s | inr b ↦ other (subst (λ v. CanBegin v x) (outline_at ts i t l e) b) ]

  pub none_p : u ≡ p_node (forest (map outline_of ts)) → (i : ℕ) → length ts ≤ i → (OneBegins (map outline_of ts) i x → ⊥) → CanBegin u x → ⊥
  none_p e i l not b =
      let us : List Outline = map outline_of ts in
      let counts = p_counts u us e h in
      let r : OneBegins us (length us) x = p_begins us x (omega (arith, counts.0)) counts.1 (subst (λ v. CanBegin v x) e b) in
      not (r.0, omega (arith, l, r.1, length-map ts outline_of), r.2)

  pub none_q : u ≡ q_node (forest (map outline_of ts)) → (t v : Tree) → t ≡ get_or ts 0 t → v ≡ get_or ts (length ts - 1) v → (CanBegin (outline_of t) x → ⊥) → (CanBegin (outline_of v) x → ⊥) → CanBegin u x → ⊥
  none_q e t v first last not other b =
      let us : List Outline = map outline_of ts in
      let counts = q_counts u us e h in
      let n : length us ≡ length ts = length-map ts outline_of in
      elim (q_begins us x (omega (arith, counts.0)) counts.1 (reverse_arities us counts.1) (subst (λ w. CanBegin w x) e b)) [
        | inl f ↦ not (subst (λ w. CanBegin w x) (outline_at ts 0 t (omega (arith, counts.0, n)) first) f)
        | inr l ↦ other (subst (λ w. CanBegin w x) (ap (λ k. tree_at us (k - 1)) n ∙ outline_at ts (length ts - 1) v (omega (arith, counts.0, n)) last) l)
      ]
