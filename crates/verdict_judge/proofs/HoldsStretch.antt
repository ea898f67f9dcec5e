-- A row that no node splits has the columns of a stretch of the tree.
use Rattle.std.proofs.Common.{◌≡◌, ◌⊎◌, ◌∙◌, ℕ, ◌<◌, ◌≤◌, false, not, leb, ◌&&◌, List, [], ◌∷◌, ◌++◌, IsTrue, IsFalse, refl, sym, ap, subst, inl, inr, arith}
use Rattle.std.proofs.lemmas.Bool.{cases_Bool, both_ways, or_cases, or_parts, or_from, and_cases, leb-false, false_from_ne_true}
use Rattle.column_order.specs.Orders.{has, occurs}
use Rattle.column_order.proofs.Lists.{has_append_left, has_append_right, has_append_cases, occurs-append, apart, apart'}
use Rattle.pq_tree.specs.Outline.{Outline, Forest, leaf, p_node, q_node, no_tree, tree_and, leaves, leaves_of}
use Rattle.pq_tree.specs.Proper.{forest, trees}
use Rattle.pq_tree.proofs.Shown.{leaves_of-append}
use Rattle.pq_tree.specs.Nodes.{IsNode, IsNodeOf, meets}
use Rattle.verdict_judge.specs.Holds.{IsStretch}
use Rattle.verdict_judge.specs.HoldsWalk.{misses, meeting, resumes, is_gapped, is_split, are_split}
use Rattle.verdict_judge.proofs.HoldsCases.{resumes_none, resumes_whole, gapped_none, gapped_part, gapped_whole}
use Rattle.verdict_judge.proofs.HoldsLists.{none_has, all_has, meets_cases, none_append, all_append}
use Rattle.verdict_judge.proofs.HoldsSplit.{split_p, split_q, split_and, meeting_head, meeting_tail}
use Rattle.pq_tree.proofs.Nodes.{node_itself, node_within, nodes_within}

pub three_parts : (us vs ws : List Outline) → leaves_of (forest (us ++ (vs ++ ws))) ≡ leaves_of (forest us) ++ (leaves_of (forest vs) ++ leaves_of (forest ws))
three_parts us vs ws = leaves_of-append us (vs ++ ws) ∙ ap (λ x. leaves_of (forest us) ++ x) (leaves_of-append vs ws)

run_within : (us vs ws : List Outline) (a : ℕ) → IsTrue (has (leaves_of (forest vs)) a) → IsTrue (has (leaves_of (forest (us ++ (vs ++ ws)))) a)
run_within us vs ws a h =
    ap (λ x. has x a) (three_parts us vs ws) ∙
    has_append_right (leaves_of (forest us)) (leaves_of (forest vs) ++ leaves_of (forest ws)) a (has_append_left (leaves_of (forest vs)) (leaves_of (forest ws)) a h)

pub stretch_within : (xs : List ℕ) (t : Outline) → IsStretch xs t → (a : ℕ) → IsTrue (has xs a) → IsTrue (has (leaves t) a)
stretch_within xs t s a h =
    elim s [
      | inl n ↦ node_within n.0 t n.1 a (sym (ap (λ x. has x a) n.2) ∙ h)
      | inr r ↦ node_within (q_node (forest (r.0 ++ (r.1 ++ r.2)))) t r.3 a (run_within r.0 r.1 r.2 a (sym (ap (λ x. has x a) r.4) ∙ h))
    ]

-- a stretch of one of the trees
abbrev pub IsStretchOf : List ℕ → Forest → Type 0
IsStretchOf xs ts =
    ((x : Outline) × IsNodeOf x ts × (xs ≡ leaves x)) ⊎
    ((us : List Outline) × (vs : List Outline) × (ws : List Outline) × IsNodeOf (q_node (forest (us ++ (vs ++ ws)))) ts × (xs ≡ leaves_of (forest vs)))

stretches_within : (xs : List ℕ) (ts : Forest) → IsStretchOf xs ts → (a : ℕ) → IsTrue (has xs a) → IsTrue (has (leaves_of ts) a)
stretches_within xs ts s a h =
    elim s [
      | inl n ↦ nodes_within n.0 ts n.1 a (sym (ap (λ x. has x a) n.2) ∙ h)
      | inr r ↦ nodes_within (q_node (forest (r.0 ++ (r.1 ++ r.2)))) ts r.3 a (run_within r.0 r.1 r.2 a (sym (ap (λ x. has x a) r.4) ∙ h))
    ]

-- of the tree's columns the row has those of a stretch
pub record Held (row : List ℕ) (t : Outline) : Type 0 where
  pub columns : List ℕ
  pub stretch : IsStretch columns t
  pub same : (a : ℕ) → IsTrue (has (leaves t) a) → has row a ≡ has columns a

record HeldOf (row : List ℕ) (ts : Forest) : Type 0 where
  columns : List ℕ
  stretch : IsStretchOf columns ts
  same : (a : ℕ) → IsTrue (has (leaves_of ts) a) → has row a ≡ has columns a

-- a stretch of some trees is one of a tree that has their nodes
held_above : (row : List ℕ) (t : Outline) (ts : Forest) → leaves t ≡ leaves_of ts → ((x : Outline) → IsNodeOf x ts → IsNode x t) → HeldOf row ts → Held row t
held_above row t ts e up h =
    record {
      columns = h.columns;
      stretch = elim h.stretch [ inl n ↦ inl (n.0, up n.0 n.1, n.2) | inr r ↦ inr (r.0, r.1, r.2, up (q_node (forest (r.0 ++ (r.1 ++ r.2)))) r.3, r.4) ];
      same = λ a k. h.same a (sym (ap (λ xs. has xs a) e) ∙ k);
    }

held_p : (row : List ℕ) (ts : Forest) → HeldOf row ts → Held row (p_node ts)
held_p row ts h = held_above row (p_node ts) ts refl (λ x n. inr n) h

held_q : (row : List ℕ) (ts : Forest) → HeldOf row ts → Held row (q_node ts)
held_q row ts h = held_above row (q_node ts) ts refl (λ x n. inr n) h

-- of two lists the row has the columns of a part of the first, and none of the second
first_alone : (row xs ys part : List ℕ) → ((a : ℕ) → IsTrue (has part a) → IsTrue (has ys a) → ⊥) → ((a : ℕ) → IsTrue (has xs a) → has row a ≡ has part a) → IsFalse (meets row ys) →
    (a : ℕ) → IsTrue (has xs a) ⊎ IsTrue (has ys a) → has row a ≡ has part a
first_alone row xs ys part other same n a k =
    elim k [
      | inl x ↦ same a x
      | inr y ↦ none_has row ys a n y ∙ sym (false_from_ne_true (has part a) (λ z. other a z y))
    ]

held_first : (row : List ℕ) (t : Outline) (ts : Forest) → ((a : ℕ) → occurs (leaves t ++ leaves_of ts) a ≤ 1) → Held row t → IsFalse (meets row (leaves_of ts)) →
    HeldOf row (tree_and t ts)
held_first row t ts once h n =
    let other = λ (a : ℕ) (z : IsTrue (has h.columns a)). both_ways (has (leaves_of ts) a) (apart (leaves t) (leaves_of ts) a (once a) (stretch_within h.columns t h.stretch a z)) in
    record {
      columns = h.columns;
      stretch = elim h.stretch [ inl n ↦ inl (n.0, inl n.1, n.2) | inr r ↦ inr (r.0, r.1, r.2, inl r.3, r.4) ];
      same = λ a k. first_alone row (leaves t) (leaves_of ts) h.columns other h.same n a (has_append_cases (leaves t) (leaves_of ts) a k);
    }

held_later : (row : List ℕ) (t : Outline) (ts : Forest) → ((a : ℕ) → occurs (leaves t ++ leaves_of ts) a ≤ 1) → IsFalse (meets row (leaves t)) → HeldOf row ts →
    HeldOf row (tree_and t ts)
held_later row t ts once n h =
    record {
      columns = h.columns;
      stretch = elim h.stretch [ inl n ↦ inl (n.0, inr n.1, n.2) | inr r ↦ inr (r.0, r.1, r.2, inr r.3, r.4) ];
      same = λ a k. first_alone row (leaves_of ts) (leaves t) h.columns
          (λ a z. both_ways (has (leaves t) a) (apart' (leaves t) (leaves_of ts) a (once a) (stretches_within h.columns ts h.stretch a z)))
          h.same n a (turned (has_append_cases (leaves t) (leaves_of ts) a k));
    }
  where
    turned : {A B : Type 0} → A ⊎ B → B ⊎ A
    turned e = elim e [ inl x ↦ inr x | inr y ↦ inl y ]

-- a row that misses no column of the tree
held_all : (row : List ℕ) (t : Outline) → IsFalse (misses row (leaves t)) → Held row t
held_all row t n =
    record {
      columns = leaves t;
      stretch = inl (t, node_itself t, refl);
      same = λ a h. all_has row (leaves t) a n h ∙ sym h;
    }

pub no_meeting : (row : List ℕ) (ts : Forest) → meeting row ts ≡ 0 → IsFalse (meets row (leaves_of ts))
no_meeting row no_tree e = refl
no_meeting row (tree_and t ts) e =
    elim (cases_Bool (meets row (leaves t))) [
      | inl k ↦ absurd (omega (arith, meeting_head row t ts k))
      | inr k ↦ none_append row (leaves t) (leaves_of ts) k (no_meeting row ts (omega (arith, meeting_tail row t ts k)))
    ]

-- the trees of which the row has a column are neighbours, and it has all columns of each
record Run (row : List ℕ) (ts : Forest) : Type 0 where
  us : List Outline
  vs : List Outline
  ws : List Outline
  are : ts ≡ forest (us ++ (vs ++ ws))
  us_none : IsFalse (meets row (leaves_of (forest us)))
  vs_all : IsFalse (misses row (leaves_of (forest vs)))
  ws_none : IsFalse (meets row (leaves_of (forest ws)))

forest_trees : (ts : Forest) → ts ≡ forest (trees ts)
forest_trees no_tree = refl
forest_trees (tree_and t ts) = ap (tree_and t) (forest_trees ts)

-- trees that the row has, and then trees that it has not
front_run : (row : List ℕ) (ts : Forest) → IsFalse (resumes row ts) → (vs : List Outline) × (ws : List Outline) × (ts ≡ forest (vs ++ ws)) × IsFalse (misses row (leaves_of (forest vs))) × IsFalse (meets row (leaves_of (forest ws)))
front_run row no_tree h = ([], [], refl, refl, refl)
front_run row (tree_and t ts) h =
    elim (cases_Bool (misses row (leaves t))) [
      | inl n ↦
          let e = resumes_none row t ts n h in (
            [],
            t ∷ trees ts,
            ap (tree_and t) (forest_trees ts),
            refl,
            none_append row (leaves t) (leaves_of (forest (trees ts))) e.0 (subst (λ x. IsFalse (meets row (leaves_of x))) (forest_trees ts) e.1),
          )
      | inr n ↦
          let k : IsFalse (resumes row ts) = sym (resumes_whole row t ts n) ∙ h in
          let r = front_run row ts k in (t ∷ r.0, r.1, ap (tree_and t) r.2, all_append row (leaves t) (leaves_of (forest r.0)) n r.3, r.4)
    ]

run_same : (row xs ys zs : List ℕ) → ((a : ℕ) → occurs (xs ++ (ys ++ zs)) a ≤ 1) → IsFalse (meets row xs) → IsFalse (misses row ys) → IsFalse (meets row zs) → (a : ℕ) → IsTrue (has (xs ++ (ys ++ zs)) a) →
    has row a ≡ has ys a
run_same row xs ys zs once no_xs all_ys no_zs a h =
    elim (has_append_cases xs (ys ++ zs) a h) [
      | inl k ↦
          none_has row xs a no_xs k ∙
          sym (false_from_ne_true (has ys a) (λ y. both_ways (has (ys ++ zs) a) (apart xs (ys ++ zs) a (once a) k) (has_append_left ys zs a y)))
      | inr k ↦ elim (has_append_cases ys zs a k) [
        | inl y ↦ all_has row ys a all_ys y ∙ sym y
        | inr y ↦ none_has row zs a no_zs y ∙ sym (apart' ys zs a (omega (arith, once a, occurs-append xs (ys ++ zs) a)) y)
      ]
    ]

held_run : (row : List ℕ) (ts : Forest) → ((a : ℕ) → occurs (leaves_of ts) a ≤ 1) → Run row ts → Held row (q_node ts)
held_run row ts once r =
    let l : leaves_of ts ≡ leaves_of (forest r.us) ++ (leaves_of (forest r.vs) ++ leaves_of (forest r.ws)) = ap leaves_of r.are ∙ three_parts r.us r.vs r.ws in
    record {
      columns = leaves_of (forest r.vs);
      stretch = inr (r.us, r.vs, r.ws, inl (ap q_node (sym r.are)), refl);
      same = λ a h. run_same row (leaves_of (forest r.us)) (leaves_of (forest r.vs)) (leaves_of (forest r.ws))
          (λ b. subst (λ x. occurs x b ≤ 1) l (once b)) r.us_none r.vs_all r.ws_none a (sym (ap (λ x. has x a) l) ∙ h);
    }

run_later : (row : List ℕ) (t : Outline) (ts : Forest) → IsFalse (meets row (leaves t)) → Run row ts → Run row (tree_and t ts)
run_later row t ts n r =
    record {
      us = t ∷ r.us;
      vs = r.vs;
      ws = r.ws;
      are = ap (tree_and t) r.are;
      us_none = none_append row (leaves t) (leaves_of (forest r.us)) n r.us_none;
      vs_all = r.vs_all;
      ws_none = r.ws_none;
    }

run_here : (row : List ℕ) (t : Outline) (ts : Forest) → IsFalse (misses row (leaves t)) → IsFalse (resumes row ts) → Run row (tree_and t ts)
run_here row t ts n h =
    let r = front_run row ts h in
    record {
      us = [];
      vs = t ∷ r.0;
      ws = r.1;
      are = ap (tree_and t) r.2;
      us_none = refl;
      vs_all = all_append row (leaves t) (leaves_of (forest r.0)) n r.3;
      ws_none = r.4;
    }

held_leaf : (row : List ℕ) (a : ℕ) → IsTrue (meets row (a ∷ [])) → Held row (leaf a)
held_leaf row a m =
    held_all row (leaf a) (elim (or_cases (has row a) false m) [ inl k ↦ or_from (not (has row a)) false (ap not k) refl | inr k ↦ absurd (both_ways false refl k) ])

once_left : (xs ys : List ℕ) → ((a : ℕ) → occurs (xs ++ ys) a ≤ 1) → (a : ℕ) → occurs xs a ≤ 1
once_left xs ys once a = omega (arith, once a, occurs-append xs ys a)

once_right : (xs ys : List ℕ) → ((a : ℕ) → occurs (xs ++ ys) a ≤ 1) → (a : ℕ) → occurs ys a ≤ 1
once_right xs ys once a = omega (arith, once a, occurs-append xs ys a)

pub meets_rest : (row xs ys : List ℕ) → IsFalse (meets row xs) → IsTrue (meets row (xs ++ ys)) → IsTrue (meets row ys)
meets_rest row xs ys n m = elim (meets_cases row xs ys m) [ inl k ↦ absurd (both_ways (meets row xs) n k) | inr k ↦ k ]

mutual
  pub held : (row : List ℕ) (t : Outline) → ((a : ℕ) → occurs (leaves t) a ≤ 1) → IsTrue (meets row (leaves t)) → IsFalse (is_split row t) → Held row t
  held row (leaf a) once m s = held_leaf row a m
  held row (p_node ts) once m s =
      let e = or_parts (are_split row ts) (leb 2 (meeting row ts) && misses row (leaves_of ts)) (sym (split_p row ts) ∙ s) in
      elim (and_cases (leb 2 (meeting row ts)) (misses row (leaves_of ts)) e.1) [
        | inl few ↦ held_p row ts (alone row ts once (leb-false 2 (meeting row ts) few) m e.0)
        | inr all ↦ held_all row (p_node ts) all
      ]
  held row (q_node ts) once m s =
      let e = or_parts (are_split row ts) (is_gapped row ts) (sym (split_q row ts) ∙ s) in
      elim (in_line row ts once e.1 m e.0) [
        | inl h ↦ held_q row ts h
        | inr r ↦ held_run row ts once r
      ]

  alone : (row : List ℕ) (ts : Forest) → ((a : ℕ) → occurs (leaves_of ts) a ≤ 1) → meeting row ts < 2 → IsTrue (meets row (leaves_of ts)) → IsFalse (are_split row ts) → HeldOf row ts
  alone row no_tree once few m s = absurd (both_ways false refl m)
  alone row (tree_and t ts) once few m s =
      let e = or_parts (is_split row t) (are_split row ts) (sym (split_and row t ts) ∙ s) in
      elim (cases_Bool (meets row (leaves t))) [
        | inl k ↦ held_first row t ts once (held row t (once_left (leaves t) (leaves_of ts) once) k e.0) (no_meeting row ts (omega (arith, meeting_head row t ts k)))
        | inr k ↦
            held_later row t ts once k
            (alone row ts (once_right (leaves t) (leaves_of ts) once) (omega (arith, meeting_tail row t ts k)) (meets_rest row (leaves t) (leaves_of ts) k m) e.1)
      ]

  in_line : (row : List ℕ) (ts : Forest) → ((a : ℕ) → occurs (leaves_of ts) a ≤ 1) → IsFalse (is_gapped row ts) → IsTrue (meets row (leaves_of ts)) → IsFalse (are_split row ts) → HeldOf row ts ⊎ Run row ts
  in_line row no_tree once g m s = absurd (both_ways false refl m)
  in_line row (tree_and t ts) once g m s =
      let e = or_parts (is_split row t) (are_split row ts) (sym (split_and row t ts) ∙ s) in
      elim (cases_Bool (meets row (leaves t))) [
        | inl k ↦
            elim (cases_Bool (misses row (leaves t))) [
              | inl n ↦
                  inl (held_first row t ts once (held row t (once_left (leaves t) (leaves_of ts) once) k e.0)
                  (sym (gapped_part row t ts k n) ∙ g))
              | inr n ↦ inr (run_here row t ts n (sym (gapped_whole row t ts k n) ∙ g))
            ]
        | inr k ↦
            let b : IsFalse (is_gapped row ts) = sym (gapped_none row t ts k) ∙ g in
            elim (in_line row ts (once_right (leaves t) (leaves_of ts) once) b (meets_rest row (leaves t) (leaves_of ts) k m) e.1) [
              | inl h ↦ inl (held_later row t ts once k h)
              | inr r ↦ inr (run_later row t ts k r)
            ]
      ]
