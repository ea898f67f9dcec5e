-- A pair that stands in every frontier like two columns of different children of the root is in no child itself.
use Rattle.std.proofs.Common.{◌∙◌, ℕ, ◌<◌, ◌≤◌, false, List, [], ◌∷◌, ◌++◌, reverse, IsTrue, refl, sym, subst, inl, inr, arith, append_assoc}
use Rattle.std.proofs.lemmas.Bool.{both_ways, lt-ltb, ltb-true}
use Rattle.std.proofs.lemmas.List.{reverse-append}
use Rattle.std.specs.List.{concat}
use Rattle.row_model.specs.declared.graph.Pair.{Pair}
use Rattle.row_model.specs.Graph.{pair}
use Rattle.column_order.specs.Orders.{has, place}
use Rattle.column_order.proofs.Lists.{has_cases, has_head, has_append_left, has_append_right, occurs-append}
use Rattle.pq_tree.specs.Outline.{Outline, Forest, no_tree, tree_and, leaves, leaves_of, IsFrontier, AreFrontiers}
use Rattle.pq_tree.specs.Forests.{count}
use Rattle.pq_tree.specs.Nodes.{children}
use Rattle.tree_theory.specs.Tied.{IsForward}
use Rattle.tree_theory.proofs.Frontiers.{frontier_has, frontiers_have, frontiers_occur}
use Rattle.tree_theory.proofs.Sorted.{Rises, rises_left, rises_right, rises_below}
use Rattle.tree_theory.proofs.Exact.{order_rises}
use Rattle.tree_theory.proofs.Alike.{Alike}
use Rattle.tree_theory.proofs.Mirror.{leaves_are_frontier, mirrored, lists, lists_are, in_turn}
use Rattle.tree_theory.proofs.Ends.{IsOnce, IsForced}

-- none of the trees has both columns
abbrev pub IsParted : Forest → ℕ → ℕ → Type 0
IsParted no_tree a b = Unit {0}
IsParted (tree_and t ts) a b = (IsTrue (has (leaves t) a) → IsTrue (has (leaves t) b) → ⊥) × IsParted ts a b

reverse_has : (xs : List ℕ) (a : ℕ) → IsTrue (has xs a) → IsTrue (has (reverse xs) a)
reverse_has [] a h = h
reverse_has (x ∷ xs) a h =
    subst (λ l. IsTrue (has l a)) (sym (reverse-append (x ∷ []) xs))
    (elim (has_cases x a xs h) [
      | inl e ↦ has_append_right (reverse xs) (x ∷ []) a (subst (λ k. IsTrue (has (x ∷ []) k)) e (has_head x []))
      | inr k ↦ has_append_left (reverse xs) (x ∷ []) a (reverse_has xs a k)
    ])

-- a list that rises by one rank and falls by another
turned_list : (up down : ℕ → ℕ) (xs : List ℕ) → Rises up xs → Rises down (reverse xs) → (a b : ℕ) → IsTrue (has xs a) → IsTrue (has xs b) → up a < up b → down b < down a
turned_list up down [] r s a b ha hb l = absurd (both_ways false refl ha)
turned_list up down (x ∷ xs) r s a b ha hb l =
    let t : Rises down (reverse xs ++ x ∷ []) = subst (Rises down) (reverse-append (x ∷ []) xs) s in
    elim (has_cases x a xs ha) [
      | inl d ↦ elim (has_cases x b xs hb) [
        | inl e ↦ absurd (omega (arith, subst (λ k. up a < up k) (sym e ∙ d) l))
        | inr k ↦ subst (λ n. down b < down n) d (rises_below down (reverse xs) (x ∷ []) t b x (reverse_has xs b k) (has_head x []))
      ]
      | inr j ↦ elim (has_cases x b xs hb) [
        | inl e ↦ absurd (omega (arith, r.0 a j, subst (λ k. up a < up k) (sym e) l))
        | inr k ↦ turned_list up down xs r.1 (rises_left down (reverse xs) (x ∷ []) t) a b j k l
      ]
    ]

once_front : (pre : List ℕ) (ts : Forest) (fs : List (List ℕ)) → AreFrontiers ts fs → IsOnce (pre ++ leaves_of ts) → IsOnce (pre ++ concat fs)
once_front pre ts fs h once a =
    omega (arith, once a, occurs-append pre (leaves_of ts) a, occurs-append pre (concat fs) a, frontiers_occur ts fs a h)

pub once_shift : (pre : List ℕ) (t : Outline) (ts : Forest) → IsOnce (pre ++ (leaves t ++ leaves_of ts)) → IsOnce ((pre ++ leaves t) ++ leaves_of ts)
once_shift pre t ts once = subst IsOnce (sym (append_assoc pre (leaves t) (leaves_of ts))) once

-- a frontier of the first tree rises in each list that it stands in
pub first_rises : (pre : List ℕ) (t : Outline) (ts : Forest) (g : List ℕ) → IsFrontier t g → IsOnce (pre ++ (leaves t ++ leaves_of ts)) →
    Rises (place (pre ++ (g ++ concat (lists ts)))) g
first_rises pre t ts g h once =
    let f : List ℕ = pre ++ (g ++ concat (lists ts)) in
    rises_left (place f) g (concat (lists ts))
    (rises_right (place f) pre (g ++ concat (lists ts))
    (order_rises f (once_front pre (tree_and t ts) (g ∷ lists ts) (h, lists_are ts) once)))

flip_walk : (a b : ℕ) (pre : List ℕ) (ts : Forest) → IsOnce (pre ++ leaves_of ts) →
    ((fs : List (List ℕ)) → AreFrontiers ts fs → place (pre ++ concat fs) a < place (pre ++ concat fs) b) → IsParted ts a b
flip_walk a b pre no_tree once up = tt
flip_walk a b pre (tree_and t ts) once up = (
  λ ha hb.
      let rest : List ℕ = concat (lists ts) in
      let now = up (leaves t ∷ lists ts) (leaves_are_frontier t, lists_are ts) in
      let then = up (reverse (leaves t) ∷ lists ts) (mirrored t, lists_are ts) in
      let back : place (pre ++ (reverse (leaves t) ++ rest)) b < place (pre ++ (reverse (leaves t) ++ rest)) a =
      turned_list (place (pre ++ (leaves t ++ rest))) (place (pre ++ (reverse (leaves t) ++ rest))) (leaves t)
      (first_rises pre t ts (leaves t) (leaves_are_frontier t) once)
      (first_rises pre t ts (reverse (leaves t)) (mirrored t) once) a b ha hb now in
      omega (arith, then, back),
  flip_walk a b (pre ++ leaves t) ts (once_shift pre t ts once)
      (λ fs h. subst (λ f. place f a < place f b) (sym (append_assoc pre (leaves t) (concat fs))) (up (leaves t ∷ fs) (leaves_are_frontier t, h))),
)

forward_up : (rank : ℕ → ℕ) (ts : Forest) (fs : List (List ℕ)) → AreFrontiers ts fs → Rises rank (concat fs) → (v : Pair) → IsForward ts v → rank v.a < rank v.b
forward_up rank no_tree fs h r v k = absurd k
forward_up rank (tree_and t ts) [] h r v k = absurd h
forward_up rank (tree_and t ts) (f ∷ fs) h r v k =
    elim k [
      | inl i ↦ rises_below rank f (concat fs) r v.a v.b (frontier_has t f v.a h.0 ∙ i.0) (frontiers_have ts fs v.b h.1 ∙ i.1)
      | inr i ↦ forward_up rank ts fs h.1 (rises_right rank f (concat fs) r) v i
    ]

some_tree : (ts : Forest) (v : Pair) → IsForward ts v → 1 ≤ count ts
some_tree no_tree v h = absurd h
some_tree (tree_and t ts) v h = omega arith

pub parted : (t : Outline) → IsOnce (leaves_of (children t)) → (a b c d : ℕ) → IsForward (children t) (pair c d) → IsForced t (pair a b) (pair c d) → IsParted (children t) a b
parted t once a b c d h forced =
    flip_walk a b [] (children t) once
    (λ fs k.
    let rank : ℕ → ℕ = place (concat fs) in
    let alike : Alike rank (pair a b) (pair c d) = forced (concat fs) (in_turn t fs (some_tree (children t) (pair c d) h) k) in
    let up : rank c < rank d = forward_up rank (children t) fs k (order_rises (concat fs) (once_front [] (children t) fs k once)) (pair c d) h in
    ltb-true (rank a) (rank b) (alike.0 ∙ lt-ltb (rank c) (rank d) up))
