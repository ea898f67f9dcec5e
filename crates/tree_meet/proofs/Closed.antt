-- A tree is bound where its groups are closed, and where it is bound its groups are closed.
use Rattle.std.proofs.Common.{◌≡◌, ◌∙◌, ℕ, ◌≤◌, false, List, [], ◌∷◌, ◌++◌, IsTrue, refl, sym, subst, inl, inr, arith}
use Rattle.std.specs.List.{AllByRecursion}
use Rattle.std.proofs.lemmas.Bool.{both_ways, cases_Bool}
use Rattle.row_model.specs.declared.graph.Pair.{Pair}
use Rattle.row_model.specs.Graph.{pair}
use Rattle.column_order.specs.Orders.{has, occurs}
use Rattle.column_order.proofs.Lists.{has_cases, has_append_left, has_append_right, has_append_cases, occurs-append}
use Rattle.pq_tree.specs.Outline.{Outline, Forest, leaf, p_node, q_node, no_tree, tree_and, leaves, leaves_of}
use Rattle.pq_tree.specs.Proper.{HasArities, HaveArities}
use Rattle.tree_theory.specs.Tied.{IsForward, IsClosed, IsInLine}
use Rattle.tree_theory.proofs.Bound.{AreClosed, IsBound, AreBound, IsPairEq, closed_through, line_closed}
use Rattle.tree_meet.specs.TreeRows.{pairs_from, neighbours, groups, groups_of}
use Rattle.tree_meet.proofs.Groups.{IsPart, each, both_all, left_all, right_all}
use Rattle.tree_meet.proofs.Line.{stands_in_line}

-- the columns of the group are among those of l, and closed in them
abbrev pub IsGroup : (Pair → Pair → Type 0) → List ℕ → List ℕ → Type 0
IsGroup R l g = IsPart g l × IsClosed R l g

module _ (R : Pair → Pair → Type 0) (eq : IsPairEq R) (l : List ℕ) where
  -- a leaf is closed
  leaf_closed : (x : ℕ) → IsClosed R l (x ∷ [])
  leaf_closed x a b d i j k n =
      let is : (y : ℕ) → IsTrue (has (x ∷ []) y) → y ≡ x = λ y h. elim (has_cases x y [] h) [ inl e ↦ sym e | inr m ↦ absurd (both_ways false refl m) ] in
      subst (λ e. R (pair a d) (pair e d)) (is a i ∙ sym (is b j)) (eq.same (pair a d))

  -- the tree's own leaves are its first group, if it is no leaf
  own_closed : (t : Outline) → AllByRecursion (IsClosed R l) (groups t) → IsClosed R l (leaves t)
  own_closed (leaf a) h = leaf_closed a
  own_closed (p_node ts) h = h.0
  own_closed (q_node ts) h = h.0

  children_closed : (m : List ℕ) → IsPart m l → (ts : Forest) → AllByRecursion (IsClosed R l) (groups_of ts) → AreClosed R m ts
  children_closed m sub no_tree h = tt
  children_closed m sub (tree_and t ts) h = (
    λ a b d i j k n. own_closed t (left_all (IsClosed R l) (groups t) (groups_of ts) h) a b d i j (sub d k) n,
    children_closed m sub ts (right_all (IsClosed R l) (groups t) (groups_of ts) h),
  )

  line_of : (ts : Forest) → HaveArities ts → ((a : ℕ) → occurs (leaves_of ts) a ≤ 1) → IsPart (leaves_of ts) l →
      AllByRecursion (IsClosed R l) (neighbours ts) → AllByRecursion (IsClosed R l) (groups_of ts) → IsInLine R ts
  line_of no_tree h once sub cp cg = λ v w f g. absurd f
  line_of (tree_and t ts) h once sub cp cg = stands_in_line R eq l t ts h.0 h.1 once sub (children_closed l (λ a i. i) (tree_and t ts) cg) cp

  mutual
    pub bound_by_groups : (t : Outline) → HasArities t → ((a : ℕ) → occurs (leaves t) a ≤ 1) → IsPart (leaves t) l →
        AllByRecursion (IsClosed R l) (groups t) → IsBound R t
    bound_by_groups (leaf a) h once sub cg = tt
    bound_by_groups (p_node ts) h once sub cg = (children_closed (leaves_of ts) sub ts cg.1, all_bound_by_groups ts h.1 once sub cg.1)
    bound_by_groups (q_node ts) h once sub cg =
        let pairs = left_all (IsClosed R l) (neighbours ts) (groups_of ts) cg.1 in
        let below = right_all (IsClosed R l) (neighbours ts) (groups_of ts) cg.1 in
        (line_of ts h.1 once sub pairs below, all_bound_by_groups ts h.1 once sub below)

    pub all_bound_by_groups : (ts : Forest) → HaveArities ts → ((a : ℕ) → occurs (leaves_of ts) a ≤ 1) → IsPart (leaves_of ts) l →
        AllByRecursion (IsClosed R l) (groups_of ts) → AreBound R ts
    all_bound_by_groups no_tree h once sub cg = tt
    all_bound_by_groups (tree_and t ts) h once sub cg = (
      bound_by_groups t h.0
          (λ a. omega (arith, once a, occurs-append (leaves t) (leaves_of ts) a))
          (λ a i. sub a (has_append_left (leaves t) (leaves_of ts) a i))
          (left_all (IsClosed R l) (groups t) (groups_of ts) cg),
      all_bound_by_groups ts h.1
          (λ a. omega (arith, once a, occurs-append (leaves t) (leaves_of ts) a))
          (λ a i. sub a (has_append_right (leaves t) (leaves_of ts) a i))
          (right_all (IsClosed R l) (groups t) (groups_of ts) cg),
    )

module _ (R : Pair → Pair → Type 0) (eq : IsPairEq R) where
  -- a group of a group is a group
  through : (l x g : List ℕ) → IsGroup R l x → IsGroup R x g → IsGroup R l g
  through l x g h k = (
    λ a i. h.0 a (k.0 a i),
    λ a b d i j m n. elim (cases_Bool (has x d)) [
      | inl y ↦ k.1 a b d i j y n
      | inr y ↦ h.1 a b d (k.0 a i) (k.0 b j) m y
    ],
  )

  -- of trees in line, all behind the first are a group
  tail_group : (t : Outline) (ts : Forest) → IsInLine R (tree_and t ts) → IsGroup R (leaves t ++ leaves_of ts) (leaves_of ts)
  tail_group t ts h = (
    λ a i. has_append_right (leaves t) (leaves_of ts) a i,
    λ a b d i j k n. elim (has_append_cases (leaves t) (leaves_of ts) d k) [
      | inl y ↦ eq.flip (pair d a) (pair d b) (h (pair d a) (pair d b) (inl (y, i)) (inl (y, j)))
      | inr y ↦ absurd (both_ways (has (leaves_of ts) d) n y)
    ],
  )

  -- and so are the first two
  front_group : (t u : Outline) (us : Forest) → IsInLine R (tree_and t (tree_and u us)) → IsGroup R (leaves t ++ (leaves u ++ leaves_of us)) (leaves t ++ leaves u)
  front_group t u us h =
      let forward : (a d : ℕ) → IsTrue (has (leaves t ++ leaves u) a) → IsTrue (has (leaves_of us) d) → IsForward (tree_and t (tree_and u us)) (pair a d) =
      λ a d i k. elim (has_append_cases (leaves t) (leaves u) a i) [
        | inl m ↦ inl (m, has_append_right (leaves u) (leaves_of us) d k)
        | inr m ↦ inr (inl (m, k))
      ] in (
        λ a i. elim (has_append_cases (leaves t) (leaves u) a i) [
          | inl m ↦ has_append_left (leaves t) (leaves u ++ leaves_of us) a m
          | inr m ↦ has_append_right (leaves t) (leaves u ++ leaves_of us) a (has_append_left (leaves u) (leaves_of us) a m)
        ],
        λ a b d i j k n.
            let behind : IsTrue (has (leaves_of us) d) =
            elim (has_append_cases (leaves t) (leaves u ++ leaves_of us) d k) [
              | inl m ↦ absurd (both_ways (has (leaves t ++ leaves u) d) n (has_append_left (leaves t) (leaves u) d m))
              | inr m ↦ elim (has_append_cases (leaves u) (leaves_of us) d m) [
                | inl o ↦ absurd (both_ways (has (leaves t ++ leaves u) d) n (has_append_right (leaves t) (leaves u) d o))
                | inr o ↦ o
              ]
            ] in
            h (pair a d) (pair b d) (forward a d i behind) (forward b d j behind),
      )

  pairs_closed : (t : Outline) (us : Forest) → IsInLine R (tree_and t us) → AllByRecursion (IsGroup R (leaves t ++ leaves_of us)) (pairs_from t us)
  pairs_closed t no_tree h = tt
  pairs_closed t (tree_and u us) h = (
    front_group t u us h,
    each (IsGroup R (leaves u ++ leaves_of us)) (IsGroup R (leaves t ++ (leaves u ++ leaves_of us)))
        (λ g. through (leaves t ++ (leaves u ++ leaves_of us)) (leaves u ++ leaves_of us) g (tail_group t (tree_and u us) h))
        (pairs_from u us) (pairs_closed u us (λ v w f g. h v w (inr f) (inr g))),
  )

  neighbours_closed : (l : List ℕ) (ts : Forest) → IsGroup R l (leaves_of ts) → IsInLine R ts → AllByRecursion (IsGroup R l) (neighbours ts)
  neighbours_closed l no_tree g h = tt
  neighbours_closed l (tree_and t ts) g h =
      each (IsGroup R (leaves t ++ leaves_of ts)) (IsGroup R l) (λ x. through l (leaves t ++ leaves_of ts) x g) (pairs_from t ts) (pairs_closed t ts h)

  module _ (l : List ℕ) where
    mutual
      -- the groups of a bound tree whose leaves are a group
      pub groups_closed : (t : Outline) → IsGroup R l (leaves t) → IsBound R t → AllByRecursion (IsGroup R l) (groups t)
      groups_closed (leaf a) g b = tt
      groups_closed (p_node ts) g b =
          (g, groups_of_closed ts g.0 (closed_through R l (leaves_of ts) g.1 ts (λ a i. i) b.0) b.1)
      groups_closed (q_node ts) g b = (
        g,
        both_all (IsGroup R l) (neighbours ts) (groups_of ts) (neighbours_closed l ts g b.0)
            (groups_of_closed ts g.0 (closed_through R l (leaves_of ts) g.1 ts (λ a i. i) (line_closed R eq ts b.0)) b.1),
      )

      groups_of_closed : (ts : Forest) → IsPart (leaves_of ts) l → AreClosed R l ts → AreBound R ts → AllByRecursion (IsGroup R l) (groups_of ts)
      groups_of_closed no_tree sub c b = tt
      groups_of_closed (tree_and t ts) sub c b =
          both_all (IsGroup R l) (groups t) (groups_of ts)
          (groups_closed t (λ a i. sub a (has_append_left (leaves t) (leaves_of ts) a i), c.0) b.0)
          (groups_of_closed ts (λ a i. sub a (has_append_right (leaves t) (leaves_of ts) a i)) c.1 b.1)
