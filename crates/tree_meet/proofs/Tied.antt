-- A proper tree is tied to its rows.
use Rattle.std.proofs.Common.{◌≡◌, ◌↔◌, ◌∙◌, ℕ, ◌≤◌, List, [], ◌∷◌, ◌++◌, All, sym, subst, append_assoc}
use Rattle.std.specs.List.{AllByRecursion}
use Rattle.std.proofs.lemmas.Bool.{both_ways, false_from_ne_true}
use Rattle.std.proofs.lemmas.List.Elements.{All-from_recursion}
use Rattle.row_model.specs.declared.graph.Pair.{Pair}
use Rattle.row_model.specs.Graph.{pair, Joined, Evenly}
use Rattle.row_model.proofs.Walks.{evenly-mono, joined-append}
use Rattle.column_order.specs.Orders.{has, occurs, place, IsOrder, IsValidOrder, IsWithin, Keeps}
use Rattle.column_order.proofs.Counts.{order_once, order_within}
use Rattle.pq_tree.specs.Outline.{Outline, leaves, IsFrontier}
use Rattle.pq_tree.specs.Proper.{IsProper}
use Rattle.tree_theory.specs.Tied.{IsClosed, IsTied}
use Rattle.tree_theory.proofs.Frontiers.{frontier_has, frontier_occurs}
use Rattle.tree_theory.proofs.Bound.{IsBound}
use Rattle.tree_theory.proofs.Bridge.{alike_eq, evenly_eq, last_row_closed, closed_keeps, bound_tied}
use Rattle.tree_theory.proofs.Alike.{Alike, frontier_bound}
use Rattle.tree_theory.proofs.Exact.{order_rises}
use Rattle.tree_theory.proofs.Exact.{tied_law}
use Rattle.tree_meet.specs.TreeRows.{groups, row_of_group, rows_of_tree}
use Rattle.tree_meet.proofs.Groups.{IsPart, each, all_map, map_all, groups_part, row_has, row_lacks, has_in_row}
use Rattle.tree_meet.proofs.Closed.{IsGroup, bound_by_groups, groups_closed}

module _ (c : ℕ) (l : List ℕ) (whole : IsOrder c l) where
  -- in the graph of some rows each of them is closed
  rows_closed : (before rows : List (List ℕ)) → AllByRecursion (λ row. IsPart row l) rows → AllByRecursion (IsClosed (Evenly c (before ++ rows)) l) rows
  rows_closed before [] sub = tt
  rows_closed before (row ∷ rows) sub =
      let e : (before ++ row ∷ []) ++ rows ≡ before ++ row ∷ rows = append_assoc before (row ∷ []) rows in
      let first : IsClosed (Evenly c ((before ++ row ∷ []) ++ rows)) l row =
      λ a b d i j k n.
      evenly-mono (Joined c (before ++ row ∷ [])) (Joined c ((before ++ row ∷ []) ++ rows)) (joined-append c (before ++ row ∷ []) rows) (pair a d) (pair b d)
      (last_row_closed c before row l whole sub.0 a b d i j k n) in (
        subst (λ (x : List (List ℕ)). IsClosed (Evenly c x) l row) e first,
        subst (λ (x : List (List ℕ)). AllByRecursion (IsClosed (Evenly c x) l) rows) e (rows_closed (before ++ row ∷ []) rows sub.1),
      )

  part_within : (g : List ℕ) → IsPart g l → IsWithin c g
  part_within g h a i = order_within c l whole a (h a i)

  -- a group is closed where its row is
  group_closed : (R : Pair → Pair → Type 0) (g : List ℕ) → IsPart g l × IsClosed R l (row_of_group c g) → IsClosed R l g
  group_closed R g h a b d i j k n =
      let w = order_within c l whole d k in
      h.1 a b d (row_has c g a (part_within g h.0) i) (row_has c g b (part_within g h.0) j) k (row_lacks c g d w.0 w.1 n)

zip_all : {A : Type 0} (P Q : A → Type 0) (xs : List A) → AllByRecursion P xs → AllByRecursion Q xs → AllByRecursion (λ x. P x × Q x) xs
zip_all P Q [] h k = tt
zip_all P Q (x ∷ xs) h k = ((h.0, k.0), zip_all P Q xs h.1 k.1)

-- a proper tree is bound by the walks of even length in the graph of its rows
rows_bind : (c : ℕ) (t : Outline) → IsProper c t → IsBound (Evenly c (rows_of_tree c t)) t
rows_bind c t proper =
    let l = leaves t in
    let R : Pair → Pair → Type 0 = Evenly c (rows_of_tree c t) in
    let parts : AllByRecursion (λ g. IsPart g l) (groups t) = groups_part l t (λ a i. i) in
    let sub : AllByRecursion (λ row. IsPart row l) (rows_of_tree c t) =
    map_all (λ row. IsPart row l) (row_of_group c) (groups t)
    (each (λ g. IsPart g l) (λ g. IsPart (row_of_group c g) l) (λ g h a i. h a (has_in_row c g a i)) (groups t) parts) in
    let rows : AllByRecursion (λ g. IsClosed R l (row_of_group c g)) (groups t) =
    all_map (IsClosed R l) (row_of_group c) (groups t) (rows_closed c l proper.1 [] (rows_of_tree c t) sub) in
    bound_by_groups R (evenly_eq c (rows_of_tree c t)) l t proper.0 (order_once c l proper.1) (λ a i. i)
    (each (λ g. IsPart g l × IsClosed R l (row_of_group c g)) (IsClosed R l) (group_closed c l proper.1 R) (groups t) (zip_all (λ g. IsPart g l) (λ g. IsClosed R l (row_of_group c g)) (groups t) parts rows))

-- each frontier keeps the row of each group
rows_kept : (c : ℕ) (t : Outline) → IsProper c t → (f : List ℕ) → IsFrontier t f → All (Keeps f) (rows_of_tree c t)
rows_kept c t proper f h =
    let l = leaves t in
    let R : Pair → Pair → Type 0 = Alike (place f) in
    let once : (a : ℕ) → occurs f a ≤ 1 = λ a. rw (frontier_occurs t f a h) (order_once c l proper.1 a) in
    let bound : IsBound R t = frontier_bound (place f) t f h (order_rises f once) in
    let own : IsGroup R l l = (λ a i. i, λ a b d i j k n. absurd (both_ways (has l d) n k)) in
    let closed : AllByRecursion (IsGroup R l) (groups t) = groups_closed R (alike_eq (place f)) l t own bound in
    All-from_recursion (Keeps f) (rows_of_tree c t)
    (map_all (Keeps f) (row_of_group c) (groups t)
    (each (IsGroup R l) (λ g. Keeps f (row_of_group c g))
    (λ g k. closed_keeps f (row_of_group c g) once
    (λ a b d i j m n.
    k.1 a b d (has_in_row c g a i) (has_in_row c g b j) (sym (frontier_has t f d h) ∙ m)
    (false_from_ne_true (has g d) (λ y. both_ways (has (row_of_group c g) d) n (row_has c g d (part_within c l proper.1 g k.0) y)))))
    (groups t) closed))

pub tied_to_rows : (c : ℕ) (t : Outline) → IsProper c t → IsTied c (rows_of_tree c t) t
tied_to_rows c t proper = bound_tied c (rows_of_tree c t) t (λ f h. rows_kept c t proper f h) (rows_bind c t proper)

pub rows_exact : (c : ℕ) (t : Outline) → IsProper c t → (o : List ℕ) → IsFrontier t o ↔ IsValidOrder c (rows_of_tree c t) o
rows_exact c t proper o = tied_law c (rows_of_tree c t) t proper.1 (tied_to_rows c t proper) o
