-- A row has no more columns than there are nodes that meet it.
use Rattle.std.proofs.Common.{◌≡◌, inl, inr, ℕ, ◌+◌, ◌≤◌, Bool, true, false, cond, List, [], ◌∷◌, ◌++◌, length, IsTrue, sym, subst, arith}
use Rattle.std.proofs.lemmas.Bool.{cases_eq, cases_lt}
use Rattle.column_order.specs.Orders.{occurs, has}
use Rattle.column_order.proofs.Lists.{has_from_occurs, occurs_from_has}
use Rattle.pq_tree.specs.Amortised.{nodes_met, nodes_met_of, nodes_met_below_root}
use Rattle.pq_tree.specs.Nodes.{pertinent_root}
use Rattle.pq_tree.specs.Outline.{Outline, Forest, leaf, p_node, q_node, no_tree, tree_and, leaves, leaves_of}
use Rattle.pq_tree.specs.Proper.{IsProper}
use Rattle.pq_tree.proofs.Nodes.{holds_each, pertinent_root_is}
use Rattle.tree_theory.proofs.Steps.{row_held}
use Rattle.row_model.specs.Rows.{IsRow}
use Rattle.row_model.proofs.Ascending.{row_once, row_within}
use Rattle.arena_model.specs.declared.Shape.TheVariants.{Leaf}
use Rattle.arena_model.specs.Layout.{Layout, IsInUse, IsLayout, here}
use Rattle.arena_model.specs.NamedTree.{IsOneTree}
use Rattle.pq_arena.specs.RowNodes.{column_leaves}
use Rattle.bubble_pass.specs.Fair.{AtMost}
use Rattle.arena_model.proofs.Lists.{occurs_same, occurs_other, shorter}
use Rattle.arena_model.proofs.Rows.{row_occurs, leaf_in_row, leaves_length}
use Rattle.arena_model.proofs.Slots.{used_by}

-- the leaf of a column is in use
pub leaf_used : (f : Layout) (row : List ℕ) (x : ℕ) → IsLayout f → IsRow f.columns row → 1 ≤ occurs (column_leaves row) x → IsInUse f x
leaf_used f row x h r o = used_by f x (Leaf (x + 1)) (h.leaves x (leaf_in_row f row x (row_within f.columns row r) o).0)

pub row_few : (f : Layout) (row : List ℕ) (a : ℕ) → IsLayout f → IsOneTree f → IsRow f.columns row → AtMost f (column_leaves row) f.root a → length row ≤ a
row_few f row a h one r few =
    let l : length (column_leaves row) ≤ a = few (column_leaves row)
    (λ x. let e : occurs (column_leaves row) x ≡ occurs row (x + 1) = row_occurs f.columns row x (row_within f.columns row r) in let o : occurs row (x + 1) ≤ 1 = row_once f.columns row r (x + 1) in omega arith)
    (λ x o. ((x, o, here x), one x (leaf_used f row x h r o))) in
    omega (arith, leaves_length row)

-- those of the list that the row has
abbrev met_in : List ℕ → List ℕ → List ℕ
met_in row [] = []
met_in row (x ∷ xs) = cond (has row x) (x ∷ met_in row xs) (met_in row xs)

met_in-append : (row xs ys : List ℕ) → length (met_in row (xs ++ ys)) ≡ length (met_in row xs) + length (met_in row ys)
met_in-append row [] ys = omega arith
met_in-append row (x ∷ xs) ys = at (has row x) (met_in-append row xs ys)
  where
    at : (b : Bool) → length (met_in row (xs ++ ys)) ≡ length (met_in row xs) + length (met_in row ys) →
        length (cond b (x ∷ met_in row (xs ++ ys)) (met_in row (xs ++ ys))) ≡ length (cond b (x ∷ met_in row xs) (met_in row xs)) + length (met_in row ys)
    at true i = omega arith
    at false i = i

-- each of these leaves is a node that meets the row
mutual
  leaves_few : (row : List ℕ) (t : Outline) → length (met_in row (leaves t)) ≤ nodes_met row t
  leaves_few row (leaf a) = at (has row a)
    where
      at : (b : Bool) → length (cond b (a ∷ []) []) ≤ cond {A = ℕ} b 1 0
      at true = omega arith
      at false = omega arith
  leaves_few row (p_node ts) = omega (arith, leaves_of_few row ts)
  leaves_few row (q_node ts) = omega (arith, leaves_of_few row ts)

  leaves_of_few : (row : List ℕ) (ts : Forest) → length (met_in row (leaves_of ts)) ≤ nodes_met_of row ts
  leaves_of_few row no_tree = omega arith
  leaves_of_few row (tree_and t ts) = omega (arith, met_in-append row (leaves t) (leaves_of ts), leaves_few row t, leaves_of_few row ts)

met_in-has : (row xs : List ℕ) (z : ℕ) → IsTrue (has row z) → 1 ≤ occurs xs z → 1 ≤ occurs (met_in row xs) z
met_in-has row [] z h o = o
met_in-has row (x ∷ xs) z h o = elim (cases_eq z x) [
  | inl e ↦
      let t : has row x ≡ true = subst (λ w. has row w ≡ true) e h in
      subst (λ b. 1 ≤ occurs (cond b (x ∷ met_in row xs) (met_in row xs)) z) (sym t)
      (subst (λ w. 1 ≤ occurs (w ∷ met_in row xs) z) e (omega (arith, occurs_same z (met_in row xs))))
  | inr ne ↦ at (has row x) (met_in-has row xs z h (subst (λ w. 1 ≤ w) (occurs_other x z xs ne) o))
]
  where
    at : (b : Bool) → 1 ≤ occurs (met_in row xs) z → 1 ≤ occurs (cond b (x ∷ met_in row xs) (met_in row xs)) z
    at true i = omega arith
    at false i = i

-- so there are as many at and below the smallest node that holds it
pub row_few_below : (c : ℕ) (row : List ℕ) (t : Outline) → IsRow c row → IsProper c t → length row ≤ nodes_met_below_root row t
row_few_below c row t r proper =
    let x : Outline = pertinent_root row t in
    let root = pertinent_root_is row t (row_held c row t proper (row_within c row r)) in
    let few : length row ≤ length (met_in row (leaves x)) = shorter row (met_in row (leaves x)) (λ z. elim (cases_lt 0 (occurs row z)) [
      | inr none ↦ omega arith
      | inl some ↦
          let h : IsTrue (has row z) = has_from_occurs row z some in
          let i : 1 ≤ occurs (met_in row (leaves x)) z = met_in-has row (leaves x) z h (occurs_from_has (leaves x) z (holds_each row x root.whole z h)) in
          let o : occurs row z ≤ 1 = row_once c row r z in
          omega arith
    ]) in
    let all : length (met_in row (leaves x)) ≤ nodes_met row x = leaves_few row x in
    omega arith
