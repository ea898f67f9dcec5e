-- The leaves of the columns of a row.
use Rattle.std.proofs.Common.{◌≡◌, inl, inr, ℕ, ◌+◌, ◌-◌, ◌≤◌, ◌<◌, List, [], ◌∷◌, length, get_or, Some, true, IsTrue, refl, sym, ap, subst, ◌∙◌, arith}
use Rattle.std.proofs.Math.ListN.{get_or-map}
use Rattle.std.proofs.lemmas.Bool.{cases_eq}
use Rattle.std.proofs.lemmas.List.{length-map}
use Rattle.column_order.specs.Orders.{occurs, has, IsWithin}
use Rattle.column_order.proofs.Lists.{has_at, has_from_occurs, occurs_from_has}
use Rattle.arena_model.specs.declared.Shape.TheVariants.{Leaf}
use Rattle.arena_model.specs.Layout.{Layout, shape_at, IsLayout}
use Rattle.arena_model.specs.RowLeaves.{column_leaves}
use Rattle.arena_model.proofs.Lists.{occurs_here, occurs_other, occurs_same}

-- a column of the row is one more than the number of its leaf
pub row_occurs : (c : ℕ) (row : List ℕ) (x : ℕ) → IsWithin c row → occurs (column_leaves row) x ≡ occurs row (x + 1)
row_occurs c row x w = leaf_occurs row x (λ a o. (w a (has_from_occurs row a o)).0)
  where
    leaf_occurs : (row : List ℕ) (x : ℕ) → ((a : ℕ) → 1 ≤ occurs row a → 1 ≤ a) → occurs (column_leaves row) x ≡ occurs row (x + 1)
    leaf_occurs [] x h = refl
    leaf_occurs (a ∷ row) x h =
        let r : occurs (column_leaves row) x ≡ occurs row (x + 1) = leaf_occurs row x (λ b o. h b (omega arith)) in
        let some : 1 ≤ a = h a (occurs_here a row) in
        elim (cases_eq a (x + 1)) [
          | inl e ↦
              let i : occurs ((a - 1) ∷ column_leaves row) x ≡ 1 + occurs (column_leaves row) x = subst (λ z. occurs (z ∷ column_leaves row) x ≡ 1 + occurs (column_leaves row) x) (let k : x ≡ a - 1 = omega arith in k) (occurs_same x (column_leaves row)) in
              let j : occurs (a ∷ row) (x + 1) ≡ 1 + occurs row (x + 1) = subst (λ z. occurs (z ∷ row) (x + 1) ≡ 1 + occurs row (x + 1)) (sym e) (occurs_same (x + 1) row) in
              omega arith
          | inr ne ↦
              let i : occurs ((a - 1) ∷ column_leaves row) x ≡ occurs (column_leaves row) x = occurs_other (a - 1) x (column_leaves row) (λ e. ne (omega arith)) in
              let j : occurs (a ∷ row) (x + 1) ≡ occurs row (x + 1) = occurs_other a (x + 1) row (λ e. ne (sym e)) in
              omega arith
        ]

pub leaf_in_row : (f : Layout) (row : List ℕ) (x : ℕ) → IsWithin f.columns row → 1 ≤ occurs (column_leaves row) x → (x < f.columns) × IsTrue (has row (x + 1))
leaf_in_row f row x w o =
    let i : IsTrue (has row (x + 1)) = has_from_occurs row (x + 1) (let e : occurs (column_leaves row) x ≡ occurs row (x + 1) = row_occurs f.columns row x w in omega arith) in
    let b = w (x + 1) i in
    ((let le : x + 1 ≤ f.columns = b.1 in omega arith), i)

pub row_leaf : (f : Layout) (row : List ℕ) (a : ℕ) → IsWithin f.columns row → IsTrue (has row a) → (1 ≤ occurs (column_leaves row) (a - 1)) × (1 ≤ a) × (a ≤ f.columns)
row_leaf f row a w o =
    let i : 1 ≤ occurs row a = occurs_from_has row a o in
    let b = w a o in
    let lo : 1 ≤ a = b.0 in
    let k : a - 1 + 1 ≡ a = omega arith in
    let e : occurs (column_leaves row) (a - 1) ≡ occurs row a = row_occurs f.columns row (a - 1) w ∙ ap (λ z. occurs row z) k in
    (omega arith, lo, b.1)

-- the columns and the leaves by their places in the row
pub column_in : (c : ℕ) (row : List ℕ) (i : ℕ) → IsWithin c row → i < length row → (1 ≤ get_or row i 0) × (get_or row i 0 ≤ c)
column_in c row i w l = w (get_or row i 0) (has_at row i l)

pub leaves_length : (row : List ℕ) → length (column_leaves row) ≡ length row
leaves_length row = length-map row (λ a. a - 1)

-- the leaf of a column has the number before it
pub leaf_index : (f : Layout) (n a : ℕ) → IsLayout f → shape_at f n ≡ Some (Leaf a) → n ≡ a - 1
leaf_index f n a h s = let e : a ≡ n + 1 = (h.no_other_leaf n a s).0 in omega arith

pub leaf_is : (f : Layout) (row : List ℕ) (i n : ℕ) → IsLayout f → shape_at f n ≡ Some (Leaf (get_or row i 0)) → n ≡ get_or (column_leaves row) i 0
leaf_is f row i n h s = leaf_index f n (get_or row i 0) h s ∙ sym (get_or-map (λ a. a - 1) row i 0)

-- a leaf of the row has a column of the row, and the other way round
pub leaf_has : (f : Layout) (row : List ℕ) (x a : ℕ) → IsLayout f → IsWithin f.columns row → shape_at f x ≡ Some (Leaf a) → 1 ≤ occurs (column_leaves row) x → has row a ≡ true
leaf_has f row x a h w s o = subst (λ z. has row z ≡ true) (sym (h.no_other_leaf x a s).0) (leaf_in_row f row x w o).1

pub has_leaf : (f : Layout) (row : List ℕ) (x a : ℕ) → IsLayout f → IsWithin f.columns row → shape_at f x ≡ Some (Leaf a) → has row a ≡ true → 1 ≤ occurs (column_leaves row) x
has_leaf f row x a h w s t =
    let r = row_leaf f row a w t in
    subst (λ z. 1 ≤ occurs (column_leaves row) z) (sym (leaf_index f x a h s)) r.0
