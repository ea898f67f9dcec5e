-- The leaves of the columns of a row, as the pass goes over them.
use Rattle.std.proofs.Common.{◌≡◌, ℕ, ◌+◌, ◌-◌, ◌≤◌, ◌<◌, List, [], ◌∷◌, length, drop, get_or, Some, suc, sym, ap, subst, ◌∙◌, arith}
use Rattle.std.proofs.Math.Seq.{drop-cons}
use Rattle.std.proofs.lemmas.List.{drop_all}
use Rattle.column_order.specs.Orders.{IsWithin, occurs}
use Rattle.row_model.specs.Rows.{IsRow}
use Rattle.row_model.proofs.Ascending.{row_once, row_within}
use Rattle.arena_model.specs.declared.Shape.TheVariants.{Leaf}
use Rattle.arena_model.specs.Layout.{Layout, shape_at, IsLayout}
use Rattle.arena_model.specs.NamedTree.{IsOneTree}
use Rattle.arena_model.specs.RowLeaves.{column_leaves}
use Rattle.arena_model.proofs.Slots.{used_by}
use Rattle.arena_model.proofs.Lists.{occurs_at}
use Rattle.arena_model.proofs.Rows.{leaf_in_row, leaf_is, leaves_length, row_occurs}
use Rattle.full_pass.specs.Answer.{AreLeaves}

-- the row's columns stand at leaves of the one tree
pub row_leaves : (f : Layout) (row : List ℕ) → IsLayout f → IsOneTree f → IsRow f.columns row → AreLeaves f (column_leaves row)
row_leaves f row h one r = record {
  once = λ x. subst (λ z. z ≤ 1) (sym (row_occurs f.columns row x within)) (row_once f.columns row r (x + 1));
  leaf = λ x o. (x + 1, h.leaves x (leaf_in_row f row x within o).0);
  below = λ x o. one x (used_by f x (Leaf (x + 1)) (h.leaves x (leaf_in_row f row x within o).0));
}
  where
    within : IsWithin f.columns row
    within = row_within f.columns row r

pub next_leaf : (row : List ℕ) (i : ℕ) → i < length row → column_leaves (drop i row) ≡ (get_or row i 0 - 1) ∷ column_leaves (drop (i + 1) row)
next_leaf row i lt = ap column_leaves (drop-cons row i 0 lt) ∙ ap (λ z. (get_or row i 0 - 1) ∷ column_leaves (drop z row)) (let e : suc i ≡ i + 1 = omega arith in e)

pub rest_none : (row : List ℕ) (i : ℕ) → length row ≤ i → column_leaves (drop i row) ≡ []
rest_none row i le = ap column_leaves (drop_all i row le)

-- the leaf of a column of the row is one of its leaves
pub leaf_held : (f : Layout) (row : List ℕ) (i x : ℕ) → IsLayout f → shape_at f x ≡ Some (Leaf (get_or row i 0)) → i < length row → 1 ≤ occurs (column_leaves row) x
leaf_held f row i x h sh lt =
    subst (λ z. 1 ≤ occurs (column_leaves row) z) (sym (leaf_is f row i x h sh)) (occurs_at (column_leaves row) i (subst (λ n. i < n) (sym (leaves_length row)) lt))
