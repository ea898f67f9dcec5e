-- A valid order exists exactly where the graph has no closed walk of odd length.
use Rattle.std.proofs.Common.{◌≡◌, ◌⊎◌, ◌↔◌, ℕ, zero, suc, List, [], ◌∷◌, ◌++◌, take, All, sym, subst, inl, inr, arith, append_assoc, append-nil}
use Rattle.std.proofs.lemmas.List.Elements.{recursion_from_All, All-take}
use Rattle.std.specs.List.{AllByRecursion}
use Rattle.column_order.specs.Orders.{HasValidOrder, IsWithin}
use Rattle.row_model.specs.Graph.{HasOddWalk, HasConflict}
use Rattle.row_model.specs.Rows.{RowList, IsRow}
use Rattle.row_model.proofs.Ascending.{row_within}
use Rattle.row_model.proofs.Walks.{odd_walk_none, conflict_odd, conflict_more}
use Rattle.pq_tree.specs.Outline.{Outline, leaves}
use Rattle.pq_tree.specs.Proper.{IsProper, universal}
use Rattle.pq_tree.proofs.Universal.{columns_order}
use Rattle.tree_theory.specs.Tied.{IsTied}
use Rattle.tree_theory.proofs.Exact.{tied_law}
use Rattle.pq_tree.proofs.Frontiers.{leaves_are_frontier}
use Rattle.tree_theory.proofs.Start.{universal_tied, universal_proper}
use Rattle.tree_theory.proofs.Steps.{kept, decided, reduce_refused}

-- the rows still to come are taken one by one, until one is refused
from_here : (c : ℕ) (rows more : List (List ℕ)) (t : Outline) → IsProper c t → IsTied c rows t → AllByRecursion (IsWithin c) more →
    HasValidOrder c (rows ++ more) ⊎ HasConflict c (rows ++ more)
from_here c rows [] t w k all =
    inl (subst (HasValidOrder c) (sym (append-nil rows)) (leaves t, (tied_law c rows t w.1 k (leaves t)).0 (leaves_are_frontier t)))
from_here c rows (row ∷ more) t w k all =
    elim (decided c row t w all.0) [
      | inl r ↦
          let n : IsProper c r.0 × IsTied c (rows ++ row ∷ []) r.0 = kept c rows row t r.0 w k all.0 r.1 in
          subst (λ x. HasValidOrder c x ⊎ HasConflict c x) more_is (from_here c (rows ++ row ∷ []) more r.0 n.0 n.1 all.1)
      | inr x ↦ inr (subst (HasConflict c) more_is (conflict_more c (rows ++ row ∷ []) more (reduce_refused c rows row t w k all.0 x)))
    ]
  where
    more_is : (rows ++ row ∷ []) ++ more ≡ rows ++ (row ∷ more)
    more_is = append_assoc rows (row ∷ []) more

no_column : (rows : List (List ℕ)) → HasValidOrder 0 rows
no_column rows = ([], record { order = columns_order zero; kept = λ k d l i j m p q r. absurd (omega arith) })

pub either : (c : ℕ) (rows : List (List ℕ)) → All (IsWithin c) rows → HasValidOrder c rows ⊎ HasOddWalk c rows
either zero rows all = inl (no_column rows)
either (suc c) rows all =
    elim (from_here (suc c) [] rows (universal (suc c)) (universal_proper (suc c) (omega arith)) (universal_tied (suc c) (omega arith)) (recursion_from_All (IsWithin (suc c)) rows all)) [
      | inl o ↦ inl o
      | inr x ↦ inr ((conflict_odd (suc c) rows).1 x)
    ]

pub order_exactly : (c : ℕ) (rows : List (List ℕ)) → All (IsWithin c) rows → HasValidOrder c rows ↔ (HasOddWalk c rows → ⊥)
order_exactly c rows all =
    (λ o x. odd_walk_none c rows x o, λ none. elim (either c rows all) [ inl o ↦ o | inr x ↦ absurd (none x) ])

pub no_order_exactly : (c : ℕ) (rows : List (List ℕ)) → All (IsWithin c) rows → HasOddWalk c rows ↔ (HasValidOrder c rows → ⊥)
no_order_exactly c rows all =
    (λ x o. odd_walk_none c rows x o, λ none. elim (either c rows all) [ inl o ↦ absurd (none o) | inr x ↦ x ])

pub first_rows : (m : RowList) (k : ℕ) → All (IsRow m.columns) m.rows →
    HasValidOrder m.columns (take k m.rows) ↔ (HasOddWalk m.columns (take k m.rows) → ⊥)
first_rows m k all =
    order_exactly m.columns (take k m.rows) (All-take (IsWithin m.columns) k m.rows (λ i d l. row_within m.columns _ (all i d l)))
