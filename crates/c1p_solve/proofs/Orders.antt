-- Valid orders of the first rows, and of the rows that a tree is tied to.
use Rattle.std.proofs.Common.{◌≡◌, ◌∙◌, ℕ, ◌+◌, ◌-◌, ◌≤◌, List, take, subst, sym, arith, [], IfOk, Result, Ok, Err}
use Rattle.std.specs.declared.alloc.AllocError.{AllocError}
use Rattle.std.proofs.lemmas.List.Elements.{All-take}
use Rattle.column_order.specs.Orders.{IsOrder, Keeps, IsValidOrder, HasValidOrder}
use Rattle.row_model.specs.Rows.{RowList}
use Rattle.row_model.specs.Cycles.{IsOddCycle}
use Rattle.row_model.specs.declared.graph.Line.{Line}
use Rattle.row_judge.specs.Blamed.{IsReason, FirstConflictLaw}
use Rattle.pq_tree.specs.Outline.{Outline, leaves, IsFrontier}
use Rattle.pq_tree.specs.Canonical.{IsCanonical}
use Rattle.pq_tree.specs.Proper.{columns}
use Rattle.pq_tree.proofs.Universal.{columns_order}
use Rattle.pq_tree.specs.PqTree.{outline, column_count}
use Rattle.pq_tree.specs.declared.PqTree.{PqTree}
use Rattle.tree_theory.specs.Tied.{IsTied}
use Rattle.tree_theory.proofs.Exact.{tied_law}
use Rattle.c1p_solve.specs.Answers.{HasAllOrders}

-- a valid order of some rows is one of the first of them
pub valid_front : (c k : ℕ) (rows : List (List ℕ)) → HasValidOrder c rows → HasValidOrder c (take k rows)
valid_front c k rows h = (h.0, record { order = h.1.order; kept = All-take (Keeps h.0) k rows h.1.kept })

-- the frontiers of a canonical tree that is tied to the rows of a matrix are exactly its valid orders
pub tied_orders : (m : RowList) (t : PqTree) → column_count t ≡ m.columns → IsCanonical (outline t) → IsTied m.columns m.rows (outline t) → HasAllOrders m t
tied_orders m t e canonical tied = record {
  columns = e;
  canonical = canonical;
  tied = tied;
  orders = tied_law m.columns m.rows (outline t) (subst (λ (n : ℕ). IsOrder n (leaves (outline t))) e t.proper.1) tied;
}

-- the same of what a reducer of so many columns, whose tree is tied to the rows, answers
pub reducer_orders : (m : RowList) (r : Result PqTree AllocError) (n : ℕ) (t : Outline) → n ≡ m.columns → IsTied m.columns m.rows t → IfOk r (λ u. column_count u ≡ n) → IfOk r (λ u. IsCanonical (outline u)) → IfOk r (λ u. (rows : List (List ℕ)) → IsTied n rows t → IsTied n rows (outline u)) → IfOk r (HasAllOrders m)
reducer_orders m (Ok u) n t e tied columns canonical kept = tied_orders m u (columns ∙ e) canonical (subst (λ (k : ℕ). IsTied k m.rows (outline u)) e (kept m.rows (subst (λ (k : ℕ). IsTied k m.rows t) (sym e) tied)))
reducer_orders m (Err error) n t e tied columns canonical kept = tt

-- the tree that it answers is tied to the rows
pub reducer_tied : (m : RowList) (r : Result PqTree AllocError) (n : ℕ) (t : Outline) → n ≡ m.columns → IsTied m.columns m.rows t → IfOk r (λ u. (rows : List (List ℕ)) → IsTied n rows t → IsTied n rows (outline u)) → IfOk r (λ u. IsTied m.columns m.rows (outline u))
reducer_tied m (Ok u) n t e tied kept = subst (λ (k : ℕ). IsTied k m.rows (outline u)) e (kept m.rows (subst (λ (k : ℕ). IsTied k m.rows t) (sym e) tied))
reducer_tied m (Err error) n t e tied kept = tt

-- where there is no row, the columns as they stand are a valid order
pub some_order : (c : ℕ) → HasValidOrder c []
some_order c = (columns c, record { order = columns_order c; kept = λ k d m. absurd (omega arith) })

-- a frontier of the tree that a reducer of so many columns answers, whose own is tied to some rows, is a valid order of
-- them
pub frontier_valid : (c n : ℕ) (rows : List (List ℕ)) (own : Outline) (t : PqTree) (f : List ℕ) → n ≡ c → column_count t ≡ n → IsTied c rows own → ((some : List (List ℕ)) → IsTied n some own → IsTied n some (outline t))
    → IsFrontier (outline t) f → IsOrder (column_count t) f → IsValidOrder c rows f
frontier_valid c n rows own t f same columns tied kept frontier order =
    let there = subst (λ (k : ℕ). IsTied k rows (outline t)) same (kept rows (subst (λ (k : ℕ). IsTied k rows own) (sym same) tied)) in
    record { order = subst (λ k. IsOrder k f) (columns ∙ same) order; kept = there.kept f frontier }

-- an odd cycle of the rows 1 to k blames row k where an order is valid for those before it
pub row_blamed : FirstConflictLaw → (m : RowList) (k : ℕ) (order : List ℕ) (lines : List Line) → 1 ≤ k → IsValidOrder m.columns (take (k - 1) m.rows) order → IsOddCycle m.columns (take k m.rows) lines → IsReason k lines
row_blamed blames m k order lines from valid cycle =
    let last : k - 1 + 1 ≡ k = omega (arith, from) in
    subst (λ n. IsReason n lines) last
    (blames m lines (record { before = k - 1; order = (order, valid); cycle = subst (λ n. IsOddCycle m.columns (take n m.rows) lines) (sym last) cycle }))
