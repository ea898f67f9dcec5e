-- A row behind the rows of a session: what its reduction says of the session.
use Rattle.std.proofs.Common.{◌≡◌, ◌≢◌, ◌∙◌, ℕ, ◌+◌, ◌-◌, ◌*◌, ◌≤◌, Bool, true, false, List, [], ◌∷◌, ◌++◌, Result, Ok, Err, get_or, length, take, sum_by, refl, ap, subst, arith, length-append}
use Rattle.std.specs.Prelude.{IfOk, OnErr, IsErr}
use Rattle.std.specs.declared.alloc.AllocError.{AllocError}
use Rattle.std.proofs.lemmas.Bool.{false≢true}
use Rattle.std.proofs.lemmas.List.{get_or-append-add, take-append-le, take_all}
use Rattle.row_model.specs.Graph.{row_at}
use Rattle.row_model.specs.Rows.{RowList}
use Rattle.pq_tree.specs.Outline.{Outline}
use Rattle.pq_tree.specs.Amortised.{nodes_met}
use Rattle.pq_tree.specs.Proper.{IsProper}
use Rattle.tree_theory.specs.Tied.{IsTied}
use Rattle.c1p_solve.specs.Sessions.{SessionValue, IsSession, with_row}
use Rattle.c1p_solve.specs.Taking.{IsDecision, StandsAfter}
use Rattle.c1p_solve.specs.Totals.{search_steps}
use Rattle.c1p_solve.specs.SessionTotals.{IsRowTotal, IsRefusedWithin, row_steps, refusal_steps}
use Rattle.c1p_solve.specs.declared.session.Taken.{Taken}
use Rattle.c1p_solve.specs.declared.session.Taken.TheVariants as taken

-- where there is no value, anything holds of it
pub no_value : {A E : Type 0} (r : Result A E) (P : A → Type 0) → IsErr r → IfOk r P
no_value (Ok a) P h = absurd (false≢true h)
no_value (Err e) P h = tt

-- a value that is not `Ok`, or an error
pub value_differs : (r : Result Taken AllocError) (x : Taken) → r ≡ Ok x → x ≢ taken.Ok → r ≢ Ok taken.Ok
value_differs r x is other e = other (cc)

pub error_differs : (r : Result Taken AllocError) (x : AllocError) → r ≡ Err x → r ≢ Ok taken.Ok
error_differs r x is e = cc

-- the last row of a matrix was reduced, which makes u of the tree t, while the count of steps went from s to n
pub record IsLastReduced (m : RowList) (row : List ℕ) (t u : Outline) (explain : Bool) (s n : ℕ) (r : Result Taken AllocError) : Type 0 where
  pub decision : IfOk r (IsDecision m explain)
  pub tied : IfOk r (λ x. x ≡ taken.Ok → IsTied m.columns m.rows u)
  pub unchanged : IfOk r (λ x. x ≢ taken.Ok → u ≡ t)
  pub proper : IfOk r (λ x. x ≢ taken.Ok → IsProper m.columns t)
  pub err : OnErr r (u ≡ t)
  pub total : IfOk r (IsRowTotal m.columns m.rows row t u s n)
  pub most : n ≤ s + row_steps m.columns m.rows row t explain
  pub refused : IfOk r (IsRefusedWithin m.columns m.rows explain s n)
  pub failed : OnErr r (n ≤ s + refusal_steps m.columns m.rows explain)

-- the last row, and those before it
pub row_behind : (rows : List (List ℕ)) (row : List ℕ) → row_at (rows ++ row ∷ []) (length (rows ++ row ∷ [])) ≡ row
row_behind rows row =
    let place : length (rows ++ row ∷ []) - 1 ≡ length rows + 0 = omega (arith, length-append rows (row ∷ [])) in
    ap (λ k. get_or (rows ++ row ∷ []) k []) place ∙ get_or-append-add rows (row ∷ []) 0 []

pub rows_before : (rows : List (List ℕ)) (row : List ℕ) → take (length (rows ++ row ∷ []) - 1) (rows ++ row ∷ []) ≡ rows
rows_before rows row =
    let place : length (rows ++ row ∷ []) - 1 ≡ length rows = omega (arith, length-append rows (row ∷ [])) in
    ap (λ k. take k (rows ++ row ∷ [])) place ∙ take-append-le (length rows) rows (row ∷ []) (omega arith) ∙ take_all (length rows) rows (omega arith)

-- so was a row behind those of a session
pub behind_session : (b : SessionValue) (row : List ℕ) (m : RowList) (t u : Outline) (explain : Bool) (s n : ℕ) (r : Result Taken AllocError) → m ≡ with_row b.matrix row → t ≡ b.tree
    → IsLastReduced m (row_at m.rows (length m.rows)) t u explain s n r → IsLastReduced (with_row b.matrix row) row b.tree u explain s n r
behind_session b row m t u explain s n r pushed same h =
    let there = subst (λ (k : RowList). IsLastReduced k (row_at k.rows (length k.rows)) t u explain s n r) pushed h in
    let by = subst (λ (x : List ℕ). IsLastReduced (with_row b.matrix row) x t u explain s n r) (row_behind b.matrix.rows row) there in
    subst (λ (x : Outline). IsLastReduced (with_row b.matrix row) row x u explain s n r) same by

-- where the row is not taken, the tree is as before, and so is the session without the row
pub same_tree : (m : RowList) (row : List ℕ) (t u : Outline) (explain : Bool) (s n : ℕ) (r : Result Taken AllocError) → r ≢ Ok taken.Ok → IsLastReduced m row t u explain s n r → u ≡ t
same_tree m row t u explain s n (Ok taken.Ok) other h = absurd (other refl)
same_tree m row t u explain s n (Ok (taken.No cycle)) other h = h.unchanged (λ e. absurd (cc))
same_tree m row t u explain s n (Err e) other h = h.err

pub stands_still : (before after : SessionValue) (row : List ℕ) (r : Result Taken AllocError) → r ≢ Ok taken.Ok → after ≡ before → IfOk r (StandsAfter before row after)
stands_still before after row (Ok taken.Ok) other same = absurd (other refl)
stands_still before after row (Ok (taken.No cycle)) other same = same
stands_still before after row (Err e) other same = tt

-- where it is taken, the session has it
pub session_longer : (b : SessionValue) (row : List ℕ) (u : Outline) (explain : Bool) (s n : ℕ) (r : Result Taken AllocError) → r ≡ Ok taken.Ok → IsLastReduced (with_row b.matrix row) row b.tree u explain s n r
    → IsSession (record { matrix = with_row b.matrix row; tree = u })
session_longer b row u explain s n r is h =
    let taken = subst (IsLastReduced (with_row b.matrix row) row b.tree u explain s n) is h in
    record { tied = taken.tied refl; order = taken.decision }

-- the search after a refusal goes over all rows
pub searched : (c k p n : ℕ) (rows : List (List ℕ)) → k ≡ length rows → n ≤ p + 8 * c * (sum_by length (take k rows) + 1) → n ≤ p + search_steps c rows
searched c k p n rows last h = subst (λ (rs : List (List ℕ)). n ≤ p + 8 * c * (sum_by length rs + 1)) (take_all k rows (omega (arith, last))) h

pub most_explained : (c s n : ℕ) (rows : List (List ℕ)) (row : List ℕ) (t : Outline) (explain : Bool) → explain ≡ true → n ≤ s + 256 * (nodes_met row t + 1) + search_steps c rows → n ≤ s + row_steps c rows row t explain
most_explained c s n rows row t false e h = absurd (false≢true e)
most_explained c s n rows row t true e h = omega (arith, h)
