-- Rows that are taken one after another add up.
use Rattle.std.proofs.Common.{◌≡◌, ℕ, ◌+◌, ◌-◌, ◌*◌, ◌<◌, ◌≤◌, List, [], ◌∷◌, ◌++◌, length, take, get_or, IfOk, Result, Ok, Err, ◌∙◌, refl, sym, ap, subst, arith, append_assoc, length-append}
use Rattle.std.specs.declared.alloc.AllocError.{AllocError}
use Rattle.std.proofs.Math.Seq.{take-append-add}
use Rattle.std.proofs.lemmas.List.{take_more}
use Rattle.std.proofs.lemmas.List.Sums.{sum_by_push}
use Rattle.column_order.specs.Orders.{IsOrder, HasValidOrder}
use Rattle.row_model.specs.Cycles.{IsOddCycle}
use Rattle.row_model.specs.Graph.{row_at, HasConflict}
use Rattle.row_model.specs.Rows.{RowList}
use Rattle.row_model.specs.declared.graph.Line.{Line}
use Rattle.pq_tree.proofs.Frontiers.{leaves_are_frontier}
use Rattle.pq_tree.specs.Amortised.{weight}
use Rattle.pq_tree.specs.Canonical.{IsCanonical}
use Rattle.pq_tree.specs.Outline.{Outline, leaves}
use Rattle.pq_tree.specs.Proper.{IsProper}
use Rattle.pq_tree.specs.PqTree.{outline, column_count}
use Rattle.pq_tree.specs.declared.PqTree.{PqTree}
use Rattle.odd_cycle.specs.Short.{IsShort}
use Rattle.row_judge.specs.declared.Judged.TheVariants.{No}
use Rattle.tree_theory.specs.Frugal.{IsFrugal}
use Rattle.tree_theory.specs.declared.reducer.Step.{Step}
use Rattle.tree_theory.specs.declared.reducer.Step.TheVariants.{Taken, Refused}
use Rattle.arena_model.specs.Layout.{Layout}
use Rattle.arena_model.specs.NamedTree.{outline_at}
use Rattle.tree_theory.proofs.Exact.{tied_law}
use Rattle.tree_theory.specs.Tied.{IsTied}
use Rattle.c1p_solve.specs.Answers.{HasAllOrders, IsAnswer, IsInTurn}
use Rattle.c1p_solve.specs.Growing.{HasRefused, HasTaken}
use Rattle.c1p_solve.specs.Totals.{IsNoTotal, answer_steps, reduction_steps, search_steps}
use Rattle.c1p_solve.proofs.Orders.{tied_orders, valid_front}
use Rattle.c1p_solve.proofs.Sums.{first_steps, refused_cost}

-- a list of one row
pub only_row : (rows : List (List ℕ)) → length rows ≡ 1 → row_at rows 1 ∷ [] ≡ rows
only_row [] e = absurd (omega (arith, e))
only_row (x ∷ []) e = refl
only_row (x ∷ y ∷ rows) e = absurd (omega (arith, e))

-- what a row costs more, whether it is taken or not
row_cost : (c : ℕ) (rows : List (List ℕ)) (row : List ℕ) (w v s n p : ℕ) → n + 256 * w ≤ s + reduction_steps c rows → p + 256 * v ≤ n + 1024 * (1 + length row) + 256 * w →
    p + 256 * v ≤ s + reduction_steps c (rows ++ row ∷ [])
row_cost c rows row w v s n p a b = omega (arith, a, b, length-append rows (row ∷ []), sum_by_push length rows row)

-- the reducer has taken one row more
pub row_taken : (c : ℕ) (rows : List (List ℕ)) (row : List ℕ) (f g : Layout) (s n p : ℕ) (step : Step) → step ≡ Taken → HasTaken c rows f s n → g.columns ≡ f.columns → IsTied c (rows ++ row ∷ []) (outline_at g) →
    IsFrugal row (outline_at f) (outline_at g) n p step → HasTaken c (rows ++ row ∷ []) g s p
row_taken c rows row f g s n p step e h columns tied cost = record {
  columns = columns ∙ h.columns;
  tied = tied;
  total = row_cost c rows row (weight (outline_at f)) (weight (outline_at g)) s n p h.total (subst (IsFrugal row (outline_at f) (outline_at g) n p) e cost);
}

-- the same of the only row of a list
pub one_more : (c : ℕ) (rows one : List (List ℕ)) (f g : Layout) (s n p : ℕ) (step : Step) → step ≡ Taken → length one ≡ 1 → HasTaken c rows f s n → g.columns ≡ f.columns → IsTied c (rows ++ row_at one 1 ∷ []) (outline_at g) →
    IsFrugal (row_at one 1) (outline_at f) (outline_at g) n p step → HasTaken c (rows ++ one) g s p
one_more c rows one f g s n p step e only h columns tied cost =
    subst (λ (more : List (List ℕ)). HasTaken c (rows ++ more) g s p) (only_row one only) (row_taken c rows (row_at one 1) f g s n p step e h columns tied cost)

-- one row more of those that follow
pub next_row : (rows further : List (List ℕ)) (k : ℕ) → k < length further → rows ++ take (k + 1) further ≡ (rows ++ take k further) ++ row_at further (k + 1) ∷ []
next_row rows further k h =
    let here : k + 1 - 1 ≡ k = omega arith in
    ap (λ more. rows ++ more) (take_more further k [] h) ∙ ap (λ n. rows ++ (take k further ++ get_or further n [] ∷ [])) (sym here)
    ∙ sym (append_assoc rows (take k further) (row_at further (k + 1) ∷ []))

-- the reducer has taken one row more of those that follow
pub next_taken : (c : ℕ) (rows further : List (List ℕ)) (k : ℕ) (f g : Layout) (s n p : ℕ) (step : Step) → step ≡ Taken → k < length further → HasTaken c (rows ++ take k further) f s n → g.columns ≡ f.columns →
    IsTied c ((rows ++ take k further) ++ row_at further (k + 1) ∷ []) (outline_at g) → IsFrugal (row_at further (k + 1)) (outline_at f) (outline_at g) n p step → HasTaken c (rows ++ take (k + 1) further) g s p
next_taken c rows further k f g s n p step e h taken columns tied cost =
    subst (λ (ms : List (List ℕ)). HasTaken c ms g s p) (sym (next_row rows further k h)) (row_taken c (rows ++ take k further) (row_at further (k + 1)) f g s n p step e taken columns tied cost)

-- a proper tree that is tied to some rows has an order that is valid for them
proper_order : (c n : ℕ) (rows : List (List ℕ)) (t : Outline) → n ≡ c → IsProper n t → IsTied c rows t → HasValidOrder c rows
proper_order c n rows t e proper tied =
    (leaves t, (tied_law c rows t (subst (λ (m : ℕ). IsOrder m (leaves t)) e proper.1) tied (leaves t)).0 (leaves_are_frontier t))

-- the reducer has taken the first k of the rows that follow, and refused the next
pub next_refused : (c : ℕ) (rows further : List (List ℕ)) (k : ℕ) (f g : Layout) (s n p : ℕ) (step : Step) → step ≡ Refused → k < length further → HasTaken c (rows ++ take k further) f s n → g ≡ f →
    IsProper g.columns (outline_at g) → (HasValidOrder c ((rows ++ take k further) ++ row_at further (k + 1) ∷ []) → ⊥) → HasConflict c ((rows ++ take k further) ++ row_at further (k + 1) ∷ []) →
    IsFrugal (row_at further (k + 1)) (outline_at f) (outline_at g) n p step → HasRefused (record { columns = c; rows = rows ++ further }) (length rows + (k + 1)) g s p
next_refused c rows further k f g s n p step e h taken same proper refused conflict cost =
    let row = row_at further (k + 1) in
    let less : length rows + (k + 1) - 1 ≡ length rows + k = omega arith in
    let front : take (length rows + (k + 1) - 1) (rows ++ further) ≡ rows ++ take k further = ap (λ i. take i (rows ++ further)) less ∙ take-append-add rows further k in
    let all : take (length rows + (k + 1)) (rows ++ further) ≡ (rows ++ take k further) ++ row ∷ [] = take-append-add rows further (k + 1) ∙ next_row rows further k h in
    let columns : g.columns ≡ c = ap (λ (l : Layout). l.columns) same ∙ taken.columns in
    let tied : IsTied c (rows ++ take k further) (outline_at g) = subst (λ (l : Layout). IsTied c (rows ++ take k further) (outline_at l)) (sym same) taken.tied in
    let total : p ≤ s + reduction_steps c ((rows ++ take k further) ++ row ∷ []) =
    omega (arith, row_cost c (rows ++ take k further) row (weight (outline_at f)) 0 s n p taken.total (omega (arith, refused_cost row (outline_at f) (outline_at g) n p step e cost))) in
    record {
      from = omega arith;
      to = omega (arith, length-append rows further, h);
      columns = columns;
      tied = subst (λ (ms : List (List ℕ)). IsTied c ms (outline_at g)) (sym front) tied;
      before = subst (HasValidOrder c) (sym front) (proper_order c g.columns (rows ++ take k further) (outline_at g) columns proper tied);
      refused = λ o. refused (subst (HasValidOrder c) all o);
      conflict = subst (HasConflict c) (sym all) conflict;
      total = subst (λ (ms : List (List ℕ)). p ≤ s + reduction_steps c ms) (sym all) total;
    }

-- the cycle that is found is the answer on the matrix, and one of the rows up to the refused one
pub refused_answer : {E : Type 0} (r : Result (List Line) E) (m : RowList) (k : ℕ) (f : Layout) (s n : ℕ) → HasRefused m k f s n → IfOk r (IsOddCycle m.columns m.rows) → IfOk r (IsShort m.columns) → IfOk r (λ cycle. IsAnswer m (No cycle))
refused_answer (Ok cycle) m k f s n h odd short = (odd, λ o. h.refused (valid_front m.columns k m.rows o), short)
refused_answer (Err e) m k f s n h odd short = tt

pub refused_in_turn : {E : Type 0} (r : Result (List Line) E) (m : RowList) (k : ℕ) (f : Layout) (s n : ℕ) → HasRefused m k f s n → IfOk r (IsOddCycle m.columns (take k m.rows)) → IfOk r (λ cycle. IsInTurn m (No cycle))
refused_in_turn (Ok cycle) m k f s n h odd =
    let last : k - 1 + 1 ≡ k = omega (arith, h.from) in
    record { before = k - 1; order = h.before; cycle = subst (λ i. IsOddCycle m.columns (take i m.rows) cycle) (sym last) odd }
refused_in_turn (Err e) m k f s n h odd = tt

-- what the rows and the search came to
pub refused_total : (m : RowList) (k : ℕ) (f : Layout) (s n p : ℕ) → HasRefused m k f s n → p ≤ n + search_steps m.columns (take k m.rows) → IsNoTotal m s p
refused_total m k f s n p h ticks =
    record { k = k; from = h.from; to = h.to; before = h.before; refused = h.refused; total = omega (arith, h.total, ticks) }

pub refused_within : (m : RowList) (k : ℕ) (f : Layout) (s n p : ℕ) → HasRefused m k f s n → p ≤ n + search_steps m.columns (take k m.rows) → p ≤ s + answer_steps m
refused_within m k f s n p h ticks = omega (arith, first_steps m.columns k m.rows h.to, h.total, ticks)

-- the tree that the reducer answers has exactly the valid orders of the rows
pub grown_orders : (r : Result PqTree AllocError) (f : Layout) → IfOk r (λ u. column_count u ≡ f.columns) → IfOk r (λ u. IsCanonical (outline u)) → IfOk r (λ u. (rows : List (List ℕ)) → IsTied f.columns rows (outline_at f) → IsTied f.columns rows (outline u)) →
    IfOk r (λ u. (c : ℕ) (rows : List (List ℕ)) (s n : ℕ) → HasTaken c rows f s n → HasAllOrders (record { columns = c; rows = rows }) u)
grown_orders (Ok u) f columns canonical kept = λ c rows s n h.
    tied_orders (record { columns = c; rows = rows }) u (columns ∙ h.columns) canonical
    (subst (λ (k : ℕ). IsTied k rows (outline u)) h.columns (kept rows (subst (λ (k : ℕ). IsTied k rows (outline_at f)) (sym h.columns) h.tied)))
grown_orders (Err e) f columns canonical kept = tt
