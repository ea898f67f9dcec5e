-- Rows that are drawn and taken one after another.
use Rattle.std.proofs.Common.{◌≡◌, ◌∙◌, ℕ, suc, ◌+◌, ◌*◌, ◌≤◌, List, [], ◌∷◌, ◌++◌, Bool, ◌&&◌, leb, length, Result, Ok, Err, refl, sym, ap, subst, arith, append-nil, length-append}
use Rattle.std.specs.Prelude.{All, sum_by, min, max}
use Rattle.std.specs.List.{filter, range_with_len}
use Rattle.std.proofs.Math.Seq.{take-append_seam}
use Rattle.std.proofs.lemmas.List.Elements.{All-take}
use Rattle.std.proofs.lemmas.List.FromFn.{length-range_with_len}
use Rattle.std.proofs.lemmas.List.Sums.{length-filter, count_by-le-length, sum_by-append, sum_by_push}
use Rattle.column_order.specs.Orders.{place, Keeps, HasValidOrder}
use Rattle.row_model.specs.Rows.{RowList}
use Rattle.c1p_solve.specs.Totals.{reduction_steps}
use Rattle.solve_replies.specs.Drawing.{drawn_row}
use Rattle.solve_replies.specs.Generated.{next_state, drawn, drawn_rows}
use Rattle.solve_replies.specs.Steps.{SolvesMatrixWithin, taking_steps, made_status}
use Rattle.solve_replies.proofs.Drawn.{rows_next}

-- so many rows are drawn, of which P holds and which have so many ones; those that are left are drawn from this state
pub record IsGrown (P : List (List ℕ) → Type 0) (k left : ℕ) (all : List (List ℕ)) (ones : ℕ) (order : List ℕ) (state : ℕ) : Type 0 where
  pub done : List (List ℕ)
  pub whole : all ≡ done ++ drawn_rows left order state
  pub holds : P done
  pub counted : ones ≡ sum_by length done
  pub few : ones ≤ 2048 * k

filter_few : (p : ℕ → Bool) (xs : List ℕ) → length (filter p xs) ≤ length xs
filter_few p xs = omega (arith, length-filter p xs, count_by-le-length p xs)

-- a run of an order has no more columns than the order
pub run_few : (order : List ℕ) (state : ℕ) → length (drawn_row order state) ≤ length order
run_few order state =
    let p = drawn (length order) (next_state state) in
    let q = drawn (length order) (next_state (next_state state)) in
    let few : length (drawn_row order state) ≤ length (range_with_len 1 (length order)) =
    filter_few (λ column. leb (min p q) (place order column) && leb (place order column) (max p q)) (range_with_len 1 (length order)) in
    omega (arith, few, length-range_with_len 1 (length order))

-- one row more is drawn
pub grown_more : (P Q : List (List ℕ) → Type 0) (k left less : ℕ) (all : List (List ℕ)) (ones more : ℕ) (order : List ℕ) (state : ℕ) (g : IsGrown P k left all ones order state) → left ≡ suc less →
    Q (g.done ++ drawn_row order state ∷ []) → more ≡ length (drawn_row order state) → length order ≤ 2048 → IsGrown Q (k + 1) less all (ones + more) order (next_state (next_state state))
grown_more P Q k left less all ones more order state g e holds count few = record {
  done = g.done ++ drawn_row order state ∷ [];
  whole = g.whole ∙ rows_next less order (drawn_row order state) state g.done left e refl;
  holds = holds;
  counted = omega (arith, g.counted, count, sum_by_push length g.done (drawn_row order state));
  few = omega (arith, g.few, count, run_few order state, few);
}

-- the first of some rows that have a valid order have one
pub front_order : (c : ℕ) (xs ys : List (List ℕ)) → HasValidOrder c (xs ++ ys) → HasValidOrder c xs
front_order c xs ys h = (h.0, record { order = h.1.order; kept = subst (λ z. All (Keeps h.0) z) (take-append_seam xs ys) (All-take (Keeps h.0) (length xs) (xs ++ ys) h.1.kept) })

-- and with one row more
pub next_order : (P : List (List ℕ) → Type 0) (c k left less : ℕ) (all : List (List ℕ)) (ones : ℕ) (order : List ℕ) (state : ℕ) (g : IsGrown P k left all ones order state) → left ≡ suc less → HasValidOrder c all →
    HasValidOrder c (g.done ++ drawn_row order state ∷ [])
next_order P c k left less all ones order state g e h =
    front_order c (g.done ++ drawn_row order state ∷ []) (drawn_rows less order (next_state (next_state state)))
    (subst (HasValidOrder c) (g.whole ∙ rows_next less order (drawn_row order state) state g.done left e refl) h)

-- the first rows cost no more than all
pub front_steps : (c : ℕ) (xs ys : List (List ℕ)) → reduction_steps c xs ≤ reduction_steps c (xs ++ ys)
front_steps c xs ys = omega (arith, length-append xs ys, sum_by-append length xs ys)

pub done_steps : (P : List (List ℕ) → Type 0) (c k left : ℕ) (all : List (List ℕ)) (ones : ℕ) (order : List ℕ) (state : ℕ) (g : IsGrown P k left all ones order state) → reduction_steps c g.done ≤ reduction_steps c all
done_steps P c k left all ones order state g =
    subst (λ z. reduction_steps c g.done ≤ reduction_steps c z) (sym g.whole) (front_steps c g.done (drawn_rows left order state))

-- all rows are drawn
pub all_done : (P : List (List ℕ) → Type 0) (k left : ℕ) (all : List (List ℕ)) (ones : ℕ) (order : List ℕ) (state : ℕ) (g : IsGrown P k left all ones order state) → left ≡ 0 → g.done ≡ all
all_done P k left all ones order state g e = sym (g.whole ∙ ap (λ n. g.done ++ drawn_rows n order state) e ∙ append-nil g.done)

-- all rows were taken, within their steps
pub taken_within : (m : RowList) (s n : ℕ) → n ≤ s + taking_steps m → SolvesMatrixWithin m 0 s n
taken_within m s n h = record { yes = λ e. h; no = λ e. absurd (omega (arith, e)); most = omega (arith, h) }

-- the same, or memory was refused
pub made_within : {A E : Type 0} (status : A → ℕ) → ((made : A) → status made ≡ 0) → (r : Result A E) (m : RowList) (s n : ℕ) → n ≤ s + taking_steps m → SolvesMatrixWithin m (made_status status r) s n
made_within status zero (Ok made) m s n h = subst (λ k. SolvesMatrixWithin m k s n) (sym (zero made)) (taken_within m s n h)
made_within status zero (Err e) m s n h = record { yes = λ e. absurd (omega (arith, e)); no = λ e. absurd (omega (arith, e)); most = omega (arith, h) }
