-- What further rows cost that are taken in turn. The count of steps goes from s to n.
use Rattle.std.specs.Prelude.{◌≡◌, ◌⊎◌, ℕ, ◌+◌, ◌*◌, ◌≤◌, min, nat_lt, List, ◌++◌, length, sum_by}
use Rattle.column_order.specs.Orders.{HasValidOrder}
use Rattle.row_model.specs.Rows.{RowList}
use Rattle.pq_tree.specs.Outline.{Outline}
use Rattle.pq_tree.specs.Amortised.{weight}
use Rattle.c1p_solve.specs.Totals.{search_steps, answer_steps}
use Rattle.c1p_solve.specs.SessionTotals.{row_steps, refusal_steps}
use Rattle.solve_replies.specs.declared.TheConstants.{MAX_EXPLAINED}
use Rattle.solve_replies.specs.Sessions.{Outcome, AreOutcomes, matrix_at_end}
use Rattle.solve_replies.specs.Steps.{taking_steps}
use Rattle.solve_replies.specs.MetNodes.{AreMet}
use Rattle.solve_replies.specs.Taking.{refusals_at_end}

-- the most steps of a search for an odd cycle of the rows of a matrix and further ones
abbrev pub further_search : RowList → List (List ℕ) → ℕ
further_search m further = search_steps m.columns (m.rows ++ further)

-- the most steps of so many further rows that are refused: 512 for each of them and each column, and a search for each of the first 16
abbrev pub refused_steps : RowList → List (List ℕ) → ℕ → ℕ
refused_steps m further refusals = 512 * m.columns * refusals + min refusals MAX_EXPLAINED * further_search m further

-- the most steps of further rows, whatever comes of each
abbrev pub further_steps : RowList → List (List ℕ) → ℕ
further_steps m further = 1024 * (length further + sum_by length further) + refused_steps m further (length further)

-- a further row was taken, which makes u of the tree t, or it was refused, the last of these rows over c columns
abbrev pub IsOneCharged : ℕ → List (List ℕ) → List ℕ → ℕ → ℕ → Outline → Outline → ℕ → ℕ → Type 0
IsOneCharged c rows row refusals count t u s n =
    ((count ≡ refusals) × (n + 256 * weight u ≤ s + 1024 * (1 + length row) + 256 * weight t))
    ⊎ ((count ≡ refusals + 1) × (weight u ≡ weight t) × (n ≤ s + refusal_steps c rows (nat_lt refusals MAX_EXPLAINED)) × (n ≤ s + row_steps c rows row t (nat_lt refusals MAX_EXPLAINED)))

-- the most steps of a further row, whatever comes of it
abbrev pub one_steps : ℕ → List (List ℕ) → List ℕ → ℕ → ℕ → ℕ
one_steps c rows row refusals w = 1024 * (1 + length row) + 256 * w + refusal_steps c rows (nat_lt refusals MAX_EXPLAINED)

-- A matrix was extended by further rows, with this status. With 1 it has no valid order, and was solved within the steps of that. With 0 the
-- steps are at most those in which its rows and the accepted ones are taken, and those of the refused ones: 512 for each column, and no
-- more than 256 for each node that the row meets, and 256.
pub record ExtendsWithin (m : RowList) (further : List (List ℕ)) (status s n : ℕ) : Type 0 where
  pub base : status ≡ 1 → (HasValidOrder m.columns m.rows → ⊥) × (n ≤ s + answer_steps m)
  pub session : status ≡ 0 → (outcomes : List Outcome) × AreOutcomes m 0 further outcomes
      × (n ≤ s + taking_steps (matrix_at_end m further outcomes) + refused_steps m further (refusals_at_end 0 outcomes))
      × ((a : ℕ) × AreMet m further outcomes a × (n ≤ s + taking_steps (matrix_at_end m further outcomes) + 256 * a + min (refusals_at_end 0 outcomes) MAX_EXPLAINED * further_search m further))
  pub most : n ≤ s + answer_steps m + further_steps m further
