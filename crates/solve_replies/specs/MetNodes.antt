-- The nodes that refused rows meet.
use Rattle.std.specs.Prelude.{◌≡◌, ℕ, ◌+◌, List, ◌∷◌}
use Rattle.row_model.specs.Rows.{RowList}
use Rattle.pq_tree.specs.Outline.{Outline}
use Rattle.pq_tree.specs.Amortised.{nodes_met}
use Rattle.pq_tree.specs.Proper.{IsProper}
use Rattle.tree_theory.specs.Tied.{IsTied}
use Rattle.c1p_solve.specs.Sessions.{with_row}
use Rattle.solve_replies.specs.Sessions.{Outcome, accepted, refused}

-- a proper tree that is tied to the rows of the matrix
abbrev pub IsTreeNow : RowList → Outline → Type 0
IsTreeNow m t = IsProper m.columns t × IsTied m.columns m.rows t

-- How many nodes the refused ones of further rows meet together, and one more for each of them. Each meets the nodes of a proper tree that is
-- tied to the rows of the matrix and those accepted before it.
abbrev pub AreMet : RowList → List (List ℕ) → List Outcome → ℕ → Type 0
AreMet m (row ∷ further) (accepted ∷ outcomes) a = AreMet (with_row m row) further outcomes a
AreMet m (row ∷ further) (refused cycle ∷ outcomes) a = (t : Outline) × (b : ℕ) × IsTreeNow m t × AreMet m further outcomes b × (a ≡ nodes_met row t + 1 + b)
AreMet m further outcomes a = a ≡ 0
