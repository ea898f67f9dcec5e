-- The nodes that further rows meet add up over those that are refused.
use Rattle.std.proofs.Common.{◌≡◌, ◌∙◌, ℕ, ◌+◌, List, [], ◌∷◌, ◌++◌, refl, ap, arith}
use Rattle.row_model.specs.Rows.{RowList}
use Rattle.pq_tree.specs.Outline.{Outline}
use Rattle.pq_tree.specs.Amortised.{nodes_met}
use Rattle.c1p_solve.specs.Sessions.{with_row}
use Rattle.solve_replies.specs.Sessions.{Outcome, accepted, refused, refusals_after, AreOutcomes, matrix_at_end}
use Rattle.solve_replies.specs.MetNodes.{AreMet, IsTreeNow}

-- so many, after what became of one more row
abbrev pub met_after : ℕ → List ℕ → Outline → Outcome → ℕ
met_after a row t accepted = a
met_after a row t (refused cycle) = a + (nodes_met row t + 1)

met_beside : (k b : ℕ) (row : List ℕ) (t : Outline) (o : Outcome) → met_after (k + b) row t o ≡ k + met_after b row t o
met_beside k b row t accepted = refl
met_beside k b row t (refused cycle) = omega arith

pub all_met : (m : RowList) (refusals : ℕ) (done : List (List ℕ)) (outcomes : List Outcome) (row : List ℕ) (o : Outcome) (t : Outline) (a k : ℕ) → AreOutcomes m refusals done outcomes
    → (refusals_after k o ≡ k + 1 → IsTreeNow (matrix_at_end m done outcomes) t) → AreMet m done outcomes a → AreMet m (done ++ row ∷ []) (outcomes ++ o ∷ []) (met_after a row t o)
all_met m refusals [] [] row accepted t a k all tree met = met
all_met m refusals [] [] row (refused cycle) t a k all tree met = (t, 0, tree refl, refl, omega (arith, met))
all_met m refusals [] (o ∷ os) row outcome t a k all tree met = absurd all
all_met m refusals (r ∷ done) [] row outcome t a k all tree met = absurd all
all_met m refusals (r ∷ done) (accepted ∷ os) row outcome t a k all tree met = all_met (with_row m r) refusals done os row outcome t a k all.1 tree met
all_met m refusals (r ∷ done) (refused cycle ∷ os) row outcome t a k all tree met = (
  met.0,
  met_after met.1 row t outcome,
  met.2,
  all_met m (refusals + 1) done os row outcome t met.1 k all.1 tree met.3,
  ap (λ x. met_after x row t outcome) met.4 ∙ met_beside (nodes_met r met.0 + 1) met.1 row t outcome,
)
