-- What a session answers, and where it stands then.
use Rattle.std.specs.Prelude.{◌≡◌, ℕ, List, length, Bool, IsTrue, IsFalse, Some, None}
use Rattle.column_order.specs.Orders.{HasValidOrder}
use Rattle.row_model.specs.Rows.{RowList}
use Rattle.row_model.specs.Cycles.{IsOddCycle}
use Rattle.odd_cycle.specs.Short.{IsShort}
use Rattle.row_judge.specs.Judges.{IsFirstConflict}
use Rattle.row_judge.specs.Blamed.{IsReason}
use Rattle.c1p_solve.specs.Sessions.{SessionValue, IsSession, with_row}
use Rattle.c1p_solve.specs.declared.session.Started.{Started}
use Rattle.c1p_solve.specs.declared.session.Started.TheVariants as started
use Rattle.c1p_solve.specs.declared.session.Taken.{Taken}
use Rattle.c1p_solve.specs.declared.session.Taken.TheVariants as taken

-- a session of the matrix, which has a valid order, or a short odd cycle of the matrix, which has none; it is one of the
-- rows up to the first that leaves no valid order with those before it
abbrev pub IsStart : RowList → Started → Type 0
IsStart m (started.Ok s) = (s.matrix ≡ m) × IsSession s
IsStart m (started.No cycle) = IsOddCycle m.columns m.rows cycle × (HasValidOrder m.columns m.rows → ⊥) × IsShort m.columns cycle × IsFirstConflict m cycle

-- The last row of the matrix is taken where the rows have a valid order, and refused where they have none; then a short
-- odd cycle of them, of which that row is a reason, is there exactly where it was asked for.
abbrev pub IsDecision : RowList → Bool → Taken → Type 0
IsDecision m explain taken.Ok = HasValidOrder m.columns m.rows
IsDecision m explain (taken.No None) = (HasValidOrder m.columns m.rows → ⊥) × IsFalse explain
IsDecision m explain (taken.No (Some cycle)) = (HasValidOrder m.columns m.rows → ⊥) × IsTrue explain × IsOddCycle m.columns m.rows cycle × IsShort m.columns cycle × IsReason (length m.rows) cycle

-- a row that was taken is the last of the session's rows, and a refusal leaves the session as it was
abbrev pub StandsAfter : SessionValue → List ℕ → SessionValue → Taken → Type 0
StandsAfter before row after taken.Ok = after.matrix ≡ with_row before.matrix row
StandsAfter before row after (taken.No _) = after ≡ before
