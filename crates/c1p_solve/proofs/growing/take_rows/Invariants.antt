use Rattle.std.proofs.Common.{ℕ, List, ◌++◌, take}
use Rattle.c1p_solve.specs.Growing.{HasTaken}
use Rattle.c1p_solve.proofs.growing.take_rows.Given as goal

-- the rows so far are taken
abbrev pub invariant-loop-taken : goal.invariant-loop-taken
invariant-loop-taken g l = (rows : List (List ℕ)) (s : ℕ) → HasTaken l.m.columns rows l.fn.reducer s l.fn.steps → HasTaken l.m.columns (rows ++ take l.taken l.m.rows) l.reducer s l.steps
