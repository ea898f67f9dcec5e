use Rattle.std.proofs.Common.{◌≡◌, ℕ, ◌++◌, List, take, sym, subst, append-nil, arith}
use Rattle.std.proofs.lemmas.List.{take_all}
use Rattle.c1p_solve.specs.Growing.{HasTaken}
use Rattle.c1p_solve.proofs.Growth.{next_taken, next_refused}
use Rattle.c1p_solve.proofs.growing.take_rows.Goals as goal

pub loop-taken-init : goal.loop-taken-init
loop-taken-init g c = λ rows s h. subst (λ (ms : List (List ℕ)). HasTaken c.args.m.now.columns ms c.args.reducer.now s c.args.steps.now) (sym (append-nil rows)) h

pub reduce_after-requires-clause-columns : goal.reduce_after-requires-clause-columns
reduce_after-requires-clause-columns g c =
    let given = c.requires.taken in
    (c.loop-taken.invariant given.0 given.1 given.2).columns

pub reduce_after-requires-clause-tied : goal.reduce_after-requires-clause-tied
reduce_after-requires-clause-tied g c =
    let given = c.requires.taken in
    (given.0 ++ take c.loop-taken.taken c.args.m.now.rows, (c.loop-taken.invariant given.0 given.1 given.2).tied)

pub loop-taken-preserved : goal.loop-taken-preserved
loop-taken-preserved g c = λ rows s h.
    let m = c.args.m.now in
    let so = c.loop-taken.invariant rows s h in
    next_taken m.columns rows m.rows c.loop-taken.taken c.loop-taken.reducer c.reduce_after.new.self s c.loop-taken.steps c.reduce_after.new.steps c.reduce_after.result c.in-Taken.is (omega arith) so
    c.reduce_after.ensures.columns (c.reduce_after.ensures.taken c.in-Taken.is (rows ++ take c.loop-taken.taken m.rows) so.tied) c.reduce_after.ensures.amortised

pub returns-in-Refused : goal.returns-in-Refused
returns-in-Refused g c = λ rows s h.
    let m = c.args.m.now in
    let so = c.loop-taken.invariant rows s h in
    let front = rows ++ take c.loop-taken.taken m.rows in
    next_refused m.columns rows m.rows c.loop-taken.taken c.loop-taken.reducer c.reduce_after.new.self s c.loop-taken.steps c.reduce_after.new.steps c.reduce_after.result c.in-Refused.is (omega arith) so
    (c.reduce_after.ensures.unchanged c.in-Refused.is) c.reduce_after.ensures.proper (c.reduce_after.ensures.refused c.in-Refused.is front so.tied)
    (c.reduce_after.ensures.conflict c.in-Refused.is front so.tied) c.reduce_after.ensures.amortised

pub returns : goal.returns
returns g c = λ rows s h.
    let whole : take c.loop-taken.taken c.args.m.now.rows ≡ c.args.m.now.rows = take_all c.loop-taken.taken c.args.m.now.rows (omega arith) in
    subst (λ (ms : List (List ℕ)). HasTaken c.args.m.now.columns (rows ++ ms) c.loop-taken.reducer s c.loop-taken.steps) whole (c.loop-taken.invariant rows s h)
