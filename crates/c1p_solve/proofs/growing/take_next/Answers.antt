use Rattle.std.proofs.Common.{◌++◌, List, ℕ, sym, subst}
use Rattle.column_order.specs.Orders.{HasValidOrder}
use Rattle.c1p_solve.proofs.Growth.{only_row, one_more}
use Rattle.c1p_solve.proofs.growing.take_next.Goals as goal

pub returns-clause-taken : goal.returns-clause-taken
returns-clause-taken g c = λ e rows s h.
    one_more c.args.m.now.columns rows c.args.m.now.rows c.args.reducer.now c.reduce_after.new.self s c.args.steps.now c.reduce_after.new.steps c.reduce_after.result e c.requires.one h c.reduce_after.ensures.columns
    (c.reduce_after.ensures.taken e rows h.tied) c.reduce_after.ensures.amortised

pub returns-clause-refused : goal.returns-clause-refused
returns-clause-refused g c = λ e rows s h o.
    c.reduce_after.ensures.refused e rows h.tied
    (subst (λ (one : List (List ℕ)). HasValidOrder c.args.m.now.columns (rows ++ one)) (sym (only_row c.args.m.now.rows c.requires.one)) o)

pub returns-clause-unchanged : goal.returns-clause-unchanged
returns-clause-unchanged g c = c.reduce_after.ensures.unchanged
