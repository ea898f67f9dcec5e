use Rattle.std.proofs.Common.{◌-◌, List, ℕ, take, sym, subst}
use Rattle.std.proofs.lemmas.Result.{IfOk-weaker}
use Rattle.column_order.specs.Orders.{IsValidOrder}
use Rattle.row_model.specs.Cycles.{IsOddCycle}
use Rattle.row_judge.specs.Blamed.{IsReason}
use Rattle.c1p_solve.proofs.Orders.{frontier_valid, row_blamed}
use Rattle.c1p_solve.proofs.solver.conflict.Goals as goal

pub odd_cycle_along-requires-clause-order : goal.odd_cycle_along-requires-clause-order
odd_cycle_along-requires-clause-order g c =
    let m = c.args.m.now in
    let front : List (List ℕ) = take (c.args.k - 1) m.rows in
    let tree = c.in_ok-tree.ensures in
    let valid = frontier_valid m.columns (g.R.Reducer.columns c.args.reducer.now) front (g.R.Reducer.outline c.args.reducer.now) c.in_ok-tree.tree c.in_ok-order.order.items c.requires.columns tree.columns c.requires.tied
    tree.tied c.in_ok-order.ensures.frontier c.in_ok-order.ensures.order in
    subst (IsValidOrder m.columns front) (sym c.deref.ensures.value) valid

pub returns-clause-reason : goal.returns-clause-reason
returns-clause-reason g c =
    let m = c.args.m.now in
    let front : List (List ℕ) = take (c.args.k - 1) m.rows in
    let tree = c.in_ok-tree.ensures in
    let valid = frontier_valid m.columns (g.R.Reducer.columns c.args.reducer.now) front (g.R.Reducer.outline c.args.reducer.now) c.in_ok-tree.tree c.in_ok-order.order.items c.requires.columns tree.columns c.requires.tied
    tree.tied c.in_ok-order.ensures.frontier c.in_ok-order.ensures.order in
    IfOk-weaker c.odd_cycle_along.result (IsOddCycle m.columns (take c.args.k m.rows)) (IsReason c.args.k)
    (λ lines cycle. row_blamed c.last_row_laws.ensures.first m c.args.k c.in_ok-order.order.items lines c.requires.row.0 valid cycle) c.odd_cycle_along.ensures.first_rows

pub returns-clause-cycle : goal.returns-clause-cycle
returns-clause-cycle g c = c.odd_cycle_along.ensures.cycle

pub returns-clause-first_rows : goal.returns-clause-first_rows
returns-clause-first_rows g c = c.odd_cycle_along.ensures.first_rows

pub returns-clause-short : goal.returns-clause-short
returns-clause-short g c = c.odd_cycle_along.ensures.short

pub returns-clause-ticks : goal.returns-clause-ticks
returns-clause-ticks g c = c.odd_cycle_along.ensures.ticks

pub odd_cycle_along-requires-clause-row : goal.odd_cycle_along-requires-clause-row
odd_cycle_along-requires-clause-row g c = c.requires.row

pub odd_cycle_along-requires-clause-refused : goal.odd_cycle_along-requires-clause-refused
odd_cycle_along-requires-clause-refused g c = c.requires.conflict
