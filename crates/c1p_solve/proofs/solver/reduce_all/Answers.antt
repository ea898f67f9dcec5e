use Rattle.std.proofs.Common.{◌≡◌, ◌∙◌, ℕ, ◌+◌, ◌-◌, ◌*◌, ◌<◌, ◌≤◌, List, length, take, subst, arith}
use Rattle.std.proofs.lemmas.List.{take_all}
use Rattle.pq_tree.specs.Amortised.{weight}
use Rattle.c1p_solve.proofs.Orders.{some_order, valid_front}
use Rattle.row_model.specs.Graph.{row_at}
use Rattle.tree_theory.specs.Frugal.{IsFrugal}
use Rattle.c1p_solve.specs.Totals.{reduction_steps, search_steps}
use Rattle.c1p_solve.proofs.Sums.{IsPaidSoFar, all_taken, one_taken, one_refused, one_failed, first_steps, refused_cost}
use Rattle.c1p_solve.proofs.solver.reduce_all.Goals as goal

pub loop-taken-init : goal.loop-taken-init
loop-taken-init g c = record { columns = c.requires.columns; tied = c.requires.tied; order = some_order c.args.m.now.columns; paid = λ f h. omega (arith, h) }

pub loop-taken-preserved : goal.loop-taken-preserved
loop-taken-preserved g c =
    let m = c.args.m.now in
    let inside : c.loop-taken.taken + 1 ≤ length m.rows = omega (arith, c.loop-taken-test.true, c.loop-taken.auto.taken-end, c.rows-taken-end.ensures) in
    let t = g.R.Reducer.outline c.loop-taken.reducer in
    let u = g.R.Reducer.outline c.reduce.new.self in
    record {
      columns = c.reduce.ensures.columns ∙ c.loop-taken.invariant.columns;
      tied = c.in_ok-reduce.ensures.taken c.in-Taken.is;
      order = c.in_ok-reduce.ensures.order c.in-Taken.is;
      paid = λ f h. one_taken m.columns m.rows c.loop-taken.taken (weight t) (weight u) c.args.steps.now c.loop-taken.steps c.reduce.new.steps (omega (arith, inside)) (c.loop-taken.invariant.paid f h)
          (subst (IsFrugal (row_at m.rows (c.loop-taken.taken + 1)) t u c.loop-taken.steps c.reduce.new.steps) c.in-Taken.is (c.in_ok-reduce.ensures.frugal f));
    }

pub returns-clause-reduction : goal.returns-clause-reduction
returns-clause-reduction g c =
    let whole : take c.loop-taken.taken c.args.m.now.rows ≡ c.args.m.now.rows = take_all c.loop-taken.taken c.args.m.now.rows (omega arith) in
    (rw whole at c.loop-taken.invariant.tied, rw whole at c.loop-taken.invariant.order)

pub returns-in-Refused-clause-reduction : goal.returns-in-Refused-clause-reduction
returns-in-Refused-clause-reduction g c =
    let before : c.loop-taken.taken + 1 - 1 ≡ c.loop-taken.taken = omega arith in
    let refused = c.in_ok-reduce.ensures.refused c.in-Refused.is in (
      c.in_ok-conflict-in-Refused.ensures.cycle,
      λ h. refused (valid_front c.args.m.now.columns (c.loop-taken.taken + 1) c.args.m.now.rows h),
      record {
        k = c.loop-taken.taken + 1;
        from = omega arith;
        to = omega (arith, c.loop-taken-test.true, c.loop-taken.auto.taken-end, c.rows-taken-end.ensures);
        tied = rw (before, c.in_ok-reduce.ensures.unchanged c.in-Refused.is) c.loop-taken.invariant.tied;
        before = rw before c.loop-taken.invariant.order;
        refused = refused;
      },
      c.in_ok-conflict-in-Refused.ensures.short,
    )

pub returns-in-Refused-clause-in_turn : goal.returns-in-Refused-clause-in_turn
returns-in-Refused-clause-in_turn g c = record { before = c.loop-taken.taken; order = c.loop-taken.invariant.order; cycle = c.in_ok-conflict-in-Refused.ensures.first_rows }

pub returns-clause-total : goal.returns-clause-total
returns-clause-total g c =
    λ f h. all_taken c.args.m.now.columns c.args.m.now.rows c.loop-taken.taken (weight (g.R.Reducer.outline c.loop-taken.reducer)) c.args.steps.now c.loop-taken.steps
    (omega arith) (omega arith) (c.loop-taken.invariant.paid f h)

pub returns-in-Refused-clause-total : goal.returns-in-Refused-clause-total
returns-in-Refused-clause-total g c =
    let before : c.loop-taken.taken + 1 - 1 ≡ c.loop-taken.taken = omega arith in
    let inside : c.loop-taken.taken + 1 ≤ length c.args.m.now.rows = omega (arith, c.loop-taken-test.true, c.loop-taken.auto.taken-end, c.rows-taken-end.ensures) in
    λ f h. record {
      k = c.loop-taken.taken + 1;
      from = omega arith;
      to = inside;
      before = rw before c.loop-taken.invariant.order;
      refused = c.in_ok-reduce.ensures.refused c.in-Refused.is;
      total = one_refused c.args.m.now.columns c.args.m.now.rows c.loop-taken.taken (weight (g.R.Reducer.outline c.loop-taken.reducer)) c.args.steps.now c.loop-taken.steps
          c.reduce.new.steps c.conflict.new.steps (omega (arith, inside)) (c.loop-taken.invariant.paid f h)
          (refused_cost (row_at c.args.m.now.rows (c.loop-taken.taken + 1)) (g.R.Reducer.outline c.loop-taken.reducer) (g.R.Reducer.outline c.reduce.new.self) c.loop-taken.steps c.reduce.new.steps
          c.in_ok-reduce.field-0 c.in-Refused.is (c.in_ok-reduce.ensures.frugal f))
          c.conflict.ensures.ticks;
    }

-- what the refusal of a row and the search after it come to, of all rows
refused_most : (c k : ℕ) (rows : List (List ℕ)) (w s n p q : ℕ) → k < length rows → IsPaidSoFar c rows k w s n → p ≤ n + 1024 * (1 + length (row_at rows (k + 1))) + 256 * w
    → q ≤ p + search_steps c (take (k + 1) rows) → q ≤ s + (reduction_steps c rows + search_steps c rows)
refused_most c k rows w s n p q h a b d = omega (arith, first_steps c (k + 1) rows (omega (arith, h)), one_refused c rows k w s n p q h a b d)

pub returns-clause-most : goal.returns-clause-most
returns-clause-most g c = λ f h. omega (arith, returns-clause-total g c f h)

pub returns-in_err-reduce-clause-most : goal.returns-in_err-reduce-clause-most
returns-in_err-reduce-clause-most g c =
    let inside : c.loop-taken.taken + 1 ≤ length c.args.m.now.rows = omega (arith, c.loop-taken-test.true, c.loop-taken.auto.taken-end, c.rows-taken-end.ensures) in
    λ f h. omega (
      arith,
      one_failed c.args.m.now.columns c.args.m.now.rows c.loop-taken.taken (weight (g.R.Reducer.outline c.loop-taken.reducer)) c.args.steps.now c.loop-taken.steps
          c.reduce.new.steps (omega (arith, inside)) (c.loop-taken.invariant.paid f h) (c.in_err-reduce.ensures.frugal_err f),
    )

pub returns-in_err-conflict-in-Refused-clause-most : goal.returns-in_err-conflict-in-Refused-clause-most
returns-in_err-conflict-in-Refused-clause-most g c =
    let inside : c.loop-taken.taken + 1 ≤ length c.args.m.now.rows = omega (arith, c.loop-taken-test.true, c.loop-taken.auto.taken-end, c.rows-taken-end.ensures) in
    λ f h. refused_most c.args.m.now.columns c.loop-taken.taken c.args.m.now.rows (weight (g.R.Reducer.outline c.loop-taken.reducer)) c.args.steps.now c.loop-taken.steps c.reduce.new.steps c.conflict.new.steps
    (omega (arith, inside)) (c.loop-taken.invariant.paid f h)
    (refused_cost (row_at c.args.m.now.rows (c.loop-taken.taken + 1)) (g.R.Reducer.outline c.loop-taken.reducer) (g.R.Reducer.outline c.reduce.new.self) c.loop-taken.steps c.reduce.new.steps
    c.in_ok-reduce.field-0 c.in-Refused.is (c.in_ok-reduce.ensures.frugal f)) c.conflict.ensures.ticks

pub returns-in-Refused-clause-most : goal.returns-in-Refused-clause-most
returns-in-Refused-clause-most g c =
    let inside : c.loop-taken.taken + 1 ≤ length c.args.m.now.rows = omega (arith, c.loop-taken-test.true, c.loop-taken.auto.taken-end, c.rows-taken-end.ensures) in
    λ f h. refused_most c.args.m.now.columns c.loop-taken.taken c.args.m.now.rows (weight (g.R.Reducer.outline c.loop-taken.reducer)) c.args.steps.now c.loop-taken.steps c.reduce.new.steps c.conflict.new.steps
    (omega (arith, inside)) (c.loop-taken.invariant.paid f h)
    (refused_cost (row_at c.args.m.now.rows (c.loop-taken.taken + 1)) (g.R.Reducer.outline c.loop-taken.reducer) (g.R.Reducer.outline c.reduce.new.self) c.loop-taken.steps c.reduce.new.steps
    c.in_ok-reduce.field-0 c.in-Refused.is (c.in_ok-reduce.ensures.frugal f)) c.conflict.ensures.ticks
