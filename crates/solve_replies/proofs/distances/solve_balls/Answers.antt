use Rattle.std.proofs.Common.{◌≡◌, ◌∙◌, ◌+◌, ◌<◌, ◌≤◌, [], length, refl, sym, ap, subst, arith, length-append}
use Rattle.row_model.specs.Rows.{RowList}
use Rattle.robinson_balls.specs.Balls.{balls_round, balls_to, balls_of}
use Rattle.c1p_solve.specs.Answers.{HasAllOrders}
use Rattle.c1p_solve.specs.Growing.{HasTaken, HasRefused}
use Rattle.solve_replies.specs.Steps.{answer_status}
use Rattle.solve_replies.proofs.Centres.{next_centre, few_to, steps_to, ready_for, centre_taken, centre_refused, all_orders_some, unmade_within}
use Rattle.solve_replies.proofs.Grown.{taken_within}
use Rattle.solve_replies.proofs.distances.solve_balls.Given as given
use Rattle.solve_replies.proofs.distances.solve_balls.Goals as goal
use Rattle.solve_replies.proofs.distances.solve_balls.Goals.{In-Some}

pub loop-before-init : goal.loop-before-init
loop-before-init g c =
    let s = c.args.steps.now in
    record {
      columns = ap (λ (m : RowList). m.columns) c.in_ok-round.ensures ∙ c.items-items.ensures.items;
      held = subst (λ n. HasTaken n [] c.in_ok-reducer.reducer s s) c.items-items.ensures.items (c.in_ok-reducer.ensures s);
      count = refl;
    }

pub take_rows-requires : goal.take_rows-requires
take_rows-requires g c =
    let d = c.args.d.now in
    let x = c.loop-before.before in
    let s = c.args.steps.now in
    record { taken = (balls_to d x, s, ready_for d x c.balls_round.new.matrix c.loop-before.reducer s c.loop-before.steps c.in_ok-balls_round.ensures c.loop-before.invariant.held) }

pub loop-before-preserved : goal.loop-before-preserved
loop-before-preserved g c =
    let d = c.args.d.now in
    let x = c.loop-before.before in
    let s = c.args.steps.now in
    record {
      columns = ap (λ (m : RowList). m.columns) c.in_ok-balls_round.ensures;
      held = centre_taken d x c.balls_round.new.matrix c.loop-before.reducer c.take_rows.new.reducer s c.loop-before.steps c.take_rows.new.steps c.take_rows.result c.in_ok-balls_round.ensures c.loop-before.invariant.held c.take_rows.ensures c.in-None.is;
      count = omega (arith, c.loop-before.invariant.count, c.rows-taken.ensures, ap (λ (m : RowList). length m.rows) c.in_ok-balls_round.ensures, ap length (next_centre d x), length-append (balls_to d x) (balls_round d (x + 1)));
    }

pub overflow_add-taken : goal.overflow_add-taken
overflow_add-taken g c =
    let d = c.args.d.now in
    let x = c.loop-before.before in
    let inside : x < d.items = omega (arith, c.loop-before-test.true, c.items-items.ensures.items) in
    omega (
      arith,
      c.loop-before.invariant.count,
      c.rows-taken.ensures,
      ap (λ (m : RowList). length m.rows) c.in_ok-balls_round.ensures,
      ap length (next_centre d x),
      length-append (balls_to d x) (balls_round d (x + 1)),
      few_to d (x + 1) c.derived_sizes_law.ensures.rows c.items-items.ensures.distances c.requires (omega (arith, inside)),
    )

-- the balls that were taken before, and those of this centre up to the one that is refused
refused : (g : given.Over) (c : In-Some g) → HasRefused (balls_of c.args.d.now) (c.loop-before.taken + c.in-Some.k) c.take_rows.new.reducer c.args.steps.now c.take_rows.new.steps
refused g c =
    let d = c.args.d.now in
    let x = c.loop-before.before in
    let s = c.args.steps.now in
    let f = c.take_rows.new.reducer in
    let inside : x < d.items = omega (arith, c.loop-before-test.true, c.items-items.ensures.items) in
    subst (λ n. HasRefused (balls_of d) (n + c.in-Some.k) f s c.take_rows.new.steps) (sym c.loop-before.invariant.count)
    (centre_refused d x c.balls_round.new.matrix c.loop-before.reducer f s c.loop-before.steps c.take_rows.new.steps c.take_rows.result c.in_ok-balls_round.ensures c.loop-before.invariant.held c.take_rows.ensures c.in-Some.k inside c.in-Some.is)

pub overflow_add-taken-in-Some : goal.overflow_add-taken-in-Some
overflow_add-taken-in-Some g c =
    let d = c.args.d.now in
    omega (arith, (refused g (goal.at.overflow_add-taken-in-Some g c).In-Some).to, few_to d d.items c.derived_sizes_law.ensures.rows c.items-items.ensures.distances c.requires (omega arith))

pub not_robinson-requires : goal.not_robinson-requires
not_robinson-requires g c = (c.args.steps.now, refused g (goal.at.not_robinson-requires g c).In-Some)

pub returns-in-Some-clause-steps : goal.returns-in-Some-clause-steps
returns-in-Some-clause-steps g c = c.not_robinson.ensures.steps c.args.steps.now (refused g (goal.at.returns-in-Some-clause-steps g c).In-Some)

pub returns-in_err-balls_round-clause-steps : goal.returns-in_err-balls_round-clause-steps
returns-in_err-balls_round-clause-steps g c =
    let d = c.args.d.now in
    let inside : c.loop-before.before ≤ d.items = omega (arith, c.loop-before-test.true, c.items-items.ensures.items) in
    unmade_within answer_status c.from_residual-in_err-balls_round.result _ (balls_of d) c.args.steps.now c.loop-before.steps c.from_residual-in_err-balls_round.ensures.1
    (omega (arith, c.loop-before.invariant.held.total, steps_to d c.loop-before.before inside))

pub returns-in_err-tree-clause-steps : goal.returns-in_err-tree-clause-steps
returns-in_err-tree-clause-steps g c =
    let d = c.args.d.now in
    let inside : c.loop-before.before ≤ d.items = omega (arith, c.loop-before.auto.before-end, c.items-items.ensures.items) in
    unmade_within answer_status c.from_residual-in_err-tree.result _ (balls_of d) c.args.steps.now c.loop-before.steps c.from_residual-in_err-tree.ensures.1
    (omega (arith, c.loop-before.invariant.held.total, steps_to d c.loop-before.before inside))

pub returns-clause-answer : goal.returns-clause-answer
returns-clause-answer g c =
    let d = c.args.d.now in
    let whole : c.loop-before.before ≡ d.items = omega (arith, c.loop-before.auto.before-end, c.loop-before-test.false, c.items-items.ensures.items) in
    let held : HasTaken d.items (balls_to d d.items) c.loop-before.reducer c.args.steps.now c.loop-before.steps =
    subst (λ x. HasTaken d.items (balls_to d x) c.loop-before.reducer c.args.steps.now c.loop-before.steps) whole c.loop-before.invariant.held in
    let all : HasAllOrders (balls_of d) c.in_ok-tree.tree = c.in_ok-tree.ensures d.items (balls_to d d.items) c.args.steps.now c.loop-before.steps held in
    (all, all_orders_some (balls_of d) c.in_ok-tree.tree all)

pub returns-clause-steps : goal.returns-clause-steps
returns-clause-steps g c =
    let d = c.args.d.now in
    let x = c.loop-before.before in
    let inside : x ≤ d.items = omega (arith, c.loop-before.auto.before-end, c.items-items.ensures.items) in
    taken_within (balls_of d) c.args.steps.now c.loop-before.steps (omega (arith, c.loop-before.invariant.held.total, steps_to d x inside))
